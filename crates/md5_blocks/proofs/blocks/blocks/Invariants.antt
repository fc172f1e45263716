-- `md5_blocks::blocks::blocks` meets its contract.
-- Assumes nothing.
use Rattle.std.proofs.Common.{◌≡◌, ◌*◌, drop}
use Rattle.md5_blocks.specs.Blocks.{all_blocks}
use Rattle.md5_blocks.proofs.blocks.blocks.Given as goal

abbrev pub invariant-loop-k : goal.invariant-loop-k
invariant-loop-k l = all_blocks l.v (drop (64 * l.k) l.s) ≡ all_blocks l.initial.v l.s
