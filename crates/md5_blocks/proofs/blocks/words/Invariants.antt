-- `md5_blocks::blocks::words` meets its contract.
-- Assumes nothing.
use Rattle.std.proofs.Common.{◌≡◌, length, take}
use Rattle.md5_blocks.specs.Blocks.{words_of}
use Rattle.md5_blocks.proofs.blocks.words.Given as goal

abbrev pub invariant-loop-k : goal.invariant-loop-k
invariant-loop-k l = (length l.word-items ≡ 16) × (take l.k l.word-items ≡ words_of l.k l.s)
