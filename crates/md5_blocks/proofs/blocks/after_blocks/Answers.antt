-- `md5_blocks::blocks::after_blocks` meets its contract.
-- Assumes nothing.
use Rattle.std.proofs.Common.{refl}
use Rattle.md5_blocks.specs.Rounds.{sines}
use Rattle.md5_blocks.proofs.blocks.after_blocks.Goals as goal

pub blocks-requires : goal.blocks-requires
unfolding sines
blocks-requires c = refl

pub blocks-requires-2 : goal.blocks-requires-2
unfolding sines
blocks-requires-2 c = refl
