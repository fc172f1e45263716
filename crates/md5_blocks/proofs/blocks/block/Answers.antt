-- `md5_blocks::blocks::block` meets its contract.
-- Assumes nothing.
use Rattle.md5_blocks.specs.Blocks.{compress}
use Rattle.md5_blocks.proofs.blocks.block.Goals as goal

pub returns : goal.returns
unfolding compress
returns c = cc
