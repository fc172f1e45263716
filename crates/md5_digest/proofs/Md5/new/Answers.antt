-- `md5::Md5::new` meets its contract.
-- Assumes nothing.
use Rattle.std.proofs.Common.{refl}
use Rattle.md5_blocks.specs.Blocks.{blocks_of}
use Rattle.md5_digest.specs.Digest.{start}
use Rattle.md5_digest.specs.Running.{state_of}
use Rattle.md5_digest.proofs.Md5.new.Goals as goal

pub returns : goal.returns
unfolding start blocks_of state_of
returns c = refl
