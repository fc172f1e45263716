-- `md5_blocks::rounds::rotl` meets its contract.
-- Assumes nothing.
use Rattle.md5_blocks.proofs.Steps.{rotated}
use Rattle.md5_blocks.proofs.rounds.rotl.Goals as goal

pub returns : goal.returns
returns c = cc (rotated c.args.x c.args.s c.requires.0 c.requires.1)
