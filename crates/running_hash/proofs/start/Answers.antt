-- `running_hash::start` meets its contract.
-- Assumes nothing.
use mathlib.Core.Path.{ap}
use Rattle.running_hash.specs.Hash.{running, start_hash}
use Rattle.running_hash.proofs.start.Goals as goal

pub returns : goal.returns
unfolding start_hash
returns c = ap running c.new.ensures
