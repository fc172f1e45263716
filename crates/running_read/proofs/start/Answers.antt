-- `running_read::start` meets its contract.
-- Assumes nothing.
use Rattle.running_read.specs.Running.{start_read}
use Rattle.running_read.proofs.start.Goals as goal

pub returns : goal.returns
unfolding start_read
returns c = cc
