-- `running_read::reading_of` meets its contract.
-- Assumes nothing.
use Rattle.running_read.specs.Running.{reading_of}
use Rattle.running_read.proofs.reading_of.Goals as goal

pub returns : goal.returns
unfolding reading_of
returns c = cc
