-- `running_read::counts_of` meets its contract.
-- Assumes nothing.
use mathlib.Core.Path.{refl}
use Rattle.running_read.specs.Running.{counts_of}
use Rattle.running_read.proofs.counts_of.Goals as goal

pub returns : goal.returns
unfolding counts_of
returns c = refl
