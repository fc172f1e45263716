-- `running_read::over` meets its contract.
-- Assumes nothing.
use mathlib.Core.Path.{refl}
use Rattle.running_read.specs.Running.{over_of}
use Rattle.running_read.proofs.over.Goals as goal

pub returns : goal.returns
unfolding over_of
returns c = refl
