-- `par1_c::length_told` meets its contract.
-- Assumes nothing.
use mathlib.Core.Path.{refl}
use Rattle.par1_c.proofs.length_told.Goals as goal

pub returns-in-Ok : goal.returns-in-Ok
returns-in-Ok c = rw c.in-Ok.is refl
