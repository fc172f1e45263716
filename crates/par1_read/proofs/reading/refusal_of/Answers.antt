-- `par1_read::reading::refusal_of` meets its contract.
-- Assumes nothing.
use Rattle.par1_read.proofs.reading.refusal_of.Goals as goal

pub returns-in-Ok : goal.returns-in-Ok
returns-in-Ok c = rw c.in-Ok.is c.bare.ensures
