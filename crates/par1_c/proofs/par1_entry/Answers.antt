-- `par1_c::par1_entry` meets its contract.
-- Assumes nothing.
use Rattle.par1_c.proofs.par1_entry.Goals as goal

pub returns : goal.returns
returns c = rw c.first.ensures at c.put_entry.ensures
