-- `par1_c::par1_inverse` meets its contract.
-- Assumes nothing.
use Rattle.par1_c.proofs.par1_inverse.Goals as goal

pub returns : goal.returns
returns c = rw c.inverse.ensures at c.put_answer.ensures
