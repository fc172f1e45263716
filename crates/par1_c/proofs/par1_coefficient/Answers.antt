-- `par1_c::par1_coefficient` meets its contract.
-- Assumes nothing.
use Rattle.par1_c.proofs.CodeCalls.{known_told, unknown_told}
use Rattle.par1_c.proofs.par1_coefficient.Goals as goal

pub returns-in_default : goal.returns-in_default
returns-in_default c = unknown_told _ _ _ c.from.ensures c.in_default.ensures

pub returns : goal.returns
returns c = known_told _ _ _ c.from.ensures c.in-Ok.ensures
    (rw c.coefficient.ensures at c.put_answer.ensures)
