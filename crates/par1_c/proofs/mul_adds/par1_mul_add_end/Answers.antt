-- `par1_c::mul_adds::par1_mul_add_end` meets its contract.
-- Assumes nothing.
use Rattle.par1_c.proofs.MulAddCalls.{ended_same}
use Rattle.par1_c.proofs.mul_adds.par1_mul_add_end.Goals as goal

pub returns : goal.returns
returns c = ended_same _ c.loaded_mul_add.ensures c.end.ensures c.store_mul_add.ensures
