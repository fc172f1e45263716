-- `par1_c::mul_adds::par1_mul_add_push` meets its contract.
-- Assumes nothing.
use Rattle.par1_c.proofs.MulAddCalls.{pushed-same}
use Rattle.par1_c.proofs.mul_adds.par1_mul_add_push.Goals as goal

pub returns : goal.returns
returns c = pushed-same _ _ _ c.loaded_mul_add.ensures c.push.ensures c.store_mul_add.ensures
