-- `par1_c::inventories::par1_count` meets its contract.
-- Assumes nothing.
use Rattle.par1_c.proofs.CallLaws.{counted_same}
use Rattle.par1_c.proofs.inventories.par1_count.Goals as goal

pub returns : goal.returns
returns c = counted_same _ _ c.loaded.ensures c.count.ensures c.store_count.ensures
