-- `par1_c::inventories::par1_remove_volume` meets its contract.
-- Assumes nothing.
use Rattle.inventory.specs.Model.{remove_volume}
use Rattle.inventory.specs.Steps.{change_step}
use Rattle.par1_c.proofs.CallLaws.{changed-same}
use Rattle.par1_c.proofs.inventories.par1_remove_volume.Goals as goal

pub returns : goal.returns
returns c = changed-same _ (change_step remove_volume) _ c.loaded.ensures c.remove_volume.ensures c.store.ensures
