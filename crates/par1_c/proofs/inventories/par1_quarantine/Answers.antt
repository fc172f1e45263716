-- `par1_c::inventories::par1_quarantine` meets its contract.
-- Assumes nothing.
use Rattle.inventory.specs.Model.{quarantine}
use Rattle.inventory.specs.Steps.{change_step}
use Rattle.par1_c.proofs.CallLaws.{changed-same}
use Rattle.par1_c.proofs.inventories.par1_quarantine.Goals as goal

pub returns : goal.returns
returns c = changed-same _ (change_step quarantine) _ c.loaded.ensures c.quarantine.ensures c.store.ensures
