-- `par1_c::inventories::par1_release` meets its contract.
-- Assumes nothing.
use Rattle.inventory.specs.Model.{release}
use Rattle.inventory.specs.Steps.{change_step}
use Rattle.par1_c.proofs.CallLaws.{changed-same}
use Rattle.par1_c.proofs.inventories.par1_release.Goals as goal

pub returns : goal.returns
returns c = changed-same _ (change_step release) _ c.loaded.ensures c.release.ensures c.store.ensures
