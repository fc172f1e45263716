-- `par1_c::inventories::par1_add_file` meets its contract.
-- Assumes nothing.
use Rattle.inventory.specs.Model.{add_file}
use Rattle.inventory.specs.Steps.{change_step}
use Rattle.par1_c.proofs.CallLaws.{changed-same}
use Rattle.par1_c.proofs.inventories.par1_add_file.Goals as goal

pub returns : goal.returns
returns c = changed-same _ (change_step add_file) _ c.loaded.ensures c.add_file.ensures c.store.ensures
