-- `par1_c::inventories::par1_remove_file` meets its contract.
-- Assumes nothing.
use Rattle.inventory.specs.Model.{remove_file}
use Rattle.inventory.specs.Steps.{change_step}
use Rattle.par1_c.proofs.CallLaws.{changed-same}
use Rattle.par1_c.proofs.inventories.par1_remove_file.Goals as goal

pub returns : goal.returns
returns c = changed-same _ (change_step remove_file) _ c.loaded.ensures c.remove_file.ensures c.store.ensures
