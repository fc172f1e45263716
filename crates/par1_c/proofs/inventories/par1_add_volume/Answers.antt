-- `par1_c::inventories::par1_add_volume` meets its contract.
-- Assumes nothing.
use Rattle.inventory.specs.Model.{add_volume}
use Rattle.inventory.specs.Steps.{change_step}
use Rattle.par1_c.proofs.CallLaws.{changed-same}
use Rattle.par1_c.proofs.CodeCalls.{known_told, unknown_told}
use Rattle.par1_c.proofs.inventories.par1_add_volume.Goals as goal

pub returns-in_default : goal.returns-in_default
returns-in_default c = unknown_told _ _ _ c.from.ensures c.in_default.ensures

pub returns : goal.returns
returns c = known_told _ _ _ c.from.ensures c.in-Ok.ensures
    (changed-same _ (change_step (add_volume c.in-Ok.code)) _ c.loaded.ensures c.add_volume.ensures c.store.ensures)
