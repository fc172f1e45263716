-- `par1_c::inventories::par1_open` meets its contract.
-- Assumes nothing.
use Rattle.par1_c.proofs.CallLaws.{stored_same}
use Rattle.par1_c.proofs.CodeCalls.{known_told, unknown_told}
use Rattle.par1_c.proofs.inventories.par1_open.Goals as goal

pub returns-in_default : goal.returns-in_default
returns-in_default c = unknown_told _ _ _ c.from.ensures c.in_default.ensures

pub returns : goal.returns
returns c = known_told _ _ _ c.from.ensures c.in-Ok.ensures
    (stored_same _ _ c.opened.ensures c.store.ensures)
