-- `inventory::Inventory::permitted` meets its contract.
-- Assumes nothing.
use mathlib.Core.Path.{sym, ◌∙◌}
use Rattle.inventory.specs.Steps.{change_number, if_inventory}
use Rattle.inventory.proofs.Inventory.permitted.Goals as goal
use Rattle.inventory.proofs.Inventory.permitted.Goals.{then-not-is_inventory-via-then-not-is_inventory, then-not-is_inventory-via-else-not-is_inventory+then-not-in_range}

pub returns-then-not-is_inventory : goal.returns-then-not-is_inventory
unfolding if_inventory change_number
returns-then-not-is_inventory c = elim c.then-not-is_inventory.branch [
  | then-not-is_inventory-via-then-not-is_inventory w ↦ simp (c.refused.ensures, sym c.is_inventory.ensures ∙ w.if-not-is_inventory.true)
  | then-not-is_inventory-via-else-not-is_inventory+then-not-in_range w ↦
      simp (c.refused.ensures, sym c.is_inventory.ensures ∙ w.if-not-is_inventory.false, w.if-not-in_range.true)
]

pub returns-then-other : goal.returns-then-other
unfolding if_inventory change_number
returns-then-other c = simp (c.refused-then-other.ensures, sym c.is_inventory.ensures ∙ c.if-not-is_inventory.false, c.if-not-in_range.false, c.if-other.true)

pub returns-then-aside : goal.returns-then-aside
unfolding if_inventory change_number
returns-then-aside c = simp (c.refused-then-aside.ensures, sym c.is_inventory.ensures ∙ c.if-not-is_inventory.false, c.if-not-in_range.false, c.if-other.false, c.if-aside.true)

pub returns-then-already : goal.returns-then-already
unfolding if_inventory change_number
returns-then-already c =
    simp (c.refused-then-already.ensures, sym c.is_inventory.ensures ∙ c.if-not-is_inventory.false, c.if-not-in_range.false, c.if-other.false, c.if-aside.false, c.if-already.true)

pub returns-else-already : goal.returns-else-already
unfolding if_inventory change_number
returns-else-already c =
    simp (sym c.is_inventory.ensures ∙ c.if-not-is_inventory.false, c.if-not-in_range.false, c.if-other.false, c.if-aside.false, c.if-already.false)
