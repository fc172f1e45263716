-- `inventory::Inventory::count` meets its contract.
-- Assumes nothing.
use mathlib.Core.Path.{sym, ◌∙◌}
use Rattle.inventory.specs.Steps.{count_reply, count_step}
use Rattle.inventory.proofs.Inventory.count.Goals as goal

pub returns-then-not-is_inventory : goal.returns-then-not-is_inventory
unfolding count_reply count_step
returns-then-not-is_inventory c = simp (sym c.is_inventory.ensures ∙ c.if-not-is_inventory.true)

pub returns : goal.returns
unfolding count_reply count_step
returns c = let valid = sym c.is_inventory.ensures ∙ c.if-not-is_inventory.false in
    simp (valid, c.size.ensures, c.size-2.ensures, c.size-3.ensures)
