-- `inventory::Inventory::query` meets its contract.
-- Assumes nothing.
use mathlib.Core.Path.{sym, ◌∙◌}
use Rattle.parity.specs.Coefficient.{rule_of}
use Rattle.parity.proofs.Coefficients.{rule_byte}
use Rattle.inventory.proofs.Queries.{query_no_inventory, query_out_of_range, query_answered}
use Rattle.inventory.proofs.Inventory.query.Goals as goal
use Rattle.inventory.proofs.Inventory.query.Goals.{then-not-is_inventory-via-then-not-is_inventory, then-not-is_inventory-via-else-not-is_inventory+then-not-one_to}

pub returns-then-not-is_inventory : goal.returns-then-not-is_inventory
returns-then-not-is_inventory c = elim c.then-not-is_inventory.branch [
  | then-not-is_inventory-via-then-not-is_inventory w ↦ query_no_inventory rule_of _ _ _ (sym c.is_inventory.ensures ∙ w.if-not-is_inventory.true)
  | then-not-is_inventory-via-else-not-is_inventory+then-not-one_to w ↦
      query_out_of_range rule_of _ (sym c.is_inventory.ensures ∙ w.if-not-is_inventory.false) _ _ (sym w.one_to.ensures ∙ w.if-not-one_to.true)
]

pub returns : goal.returns
returns c = query_answered rule_of rule_byte _ (sym c.is_inventory.ensures ∙ c.if-not-is_inventory.false) _ _ (sym c.one_to.ensures ∙ c.if-not-one_to.false) _ _
    (rw c.holdings.ensures at c.query.ensures)
