-- `inventory::Inventory::recoverable_files` meets its contract.
-- Assumes nothing.
use mathlib.Core.Path.{refl, sym, ◌∙◌}
use Rattle.parity.specs.Coefficient.{rule_of}
use Rattle.parity.proofs.Coefficients.{rule_byte}
use Rattle.inventory.proofs.RecoverableSets.{set-refused, set-gathered}
use Rattle.inventory.proofs.Inventory.recoverable_files.Goals as goal

pub returns-then-not-is_inventory : goal.returns-then-not-is_inventory
returns-then-not-is_inventory c = (_, set-refused rule_of _ (sym c.is_inventory.ensures ∙ c.if-not-is_inventory.true), refl)

pub returns : goal.returns
returns c = (_, set-gathered rule_of rule_byte _ (sym c.is_inventory.ensures ∙ c.if-not-is_inventory.false) _ (rw c.holdings.ensures at c.recoverable_files.ensures), refl)
