-- What a call that opens or changes an inventory does: the next inventory, and 0 or the number of the refusal.
-- Assumes nothing.
use Rattle.std.specs.Prelude.{ℕ}
use Rattle.inventory.specs.declared.Inventory.{Inventory}

pub record Outcome : Type 0 where
  pub next : Inventory
  pub number : ℕ
