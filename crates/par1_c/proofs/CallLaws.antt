-- What the calls on inventories give, as the code works it out.
--
--   stored_same      what an opening or a change hands back
--   changed_by_outcome, changed-same     a call that changes the inventory, by its outcome, and by what it returns
--   counted_same     a count
-- Assumes nothing.
use mathlib.Core.Path.{◌≡◌, refl, ap, ◌∙◌}
use mathlib.Core.List.{List}
use Prim.Native.Nat.{ℕ}
use Rattle.inventory.specs.Model.{Reply}
use Rattle.inventory.specs.Steps.{handed_back, count_step}
use Rattle.inventory.specs.declared.Inventory.{Inventory}
use Rattle.inventory.specs.declared.Refused.{Refused}
use Rattle.inventory.specs.Outcome.{Outcome}
use Rattle.std.specs.Prelude.{Result}
use Rattle.inventory_bytes.specs.Inventories.{inventory_of, stored, stored_by, counted_into}
use Rattle.inventory_bytes.proofs.Stores.{stored_outcome}
use Rattle.par1_c.specs.Inventories.{changed_by, count_into}

pub stored_same : (o : Outcome) (out : List ℕ) {q : Result Inventory Refused} {r : ℕ × List ℕ} → q ≡ handed_back o → r ≡ stored q out → r ≡ stored_by o out
stored_same o out is e = e ∙ ap (λ (q : Result Inventory Refused). stored q out) is ∙ stored_outcome o out

module _ (b : List ℕ) {s : Inventory} {r : ℕ × List ℕ} where
  pub changed_by_outcome : (step : Inventory → ℕ → Outcome) (k : ℕ) {o : Outcome} → s ≡ inventory_of b → o ≡ step s k → r ≡ stored_by o b
      → r ≡ changed_by step k b
  changed_by_outcome step k loaded stepped stored = stored ∙ ap (λ (o : Outcome). stored_by o b) (stepped ∙ ap (λ (s : Inventory). step s k) loaded)

  pub changed-same : (step : Inventory → ℕ → Outcome) (k : ℕ) {o : Result Inventory Refused} → s ≡ inventory_of b → o ≡ handed_back (step s k)
      → r ≡ stored o b → r ≡ changed_by step k b
  changed-same step k loaded stepped e = changed_by_outcome step k loaded refl (stored_same (step s k) b stepped e)

  pub counted_same : (out : List ℕ) {c : Reply} → s ≡ inventory_of b → c ≡ count_step s → r ≡ counted_into c out → r ≡ count_into b out
  counted_same out loaded counted stored = stored ∙ ap (λ (c : Reply). counted_into c out) (counted ∙ ap count_step loaded)
