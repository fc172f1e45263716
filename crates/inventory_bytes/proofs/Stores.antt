-- What a call stores, by its outcome.
--
--   stored_outcome     what a call returns is stored as its outcome
-- Assumes nothing.
use mathlib.Core.Path.{◌≡◌, refl, sym, ap, ◌∙◌}
use mathlib.Core.Bool.{Bool, true, false, cond, true≢false}
use mathlib.Core.List.{List}
use Prim.Native.Nat.{ℕ}
use lib.Dec.{eqb}
use borrow.Author.Tests.{eqb-true, eq-eqb}
use Rattle.std.specs.Prelude.{Ok, Err}
use Rattle.lent_bytes.proofs.WritingLaws.{unless_refused, numbered_as}
use Rattle.inventory.specs.Outcome.{Outcome}
use Rattle.inventory.specs.Steps.{outcome, refusal, handed_back}
use Rattle.inventory_bytes.specs.Inventories.{stored, stored_by}

pub stored_outcome : (o : Outcome) (out : List ℕ) → stored (handed_back o) out ≡ stored_by o out
unfolding stored stored_by
stored_outcome o out = go (eqb o.number 0) refl
  where
    go : (b : Bool) → eqb o.number 0 ≡ b → stored (cond b (Ok o.next) (Err (refusal o))) out ≡ stored_by o out
    go true e = ap (λ (k : ℕ). stored_by (outcome o.next k) out) (sym (eqb-true o.number 0 e))
    go false e = numbered_as refl (unless_refused _ _ refl (λ z. true≢false (sym (eq-eqb o.number 0 z) ∙ e)) refl)
