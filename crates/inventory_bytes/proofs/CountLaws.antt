-- A count in lent bytes, by its case.
--
--   count-refused, count-written     a refusal, and three counts
-- Assumes nothing.
use mathlib.Core.Path.{◌≡◌, refl, ap}
use mathlib.Core.Bool.{Bool, true, false, cond}
use mathlib.Core.List.{List, [], ◌∷◌}
use Prim.Native.Nat.{ℕ}
use borrow.Author.Tests.{eqb-true}
use lib.Dec.{eqb, leb-zero}
use lib.ListN.{length}
use Rattle.lent_bytes.specs.Writing.{refused, written, written_unless, with_number}
use Rattle.refusals.specs.Tests.{bare}
use Rattle.inventory.specs.Model.{numbered, counts}
use Rattle.little_endian.specs.Bytes.{numbers}
use Rattle.inventory_bytes.specs.Inventories.{counted_into}

module _ (out : List ℕ) where
  pub count-refused : (k : ℕ) → (k, out) ≡ counted_into (numbered k) out
  unfolding counted_into written_unless written numbers
  count-refused k = go (eqb k 0) refl
    where
      go : (b : Bool) → eqb k 0 ≡ b → (k, out) ≡ with_number (cond b (written [] out) (refused (bare k) out))
      go true e = simp (leb-zero (length out)) (ap (λ (n : ℕ). (n, out)) (eqb-true k 0 e))
      go false e = refl

  pub count-written : {r : ℕ × List ℕ} (files volumes quarantined : ℕ)
      → r ≡ with_number (written (numbers (files ∷ volumes ∷ quarantined ∷ [])) out) → r ≡ counted_into (counts files volumes quarantined) out
  unfolding counted_into written_unless
  count-written files volumes quarantined e = e
