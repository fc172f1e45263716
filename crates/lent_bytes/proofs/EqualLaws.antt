-- The test whether two lists are equal.
--
--   equal-same, equal_true   it passes for equal lists, and only for them
--   equal_lengths            it fails where the lengths differ
--   equal_slices             it is what `==` of slices tells
-- Assumes nothing.
use mathlib.Core.Path.{◌≡◌, refl, sym, ap, ap₂, ◌∙◌}
use mathlib.Core.Bool.{Bool, true, false, ◌&&◌, and-false}
use mathlib.Core.List.{List, [], ◌∷◌}
use Prim.Native.Nat.{ℕ, suc}
use native.Mathlib.Omega.{arith}
use lib.Dec.{eqb}
use lib.Pointwise.{pointwise}
use lib.ListN.{length}
use borrow.Author.Tests.{eqb-true, eq-eqb}
use Rattle.computed_tests.proofs.Tests.{and_both}
use Rattle.lent_bytes.specs.Equal.{equal}

equal_refl : (s : List ℕ) → equal s s ≡ true
unfolding equal
equal_refl [] = refl
equal_refl (a ∷ s) = simp (eq-eqb a a refl, equal_refl s)

pub equal-same : {s t : List ℕ} → s ≡ t → equal s t ≡ true
equal-same {s} {t} e = ap (equal s) (sym e) ∙ equal_refl s

pub equal_true : (s t : List ℕ) → equal s t ≡ true → s ≡ t
unfolding equal
equal_true [] [] e = refl
equal_true [] (b ∷ t) e = absurd (let z : ◌≡◌ {A = ℕ} 0 1 = cc in omega arith)
equal_true (a ∷ s) [] e = absurd (let z : ◌≡◌ {A = ℕ} 0 1 = cc in omega arith)
equal_true (a ∷ s) (b ∷ t) e = let both = and_both (eqb a b) (equal s t) e in ap₂ ◌∷◌ (eqb-true a b both.0) (equal_true s t both.1)

pub equal_lengths : (s t : List ℕ) → (length s ≡ length t → ⊥) → equal s t ≡ false
unfolding equal
equal_lengths [] [] h = absurd (h refl)
equal_lengths [] (b ∷ t) h = refl
equal_lengths (a ∷ s) [] h = refl
equal_lengths (a ∷ s) (b ∷ t) h = simp (equal_lengths s t (λ e. h (ap suc e)), and-false (eqb a b))

-- `==` of slices is this test
pub equal_slices : (s t : List ℕ) → pointwise eqb s t ≡ equal s t
unfolding equal
equal_slices [] [] = refl
equal_slices [] (b ∷ t) = refl
equal_slices (a ∷ s) [] = refl
equal_slices (a ∷ s) (b ∷ t) = ap (λ (e : Bool). eqb a b && e) (equal_slices s t)
