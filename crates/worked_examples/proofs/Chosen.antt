-- Files chosen by a list, whose coefficients cancel in the volumes: what is not recoverable, and which volumes are used.
--
--   cancels_at n l v           the coefficients of the files in l sum to 0 in volume v
--   chosen_undetermined       they cancel in each volume present: none of them is recoverable
--   used_by, chosen_used       they cancel in each lower volume present and not in this one: the test, and that it is used
-- Assumes nothing.
use mathlib.Core.Path.{◌≡◌, refl, sym, ap, ◌∙◌}
use mathlib.Core.Bool.{Bool, true, false, not, cond, ◌||◌, true≢false}
use mathlib.Core.List.{List, [], ◌∷◌}
use Prim.Native.Nat.{ℕ, suc, ◌<◌, ◌≤◌, ◌-◌}
use lib.Dec.{eqb, ltb}
use borrow.Author.Tests.{eqb-true, eqb-false, ltb-true, not-true}
use Rattle.computed_tests.specs.Numbers.{all_below}
use Rattle.computed_tests.proofs.Tests.{test_fails, all_at}
use Rattle.gf256.specs.Polynomial.{sum_below}
use Rattle.gf256.specs.Field.{product}
use Rattle.gf256.proofs.Polynomials.{sum_below-same}
use Rattle.parity.specs.Coefficient.{coefficient}
use Rattle.parity.proofs.Coefficients.{coefficient_byte}
use Rattle.elimination.specs.ByteField.{Byte}
use Rattle.recovery.specs.Recoverable.{State, column, Recoverable, Used}
use Rattle.recovery.proofs.Rows.{K}
use Rattle.worked_examples.specs.Examples.{listed}
use Rattle.worked_examples.proofs.Tests.{every, every_at, all_listed, each-listed}
use Rattle.worked_examples.proofs.Determined as Determined
open K use {𝟘, 𝟙}

-- ---- files that cancel

unfoldable pub cancels_at : ℕ → List ℕ → ℕ → Bool
cancels_at n l v = eqb (sum_below n (λ i. product (coefficient (suc i) v) (cond (listed (suc i) l) 1 0))) 0

-- the files in l are columns, and cancel in each volume present below s + 1, which is present too, but not in this one
unfoldable pub used_by : State → List ℕ → ℕ → Bool
used_by t l s =
    every (all_listed (column t) l ∷ ltb s (255 - t.n) ∷ t.volumes (suc s) ∷ not (cancels_at t.n l (suc s))
    ∷ all_below s (λ r. not (t.volumes (suc r)) || cancels_at t.n l (suc r)) ∷ [])

module _ (t : State) (fits : t.n ≤ 254) (l : List ℕ) (columns : (g : ℕ) → listed g l ≡ true → column t g ≡ true) where
  chosen : ℕ → Byte
  chosen i = cond (listed (suc i) l) 𝟙 𝟘

  chosen_value : (i : ℕ) → (chosen i).0 ≡ cond (listed (suc i) l) 1 0
  unfolding chosen
  chosen_value i = go (listed (suc i) l)
    where
      go : (b : Bool) → (cond b 𝟙 𝟘).0 ≡ cond b 1 0
      go true = refl
      go false = refl

  off : (i : ℕ) → i < t.n → column t (suc i) ≡ false → chosen i ≡ 𝟘
  unfolding chosen
  off i _ e = simp (test_fails (listed (suc i) l) (λ h. true≢false (sym (columns (suc i) h) ∙ e)))

  abbrev chosen_sum : ℕ → ℕ
  chosen_sum s = sum_below t.n (λ i. product (coefficient (suc i) (suc s)) (cond (listed (suc i) l) 1 0))

  at_row : (s : ℕ) → sum_below t.n (λ i. product (coefficient (suc i) (suc s)) (chosen i).0) ≡ chosen_sum s
  at_row s =
      sum_below-same t.n (λ i. product (coefficient (suc i) (suc s)) (chosen i).0)
      (λ i. product (coefficient (suc i) (suc s)) (cond (listed (suc i) l) 1 0))
      (λ i m. ap (product (coefficient (suc i) (suc s))) (chosen_value i))

  cancel_zero : (s : ℕ) → cancels_at t.n l (suc s) ≡ true
      → sum_below t.n (λ i. product (coefficient (suc i) (suc s)) (chosen i).0) ≡ 0
  unfolding cancels_at
  cancel_zero s h = at_row s ∙ eqb-true (chosen_sum s) 0 h

  pub chosen_undetermined : (f : ℕ) → f < t.n → listed (suc f) l ≡ true
      → ((s : ℕ) → t.volumes (suc s) ≡ true → cancels_at t.n l (suc s) ≡ true) → ¬ Recoverable coefficient t (suc f)
  unfolding chosen
  chosen_undetermined f inside asked cancel =
      Determined.cancel_undetermined coefficient coefficient_byte t fits chosen off f inside (columns (suc f) asked)
      (λ e. K.one_ne_zero (ap (λ (b : Bool). cond b 𝟙 𝟘) (sym asked) ∙ e)) (λ s e. cancel_zero s (cancel s e))

  lower_used : (s : ℕ) → s < 255 - t.n → t.volumes (suc s) ≡ true → cancels_at t.n l (suc s) ≡ false
      → ((r : ℕ) → r < s → t.volumes (suc r) ≡ true → cancels_at t.n l (suc r) ≡ true) → Used coefficient t (suc s)
  unfolding cancels_at
  lower_used s inside here other lower =
      Determined.cancel_used coefficient coefficient_byte t fits chosen off s inside here
      (λ e. eqb-false (chosen_sum s) 0 other (sym (at_row s) ∙ e)) (λ r b e. cancel_zero r (lower r b e))

pub chosen_used : (t : State) → t.n ≤ 254 → (l : List ℕ) (s : ℕ) → used_by t l s ≡ true → Used coefficient t (suc s)
unfolding used_by
chosen_used t fits l s h = let at = every_at _ h in
    lower_used t fits l (each-listed (column t) l (at 0)) s (ltb-true s (255 - t.n) (at 1)) (at 2)
    (not-true (cancels_at t.n l (suc s)) (at 3))
    (λ r b e.
    sym (ap (λ (x : Bool). not x || cancels_at t.n l (suc r)) e)
    ∙ all_at s (λ r. not (t.volumes (suc r)) || cancels_at t.n l (suc r)) (at 4) r b)
