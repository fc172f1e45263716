-- An order in which to take n files.
--
--   descending n    n, .., 2, 1
--   some_order      each file stands there once
-- Assumes nothing.
use mathlib.Core.Path.{◌≡◌, refl, sym, ap, ◌∙◌}
use mathlib.Core.Bool.{Bool, true, false, cond, false≢true}
use mathlib.Core.List.{List, [], ◌∷◌}
use mathlib.Core.Logic.{⊎_elim}
use Prim.Native.Nat.{ℕ, zero, suc, ◌<◌, ◌≤◌}
use native.Mathlib.Nat.{eq-or-lt_of_le}
use native.Mathlib.Omega.{arith}
use Rattle.mul_add.specs.Once.{count}
use Rattle.mul_add.proofs.Counts.{count_same, count_other}
use Rattle.parity.specs.Claim.{SomeOrder}
use Rattle.parity.specs.Parity.{is_file}
use Rattle.parity.proofs.Files.{is_file_in, is_file_inside}

unfoldable descending : ℕ → List ℕ
descending zero = []
descending (suc n) = suc n ∷ descending n

absent : (n k : ℕ) → (0 < k → k ≤ n → ⊥) → count k (descending n) ≡ 0
unfolding descending count
absent zero k q = refl
absent (suc n) k q = count_other k (suc n) (descending n) (λ e. q (omega arith) (omega arith)) ∙ absent n k (λ pos h. q pos (omega arith))

present : (n k : ℕ) → 0 < k → k ≤ n → count k (descending n) ≡ 1
unfolding descending
present zero k pos h = absurd (omega arith)
present (suc n) k pos h =
    ⊎_elim
    (λ (e : k ≡ suc n). count_same k (suc n) (descending n) e ∙ ap suc (absent n k (λ pos l. omega arith)))
    (λ (l : k < suc n). count_other k (suc n) (descending n) (λ e. omega arith) ∙ present n k pos (omega arith))
    (eq-or-lt_of_le h)

pub some_order : SomeOrder
some_order n = (descending n, λ k. go k (is_file n k) refl)
  where
    go : (k : ℕ) (t : Bool) → is_file n k ≡ t → count k (descending n) ≡ cond t 1 0
    go k true e = let inside = is_file_inside n k e in present n k inside.0 inside.1
    go k false e = absent n k (λ pos h. false≢true (sym e ∙ is_file_in n k pos h))
