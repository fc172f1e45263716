-- Sums over a list of numbers in any order.
--
--   sum_over g ks      the sum of g k over the numbers k in ks
--   sum_over_once      over each chosen number once: the sum over 1, 2, .., n of what is chosen
-- Assumes nothing.
use mathlib.Core.Path.{◌≡◌, refl, sym, ap, ap₂, ◌∙◌}
use mathlib.Core.Bool.{Bool, true, false, cond}
use mathlib.Core.List.{List, [], ◌∷◌}
use mathlib.Core.Logic.{⊎_elim}
use Prim.Native.Nat.{ℕ, zero, suc, ◌<◌, ◌≤◌}
use native.Mathlib.Nat.{le_of_suc-le-suc, eq-or-lt_of_le}
use native.Mathlib.Omega.{arith}
use lib.Bits.{bit_xor, xor_comm, xor_zero_r}
use lib.Dec.{eqb}
use borrow.Author.Tests.{eq-eqb, ne_eqb}
use Rattle.gf256.specs.Polynomial.{sum_below}
use Rattle.gf256.proofs.Polynomials.{sum_below_xor, sum_below-same, sum_below-none}
use Rattle.mul_add.specs.Once.{count, Once}
use Rattle.mul_add.proofs.Counts.{count_head, count_tail}

unfoldable pub sum_over : (ℕ → ℕ) → List ℕ → ℕ
sum_over g [] = 0
sum_over g (k ∷ ks) = bit_xor (g k) (sum_over g ks)

-- ---- one term of a sum

term : (ℕ → ℕ) → ℕ → ℕ → ℕ
term g k i = cond (eqb (suc i) k) (g (suc i)) 0

term_same : (g : ℕ → ℕ) (k i : ℕ) → suc i ≡ k → term g k i ≡ g k
unfolding term
term_same g k i e = ap (λ (t : Bool). cond t (g (suc i)) 0) (eq-eqb (suc i) k e) ∙ ap g e

term_other : (g : ℕ → ℕ) (k i : ℕ) → (suc i ≡ k → ⊥) → term g k i ≡ 0
unfolding term
term_other g k i q = ap (λ (t : Bool). cond t (g (suc i)) 0) (ne_eqb (suc i) k q)

-- the only term that counts is that of k
sum_term : (g : ℕ → ℕ) (n k : ℕ) → 0 < k → k ≤ n → sum_below n (term g k) ≡ g k
unfolding sum_below
sum_term g zero k pos h = absurd (omega arith)
sum_term g (suc n) k pos h =
    ⊎_elim
    (λ (e : k ≡ suc n).
    ap₂ bit_xor
    (sum_below-same n (term g k) (λ i. 0) (λ i l. term_other g k i (λ q. omega arith)) ∙ sum_below-none n)
    (term_same g k n (sym e)))
    (λ (l : k < suc n).
    ap₂ bit_xor (sum_term g n k pos (le_of_suc-le-suc l)) (term_other g k n (λ q. omega arith)) ∙ xor_zero_r (g k))
    (eq-or-lt_of_le h)

-- ---- a sum over a list

-- x as often as c says
times : ℕ → ℕ → ℕ
times zero x = 0
times (suc c) x = bit_xor (times c x) x

-- one number more in the list
times_more : (t : Bool) (c x : ℕ) → times (cond t (suc c) c) x ≡ bit_xor (times c x) (cond t x 0)
unfolding times
times_more true c x = refl
times_more false c x = sym (xor_zero_r (times c x))

sum_over_count : (g : ℕ → ℕ) (n : ℕ) (ks : List ℕ) → ((k : ℕ) → 0 < count k ks → (0 < k) × (k ≤ n))
    → sum_over g ks ≡ sum_below n (λ i. times (count (suc i) ks) (g (suc i)))
unfolding sum_over count times term
sum_over_count g n [] h = sym (sum_below-none n)
sum_over_count g n (k ∷ ks) h = let inside = h k (count_head k ks) in
    let rest : ℕ → ℕ = λ (i : ℕ). times (count (suc i) ks) (g (suc i)) in
    xor_comm (g k) (sum_over g ks)
    ∙ ap₂ bit_xor (sum_over_count g n ks (λ j l. h j (count_tail j k ks l)))
    (sym (sum_term g n k inside.0 inside.1))
    ∙ sym
    (sum_below_xor n (λ i. times (count (suc i) (k ∷ ks)) (g (suc i))) rest (term g k)
    (λ i. times_more (eqb (suc i) k) (count (suc i) ks) (g (suc i))))

-- ---- each chosen number once

times_once : (t : Bool) (c x : ℕ) → c ≡ cond t 1 0 → times c x ≡ cond t x 0
unfolding times
times_once true c x e = ap (λ (c : ℕ). times c x) e
times_once false c x e = ap (λ (c : ℕ). times c x) e

chosen_here : (t : Bool) (c : ℕ) → c ≡ cond t 1 0 → 0 < c → t ≡ true
chosen_here true c e h = refl
chosen_here false c e h = absurd (omega arith)

pub sum_over_once : (g : ℕ → ℕ) (n : ℕ) (chosen : ℕ → Bool) (ks : List ℕ) → Once chosen ks
    → ((k : ℕ) → chosen k ≡ true → (0 < k) × (k ≤ n))
    → sum_over g ks ≡ sum_below n (λ i. cond (chosen (suc i)) (g (suc i)) 0)
sum_over_once g n chosen ks once inside =
    sum_over_count g n ks (λ k h. inside k (chosen_here (chosen k) (count k ks) (once k) h))
    ∙ sum_below-same n (λ i. times (count (suc i) ks) (g (suc i))) (λ i. cond (chosen (suc i)) (g (suc i)) 0)
    (λ i l. times_once (chosen (suc i)) (count (suc i) ks) (g (suc i)) (once (suc i)))
