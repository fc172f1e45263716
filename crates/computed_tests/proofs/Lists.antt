-- The laws of lists and searches by a rule.
--
--   length-list_below, list_below_at   a list by a rule, entry by entry
--   list_below_is                     a list of that length with these entries is the list by the rule
--   list_below-same                   two rules that agree below the length
--   IsFirst m t k                    k is the first number below m at which t passes, or m
--   first_is, first_only             so is what the search finds, and nothing else
--   first_below-same                  two tests that agree below the bound
-- Assumes nothing.
use mathlib.Core.Path.{◌≡◌, refl, sym, ap, ap₂, ◌∙◌, subst}
use mathlib.Core.Bool.{Bool, true, false, cond, true≢false}
use mathlib.Core.List.{List, ◌∷◌}
use Prim.Native.Nat.{ℕ, zero, suc, ◌<◌, ◌≤◌}
use native.Mathlib.Nat.{le_of_suc-le-suc, not-suc-le-zero}
use native.Mathlib.Omega.{arith}
use lib.ListN.{length, get_or}
use lib.Seq.{ext_get_or}
use Rattle.computed_tests.specs.Lists.{list_below, first_below}

-- ---- lists

pub length-list_below : (m : ℕ) (f : ℕ → ℕ) → length (list_below m f) ≡ m
unfolding list_below
length-list_below zero f = refl
length-list_below (suc m) f = ap suc (length-list_below m (λ p. f (suc p)))

pub list_below_at : (m : ℕ) (f : ℕ → ℕ) (p : ℕ) → p < m → get_or (list_below m f) p 0 ≡ f p
unfolding list_below
list_below_at zero f p h = absurd (not-suc-le-zero h)
list_below_at (suc m) f zero h = refl
list_below_at (suc m) f (suc p) h = list_below_at m (λ p. f (suc p)) p (le_of_suc-le-suc h)

pub list_below_is : (m : ℕ) (f : ℕ → ℕ) (l : List ℕ) → length l ≡ m → ((p : ℕ) → p < m → get_or l p 0 ≡ f p) → l ≡ list_below m f
list_below_is m f l e h =
    ext_get_or 0 l (list_below m f) (e ∙ sym (length-list_below m f))
    (λ p b. let inside = subst (λ (n : ℕ). p < n) e b in h p inside ∙ sym (list_below_at m f p inside))

pub list_below-same : (m : ℕ) (f g : ℕ → ℕ) → ((p : ℕ) → p < m → f p ≡ g p) → list_below m f ≡ list_below m g
unfolding list_below
list_below-same zero f g h = refl
list_below-same (suc m) f g h =
    ap₂ ◌∷◌ (h 0 (omega arith)) (list_below-same m (λ p. f (suc p)) (λ p. g (suc p)) (λ p l. h (suc p) (omega arith)))

-- ---- searches

pub record IsFirst (m : ℕ) (t : ℕ → Bool) (k : ℕ) : Type 0 where
  pub within : k ≤ m
  pub found : k < m → t k ≡ true
  pub before : (j : ℕ) → j < k → t j ≡ false

pub first_is : (m : ℕ) (t : ℕ → Bool) → IsFirst m t (first_below m t)
unfolding first_below
first_is zero t = record { within = omega arith; found = λ l. absurd (not-suc-le-zero l); before = λ j l. absurd (not-suc-le-zero l) }
first_is (suc m) t = go (first_is m (λ k. t (suc k))) (t 0) refl
  where
    next : ℕ
    next = suc (first_below m (λ k. t (suc k)))

    go : IsFirst m (λ k. t (suc k)) (first_below m (λ k. t (suc k))) → (b : Bool) → t 0 ≡ b → IsFirst (suc m) t (cond b 0 next)
    go rest true e = record { within = omega arith; found = λ l. e; before = λ j l. absurd (not-suc-le-zero l) }
    go rest false e = record { within = omega (arith, rest.within); found = λ l. rest.found (le_of_suc-le-suc l); before = none }
      where
        none : (j : ℕ) → j < next → t j ≡ false
        none zero l = e
        none (suc j) l = rest.before j (le_of_suc-le-suc l)

module _ (m : ℕ) (t : ℕ → Bool) where
  not-before : (k l : ℕ) → IsFirst m t k → IsFirst m t l → k < l → ⊥
  not-before k l P Q b = let h = Q.within in true≢false (sym (P.found (omega arith)) ∙ Q.before k b)

  pub first_only : (k : ℕ) → IsFirst m t k → k ≡ first_below m t
  first_only k P = omega (arith, not-before k (first_below m t) P (first_is m t), not-before (first_below m t) k (first_is m t) P)

pub first_below-same : (m : ℕ) (s t : ℕ → Bool) → ((k : ℕ) → k < m → s k ≡ t k) → first_below m s ≡ first_below m t
unfolding first_below
first_below-same zero s t h = refl
first_below-same (suc m) s t h =
    ap₂ (λ (b : Bool) (k : ℕ). cond b 0 (suc k)) (h 0 (omega arith))
    (first_below-same m (λ k. s (suc k)) (λ k. t (suc k)) (λ k l. h (suc k) (omega arith)))
