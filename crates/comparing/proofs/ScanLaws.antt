-- Where two lists differ, from their bytes.
--
--   order                    of two numbers the first is less, or the second is at most as great
--   same_byte, other_byte    a place that both lists have
--   one_side                 a place that one of them lacks
-- Assumes nothing.
use mathlib.Core.Path.{◌≡◌, refl}
use mathlib.Core.Bool.{Bool, true, false}
use mathlib.Core.List.{List}
use mathlib.Core.Logic.{◌⊎◌, inl, inr}
use Prim.Native.Nat.{ℕ, ◌≤◌, ◌<◌, min}
use native.Mathlib.Decide.{dec_lt}
use native.Mathlib.Omega.{arith}
use lib.Dec.{ltb}
use lib.ListN.{length, get_or}
use borrow.Author.Tests.{ltb-true, lt-ltb, eq-eqb, ne_eqb}
use Rattle.comparing.specs.Runs.{differs}

pub order : (m n : ℕ) → (m < n) ⊎ (n ≤ m)
order m n = elim (dec_lt m n) [
  | yes h ↦ inl h
  | no h ↦ inr (omega arith)
]

module _ (a b : List ℕ) (p : ℕ) where
  pub same_byte : p < length a → p < length b → get_or a p 0 ≡ get_or b p 0 → differs a b p ≡ false
  unfolding differs
  same_byte h k e = simp (lt-ltb p (length a) h, lt-ltb p (length b) k, eq-eqb _ _ e)

  pub other_byte : p < length a → p < length b → (get_or a p 0 ≡ get_or b p 0 → ⊥) → differs a b p ≡ true
  unfolding differs
  other_byte h k e = simp (lt-ltb p (length a) h, lt-ltb p (length b) k, ne_eqb _ _ e)

  pub one_side : min (length a) (length b) ≤ p → differs a b p ≡ true
  unfolding differs
  one_side h = by (ltb p (length a)) (ltb p (length b)) refl refl
    where
      by : (x y : Bool) → ltb p (length a) ≡ x → ltb p (length b) ≡ y → differs a b p ≡ true
      by true true ex ey = absurd (omega (arith, ltb-true p (length a) ex, ltb-true p (length b) ey))
      by true false ex ey = simp (ex, ey)
      by false y ex ey = simp ex
