-- How often a number stands in a list.
--
--   count_same, count_other  the number in front counts where it is the one
--   count_head, count_tail   what stands in front stands in the list, and so does what stands in the rest
-- Assumes nothing.
use mathlib.Core.Path.{◌≡◌, refl}
use mathlib.Core.Bool.{Bool, true, false, cond}
use mathlib.Core.List.{List, ◌∷◌}
use Prim.Native.Nat.{ℕ, suc, ◌<◌}
use native.Mathlib.Omega.{arith}
use lib.Dec.{eqb}
use borrow.Author.Tests.{eq-eqb, ne_eqb}
use Rattle.mul_add.specs.Once.{count}

module _ (k j : ℕ) (ks : List ℕ) where
  pub count_same : k ≡ j → count k (j ∷ ks) ≡ suc (count k ks)
  unfolding count
  count_same e = simp (eq-eqb k j e)

  pub count_other : (k ≡ j → ⊥) → count k (j ∷ ks) ≡ count k ks
  unfolding count
  count_other q = simp (ne_eqb k j q)

pub count_head : (k : ℕ) (ks : List ℕ) → 0 < count k (k ∷ ks)
unfolding count
count_head k ks = simp (eq-eqb k k refl) (omega arith)

pub count_tail : (k j : ℕ) (ks : List ℕ) → 0 < count k ks → 0 < count k (j ∷ ks)
unfolding count
count_tail k j ks h = go (eqb k j)
  where
    go : (t : Bool) → 0 < cond t (suc (count k ks)) (count k ks)
    go true = omega arith
    go false = h
