-- Laws of how many numbers are in a set.
--
--   counts_one, counts-none      what a number counts for
--   size_same        sets with the same numbers below the bound have one size
--   size_shifted     the numbers less 1, where neither 0 nor the bound is in the set
--   size_remove      one number less
--   size_insert      one number more
--   size_kept        a number less that is not in the set
-- Assumes nothing.
use mathlib.Core.Path.{◌≡◌, refl, sym, ap, ap₂, ◌∙◌}
use mathlib.Core.Bool.{Bool, true, false, not, cond, ◌&&◌, ◌||◌}
use Prim.Native.Nat.{ℕ, zero, suc, ◌<◌, ◌+◌}
use native.Mathlib.Nat.{not-suc-le-zero}
use native.Mathlib.Omega.{arith}
use native.Mathlib.Decide.{ℕ_discrete}
use lib.Dec.{eqb}
use borrow.Author.Tests.{eq-eqb, ne_eqb, eqb-true}
use Rattle.number_sets.specs.Sets.{size_below}
use Rattle.inventory.specs.Model.{insert, remove}
use Rattle.inventory.proofs.ModelSets.{insert_here}

pub size_same : (m : ℕ) (s t : ℕ → Bool) → ((k : ℕ) → k < m → s k ≡ t k) → size_below m s ≡ size_below m t
unfolding size_below
size_same zero s t h = refl
size_same (suc m) s t h = ap₂ (λ (a : ℕ) (b : Bool). a + cond b 1 0) (size_same m s t (λ k l. h k (omega arith))) (h m (omega arith))

-- a number counts as 1 where it is in a set, else as 0
pub counts_one : (b : Bool) → b ≡ true → ◌≡◌ {A = ℕ} (cond b 1 0) 1
counts_one b e = ap (λ (c : Bool). cond c 1 0) e

pub counts-none : (b : Bool) → b ≡ false → ◌≡◌ {A = ℕ} (cond b 1 0) 0
counts-none b e = ap (λ (c : Bool). cond c 1 0) e

-- ---- numbers from 0

size_first : (m : ℕ) (s : ℕ → Bool) → size_below (suc m) s ≡ cond (s 0) 1 0 + size_below m (λ k. s (suc k))
unfolding size_below
size_first zero s = omega arith
size_first (suc m) s = let e = size_first m s in omega arith

pub size_shifted : (m : ℕ) (s : ℕ → Bool) → s 0 ≡ false → s m ≡ false → size_below m s ≡ size_below m (λ k. s (suc k))
unfolding size_below
size_shifted m s first last = let e = size_first m s in
    let a = counts-none (s 0) first in
    let z = counts-none (s m) last in
    omega arith

-- ---- one number less

pub size_remove : (m : ℕ) (s : ℕ → Bool) (a : ℕ) → a < m → s a ≡ true → size_below m s ≡ suc (size_below m (remove a s))
unfolding size_below
size_remove zero s a l e = absurd (not-suc-le-zero l)
size_remove (suc m) s a l e =
    elim (ℕ_discrete m a) [
      | yes p ↦
          let kept = size_same m (remove a s) s
          (λ k h. ap (λ (b : Bool). not b && s k) (ne_eqb k a (λ z. omega arith))) in
          let here = counts_one (s m) (ap s p ∙ e) in
          let gone = counts-none (remove a s m) (ap (λ (b : Bool). not b && s m) (eq-eqb m a p)) in
          omega arith
      | no q ↦
          let less = size_remove m s a (omega arith) e in
          let same : ◌≡◌ {A = ℕ} (cond (remove a s m) 1 0) (cond (s m) 1 0) = ap (λ (b : Bool). cond (not b && s m) 1 0) (ne_eqb m a q) in
          omega arith
    ]

-- ---- a number that is not in the set

module _ (m : ℕ) (s : ℕ → Bool) (a : ℕ) (none : s a ≡ false) where
  pub size_insert : a < m → size_below m (insert a s) ≡ suc (size_below m s)
  size_insert l = size_remove m (insert a s) a l (insert_here s a) ∙ ap suc (size_same m (remove a (insert a s)) s (λ k h. go k (eqb k a) refl))
    where
      go : (k : ℕ) (b : Bool) → eqb k a ≡ b → (not b && (b || s k)) ≡ s k
      go k true e = sym (ap s (eqb-true k a e) ∙ none)
      go k false e = refl

  pub size_kept : size_below m (remove a s) ≡ size_below m s
  size_kept = size_same m (remove a s) s (λ k h. go k (eqb k a) refl)
    where
      go : (k : ℕ) (b : Bool) → eqb k a ≡ b → (not b && s k) ≡ s k
      go k true e = sym (ap s (eqb-true k a e) ∙ none)
      go k false e = refl
