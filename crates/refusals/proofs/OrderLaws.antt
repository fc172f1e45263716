-- Tests in an order, each of which decides what it is named for.
--
--   Decides ok P            the test ok fails exactly where P holds
--   fails_where, passes_where     so it fails where P holds, and passes where it does not
--   decides_as, decides_by  the same of what holds where P does; of a test and what it tells
--   Told P ks n             n is the first of the numbers ks whose test P holds, or 0 where none does
--   told_end, told_test     no test, and a test in front of others
--   told_first, told_none   what is told where there is a first number, and where there is none
-- Assumes nothing.
use mathlib.Core.Path.{◌≡◌, refl, sym, ◌∙◌}
use mathlib.Core.Bool.{Bool, true, false}
use mathlib.Core.List.{List, [], ◌∷◌}
use mathlib.Core.Logic.{◌⊎◌, inl, inr}
use Prim.Native.Nat.{ℕ}
use Rattle.refusals.specs.Order.{First}
use Rattle.refusals.specs.Tests.{test}

-- ---- what a test decides

pub data Decides (ok : Bool) (P : Type 0) : Type 0 where
  passes : ok ≡ true → (P → ⊥) → Decides ok P
  fails : ok ≡ false → P → Decides ok P

module _ {ok : Bool} {P : Type 0} where
  pub fails_where : Decides ok P → P → ok ≡ false
  fails_where (passes e none) p = absurd (none p)
  fails_where (fails e some) p = e

  pub passes_where : Decides ok P → (P → ⊥) → ok ≡ true
  passes_where (passes e none) h = e
  passes_where (fails e some) h = absurd (h some)

  pub decides_as : {Q : Type 0} → Decides ok P → (P → Q) → (Q → P) → Decides ok Q
  decides_as (passes e none) to back = passes e (λ q. none (back q))
  decides_as (fails e some) to back = fails e (to some)

pub decides_by : (ok : Bool) {P : Type 0} → (ok ≡ true → P → ⊥) → (ok ≡ false → P) → Decides ok P
decides_by true right wrong = passes refl (right refl)
decides_by false right wrong = fails refl (wrong refl)

-- ---- the first that holds

pub data Told (P : ℕ → Type 0) (ks : List ℕ) (n : ℕ) : Type 0 where
  none : n ≡ 0 → ((k : ℕ) → First P ks k → ⊥) → Told P ks n
  some : (n ≡ 0 → ⊥) → First P ks n → Told P ks n

pub told_end : {P : ℕ → Type 0} → Told P [] 0
unfolding First
told_end = none refl (λ k h. h)

first_one : (P : ℕ → Type 0) (ks : List ℕ) (j k : ℕ) → First P ks j → First P ks k → j ≡ k
unfolding First
first_one P [] j k x _ = elim x [ ]
first_one P (i ∷ ks) j k (inl a) (inl b) = sym a.1 ∙ b.1
first_one P (i ∷ ks) j k (inl a) (inr b) = absurd (b.0 a.0)
first_one P (i ∷ ks) j k (inr a) (inl b) = absurd (a.0 b.0)
first_one P (i ∷ ks) j k (inr a) (inr b) = first_one P ks j k a.1 b.1

module _ {P : ℕ → Type 0} where
  pub told_test : {ks : List ℕ} {n : ℕ} (k : ℕ) {ok : Bool} → (k ≡ 0 → ⊥) → Decides ok (P k) → (ok ≡ true → Told P ks n)
      → Told P (k ∷ ks) (test k ok n)
  unfolding First
  told_test {ks} {n} k h (fails e p) rest = rw e (some h (inl (p, refl)))
  told_test {ks} {n} k h (passes e not) rest = rw e (by (rest e))
    where
      neither : ((m : ℕ) → First P ks m → ⊥) → (m : ℕ) → (P k × (k ≡ m)) ⊎ ((P k → ⊥) × First P ks m) → ⊥
      neither nowhere m (inl a) = not a.0
      neither nowhere m (inr a) = nowhere m a.1

      by : Told P ks n → Told P (k ∷ ks) n
      by (none z nowhere) = none z (neither nowhere)
      by (some l f) = some l (inr (not, f))

  pub told_first : {ks : List ℕ} {n k : ℕ} → Told P ks n → First P ks k → (n ≡ k) × (k ≡ 0 → ⊥)
  told_first (none z nowhere) f = absurd (nowhere _ f)
  told_first {ks} {n} {k} (some h g) f = let e = first_one P ks n k g f in (e, λ z. h (e ∙ z))

  pub told_none : {ks : List ℕ} {n : ℕ} → Told P ks n → ((k : ℕ) → First P ks k → ⊥) → n ≡ 0
  told_none (none z nowhere) h = z
  told_none (some l f) h = absurd (h _ f)
