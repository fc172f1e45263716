-- Laws of tests, and the equations that follow from those that antt computes.
--
--   test_fails             a test that cannot pass fails
--   and_both               two tests that pass together pass each
--   bit_cases              what holds of 0 and of 1 holds of each bit
--   one_to_in, one_to_inside, one_to_outside     the numbers from 1 to m, and no others
--   all_true, all_false    a test passes at each number below m; it fails at one of them
--   all_at                 a test that passes at each number below m passes at any one
--   Function n             the functions of n numbers
--   EqualBelow m n f g     f and g, functions of n numbers, are equal wherever each number is below m
--   test_below m n f g      the test of that
--   equal_below            where the test passes, f and g are equal
-- Assumes nothing.
use mathlib.Core.Path.{◌≡◌, refl, sym, ap, ap₂, ◌∙◌}
use mathlib.Core.Bool.{Bool, true, false, ◌&&◌, false≢true, and-false}
use Prim.Native.Nat.{ℕ, zero, suc, ◌<◌, ◌≤◌}
use native.Mathlib.Nat.{le_of_suc-le-suc, not-suc-le-zero}
use native.Mathlib.Omega.{arith}
use native.Mathlib.Decide.{ℕ_discrete}
use lib.Dec.{leb, eqb}
use borrow.Author.Tests.{leb-true, le-leb, eqb-true}
use Rattle.computed_tests.specs.Numbers.{one_to, all_below}

-- ---- one test, and two

pub test_fails : (t : Bool) → (t ≡ true → ⊥) → t ≡ false
test_fails true h = absurd (h refl)
test_fails false h = refl

pub and_both : (a b : Bool) → (a && b) ≡ true → (a ≡ true) × (b ≡ true)
and_both true b e = (refl, e)
and_both false b e = absurd (false≢true e)

-- ---- bits

pub bit_cases : (P : ℕ → Type 0) → P 0 → P 1 → (x : ℕ) → x < 2 → P x
bit_cases P p q zero h = p
bit_cases P p q (suc zero) h = q
bit_cases P p q (suc (suc x)) h = absurd (not-suc-le-zero (le_of_suc-le-suc (le_of_suc-le-suc h)))

-- ---- the numbers from 1 to m

pub one_to_in : (m k : ℕ) → 1 ≤ k → k ≤ m → one_to m k ≡ true
one_to_in m k h l = ap₂ (λ (a b : Bool). a && b) (le-leb 1 k h) (le-leb k m l)

pub one_to_inside : (m k : ℕ) → one_to m k ≡ true → (1 ≤ k) × (k ≤ m)
one_to_inside m k e = let both = and_both (leb 1 k) (leb k m) e in
    (leb-true 1 k both.0, leb-true k m both.1)

pub one_to_outside : (m k : ℕ) → (1 ≤ k → k ≤ m → ⊥) → one_to m k ≡ false
one_to_outside m k h = test_fails (one_to m k) (λ e. let inside = one_to_inside m k e in h inside.0 inside.1)

-- ---- a test at each number below a bound

pub all_true : (m : ℕ) (test : ℕ → Bool) → ((k : ℕ) → k < m → test k ≡ true) → all_below m test ≡ true
all_true zero test h = refl
all_true (suc m) test h = ap₂ (λ (a b : Bool). a && b) (h m (omega arith)) (all_true m test (λ k l. h k (omega arith)))

pub all_false : (m : ℕ) (test : ℕ → Bool) (k : ℕ) → k < m → test k ≡ false → all_below m test ≡ false
all_false zero test k l h = absurd (not-suc-le-zero l)
all_false (suc m) test k l h = elim (ℕ_discrete k m) [
  | yes e ↦ ap (λ (a : Bool). a && all_below m test) (ap test (sym e) ∙ h)
  | no q ↦ ap (λ (b : Bool). test m && b) (all_false m test k (omega arith) h) ∙ and-false (test m)
]

pub all_at : (m : ℕ) (test : ℕ → Bool) → all_below m test ≡ true → (k : ℕ) → k < m → test k ≡ true
all_at zero test h k l = absurd (not-suc-le-zero l)
all_at (suc m) test h k l = elim (ℕ_discrete k m) [
  | yes e ↦ ap test e ∙ (and_both (test m) (all_below m test) h).0
  | no q ↦ all_at m test (and_both (test m) (all_below m test) h).1 k (omega arith)
]

-- ---- equal functions

abbrev pub Function : ℕ → Type 0
Function zero = ℕ
Function (suc n) = ℕ → Function n

abbrev pub EqualBelow : ℕ → (n : ℕ) → Function n → Function n → Type 0
EqualBelow m zero x y = x ≡ y
EqualBelow m (suc n) f g = (k : ℕ) → k < m → EqualBelow m n (f k) (g k)

abbrev pub test_below : ℕ → (n : ℕ) → Function n → Function n → Bool
test_below m zero x y = eqb x y
test_below m (suc n) f g = all_below m (λ k. test_below m n (f k) (g k))

pub equal_below : (m n : ℕ) (f g : Function n) → test_below m n f g ≡ true → EqualBelow m n f g
equal_below m zero x y t = eqb-true x y t
equal_below m (suc n) f g t = λ k h. equal_below m n (f k) (g k) (all_at m (λ k. test_below m n (f k) (g k)) t k h)
