-- Functions that are linear in each argument, as the product is: they are known from their values at 1, 2, 4, .., 128.
--
--   sums                 what holds of 0, of sums and of the powers of two holds of all numbers
--   Sum n f g h          f is the sum of g and h, functions of n numbers, at all arguments
--   Linear n f           f, a function of n numbers, is linear in each of them
--   at_powers n f         f at powers of two, as a function of the exponents
--   SameAtPowers n f g   the test that f and g are equal at 1, 2, 4, .., 128
--   agree                linear functions that pass the test are equal at all bytes
-- Assumes nothing.
use mathlib.Core.Path.{◌≡◌, sym, ap₂, ◌∙◌, subst}
use mathlib.Core.Bool.{true}
use Prim.Native.Nat.{ℕ, zero, suc, ◌*◌, ◌/◌, ◌%◌, ◌^◌, ◌<◌}
use native.Mathlib.Nat.{mod-lt, zero-mul, one-mul}
use native.Mathlib.Omega.{arith}
use lib.Arith.{lt-one}
use lib.Bits.{bit_xor, xor_shifted, xor_self}
use lib.Pow.{pow_pos, split, shr_lt}
use Rattle.computed_tests.proofs.Tests.{bit_cases, Function, EqualBelow, test_below, equal_below}

-- ---- a number is a sum of powers of two

module _ (P : ℕ → Type 0) (none : P 0) (both : (a b : ℕ) → P a → P b → P (bit_xor a b)) where
  top : (n d : ℕ) → d < 2 → P (2 ^ n) → P (d * 2 ^ n)
  top n d h p = bit_cases (λ (x : ℕ). P (x * 2 ^ n)) (subst P (sym (zero-mul (2 ^ n))) none) (subst P (sym (one-mul (2 ^ n))) p) d h

  pub sums : (n : ℕ) → ((i : ℕ) → i < n → P (2 ^ i)) → (a : ℕ) → a < 2 ^ n → P a
  sums zero powers a h = subst P (sym (lt-one h)) none
  sums (suc n) powers a h =
      subst P (xor_shifted (a / 2 ^ n) n (a % 2 ^ n) (mod-lt a (pow_pos n)) ∙ split a n)
      (both (a / 2 ^ n * 2 ^ n) (a % 2 ^ n)
      (top n (a / 2 ^ n) (shr_lt 1 n (subst (λ (m : ℕ). a < 2 ^ m) (omega arith) h)) (powers n (omega arith)))
      (sums n (λ i l. powers i (omega arith)) (a % 2 ^ n) (mod-lt a (pow_pos n))))

-- ---- linear functions

abbrev pub Sum : (n : ℕ) → Function n → Function n → Function n → Type 0
Sum zero x y z = x ≡ bit_xor y z
Sum (suc n) f g h = (a : ℕ) → Sum n (f a) (g a) (h a)

abbrev pub Linear : (n : ℕ) → Function n → Type 0
Linear zero x = Unit {0}
Linear (suc n) f = ((a b : ℕ) → Sum n (f (bit_xor a b)) (f a) (f b)) × ((a : ℕ) → Linear n (f a))

abbrev pub at_powers : (n : ℕ) → Function n → Function n
at_powers zero x = x
at_powers (suc n) f = λ i. at_powers n (f (2 ^ i))

-- functions that are the sum of themselves and themselves are 0, and so equal
equal-none : (n : ℕ) (f g : Function n) → Sum n f f f → Sum n g g g → EqualBelow 256 n f g
equal-none zero x y p q = p ∙ xor_self x ∙ sym (q ∙ xor_self y)
equal-none (suc n) f g p q = λ a h. equal-none n (f a) (g a) (p a) (q a)

equal_sums : (n : ℕ) (f f₁ f₂ g g₁ g₂ : Function n) → Sum n f f₁ f₂ → Sum n g g₁ g₂
    → EqualBelow 256 n f₁ g₁ → EqualBelow 256 n f₂ g₂ → EqualBelow 256 n f g
equal_sums zero f f₁ f₂ g g₁ g₂ p q e₁ e₂ = p ∙ ap₂ bit_xor e₁ e₂ ∙ sym q
equal_sums (suc n) f f₁ f₂ g g₁ g₂ p q e₁ e₂ = λ a h. equal_sums n (f a) (f₁ a) (f₂ a) (g a) (g₁ a) (g₂ a) (p a) (q a) (e₁ a h) (e₂ a h)

extend : (n : ℕ) (f g : Function n) → Linear n f → Linear n g
    → EqualBelow 8 n (at_powers n f) (at_powers n g) → EqualBelow 256 n f g
extend zero x y lf lg e = e
extend (suc n) f g lf lg e =
    sums (λ (a : ℕ). EqualBelow 256 n (f a) (g a)) (equal-none n (f 0) (g 0) (lf.0 0 0) (lg.0 0 0))
    (λ a b p q. equal_sums n (f (bit_xor a b)) (f a) (f b) (g (bit_xor a b)) (g a) (g b) (lf.0 a b) (lg.0 a b) p q) 8
    (λ i l. extend n (f (2 ^ i)) (g (2 ^ i)) (lf.1 (2 ^ i)) (lg.1 (2 ^ i)) (e i l))

abbrev pub SameAtPowers : (n : ℕ) → Function n → Function n → Type 0
SameAtPowers n f g = test_below 8 n (at_powers n f) (at_powers n g) ≡ true

pub agree : (n : ℕ) (f g : Function n) → Linear n f → Linear n g → SameAtPowers n f g → EqualBelow 256 n f g
agree n f g lf lg t = extend n f g lf lg (equal_below 8 n (at_powers n f) (at_powers n g) t)
