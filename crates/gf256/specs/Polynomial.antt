-- Polynomials over two elements, as numbers (document 01, "The parity bytes").
--
--   coeff p i           the coefficient of X^i in p
--   sum_below n f        the sum of f i over each i below n
--   poly_product n a b   the product of a and b, where b is of degree below n
--   remainder n p       what long division by 285 leaves of p, where p is of degree below n + 8
--   IsRemainder p r     p is a multiple of 285, plus r, and r is of degree below 8
-- The sum of two polynomials is `bit_xor` of `lib.Bits`: "Sum is exclusive or".
-- Assumes nothing.
use Rattle.std.specs.Prelude.{◌≡◌, ℕ, zero, suc, ◌+◌, ◌*◌, ◌/◌, ◌%◌, ◌^◌, ◌<◌}
use Rattle.std.specs.Int.Bits.{bit_xor}

-- "A byte is a polynomial over two elements, lowest bit the constant": bit i is the coefficient of X^i
unfoldable pub coeff : ℕ → ℕ → ℕ
coeff p i = p / 2 ^ i % 2

-- "Sum is exclusive or"
unfoldable pub sum_below : ℕ → (ℕ → ℕ) → ℕ
sum_below zero f = 0
sum_below (suc n) f = bit_xor (sum_below n f) (f n)

-- "the polynomial product": the sum of a · X^i over each i whose coefficient in b is 1; times X^i is a shift by i bits
unfoldable pub poly_product : ℕ → ℕ → ℕ → ℕ
poly_product n a b = sum_below n (λ i. coeff b i * (a * 2 ^ i))

-- "reduced by 285 (hex 11D)": from k = n - 1 down, 285 · X^k is taken off where the coefficient of X^(k + 8) is 1
unfoldable pub remainder : ℕ → ℕ → ℕ
remainder zero p = p
remainder (suc k) p = remainder k (bit_xor p (coeff p (k + 8) * (285 * 2 ^ k)))

-- division with remainder by 285; the quotient is any polynomial: its degree is below some width
pub record IsRemainder (p r : ℕ) : Type 0 where
  pub width : ℕ
  pub quotient : ℕ
  pub quotient_below : quotient < 2 ^ width
  pub divided : p ≡ bit_xor (poly_product width 285 quotient) r
  pub byte : r < 256
