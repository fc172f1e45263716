-- Bytes as elements of the field with 256 elements (document 01, "The parity bytes").
--
--   product a b       the product of two bytes
--   power a n         a to the power n
--   inverse_below n a  the greatest b below n whose product with a is 1, or 0
--   inverse a         the byte whose product with a is 1, for a byte a other than 0
-- The sum of two bytes is `bit_xor` of `lib.Bits`.
-- Assumes nothing.
use Rattle.std.specs.Prelude.{ℕ, zero, suc, cond, eqb}
use Rattle.gf256.specs.Polynomial.{poly_product, remainder}

-- "Product is the polynomial product reduced by 285": of two bytes, so of degree at most 14
unfoldable pub product : ℕ → ℕ → ℕ
product a b = remainder 7 (poly_product 8 a b)

-- "The factor of file f in volume v is f to the power v - 1"
unfoldable pub power : ℕ → ℕ → ℕ
power a zero = 1
power a (suc n) = product a (power a n)

-- the greatest b below n whose product with a is 1, or 0 where there is none
unfoldable pub inverse_below : ℕ → ℕ → ℕ
inverse_below zero a = 0
inverse_below (suc n) a = cond (eqb (product a n) 1) n (inverse_below n a)

-- "Each non-zero byte has one inverse"
unfoldable pub inverse : ℕ → ℕ
inverse a = inverse_below 256 a
