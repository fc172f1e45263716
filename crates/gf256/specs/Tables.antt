-- Products and powers by tables (document 02, 2026-04: "use tables of logarithms and powers").
--
--   powers_of_2          the table of the powers of 2
--   IsExponents es     es is the table of the exponents
--   IsTables t         t holds both
--   product_by ps es a b, power_by ps es a n     the product of a and b, and a to the power n, by a table ps of powers and a table es of exponents
--   eight_from ps e     eight powers in a row: the products of 2^e and 1, 2, 4, .., 128
-- Assumes nothing.
use Rattle.std.specs.Prelude.{◌≡◌, ℕ, ◌+◌, ◌*◌, ◌%◌, ◌<◌, cond, ◌||◌, List, eqb, length, get_or}
use Rattle.computed_tests.specs.Lists.{list_below}
use Rattle.gf256.specs.Field.{power}
use Rattle.gf256.specs.declared.tables.Tables.{Tables}

-- "the powers of 2 in one": 255 that differ, and eight of them again, so that eight in a row stand from each on
unfoldable pub powers_of_2 : List ℕ
powers_of_2 = list_below 263 (λ i. power 2 i)

-- "in the other, for each non-zero byte, the exponent that gives it"; there is one such table (specs/Claim, `OneTable`)
pub record IsExponents (es : List ℕ) : Type 0 where
  pub full : length es ≡ 256
  -- 0 is no power of 2
  pub of_zero : get_or es 0 0 ≡ 255
  pub below : (x : ℕ) → 0 < x → x < 256 → get_or es x 0 < 255
  pub gives : (x : ℕ) → 0 < x → x < 256 → power 2 (get_or es x 0) ≡ x

pub record IsTables (t : Tables) : Type 0 where
  pub powers : t.powers ≡ powers_of_2
  pub exponents : IsExponents t.exponents

-- the exponents of a product are added, modulo 255, for 2 to the power 255 is 1; a product with 0 is 0
unfoldable pub product_by : List ℕ → List ℕ → ℕ → ℕ → ℕ
product_by ps es a b = cond (eqb a 0 || eqb b 0) 0 (get_or ps ((get_or es a 0 + get_or es b 0) % 255) 0)

-- that of a power is multiplied
unfoldable pub power_by : List ℕ → List ℕ → ℕ → ℕ → ℕ
power_by ps es a n = cond (eqb n 0) 1 (cond (eqb a 0) 0 (get_or ps (get_or es a 0 * n % 255) 0))

-- 1, 2, 4, .., 128 are the powers 0 to 7 of 2, so the products of 2^e and them are powers in a row
unfoldable pub eight_from : List ℕ → ℕ → List ℕ
eight_from ps e = list_below 8 (λ i. get_or ps (e + i) 0)
