-- What is promised of the arithmetic of bytes (document 01, "The parity bytes").
--
--   ProductIsRemainder   the product is the remainder of the polynomial product by 285, and there is no other
--   FieldLaws            with their sum and product the bytes are a field, save for inverses
--   OneInverse           each byte other than 0 has one inverse
--   InverseAnswered      the inverse of 0 is refused with 10, and that of any other byte is answered
--   OneTable             there is one table of exponents
--   ByTables             products and powers by the tables are the products and powers
-- Assumes nothing.
use Rattle.std.specs.Prelude.{◌≡◌, List, ℕ, ◌<◌, Ok, Err}
use Rattle.std.specs.Int.Bits.{bit_xor}
use Rattle.gf256.specs.Polynomial.{poly_product, IsRemainder}
use Rattle.gf256.specs.Answer.{inverse_answer}
use Rattle.gf256.specs.Field.{product, power, inverse}
use Rattle.gf256.specs.Tables.{powers_of_2, IsExponents, product_by, power_by}

-- "Product is the polynomial product reduced by 285"; proved: proofs/Remainder.antt, `product_is_remainder`
abbrev pub ProductIsRemainder : Type 0
ProductIsRemainder =
    (a b : ℕ) → a < 256 → b < 256
    → IsRemainder (poly_product 8 a b) (product a b) × ((r : ℕ) → IsRemainder (poly_product 8 a b) r → r ≡ product a b)

-- "bytes as field elements": those laws that need no bound hold of all numbers; proved: proofs/Products.antt, `field_laws`
pub record FieldLaws : Type 0 where
  pub sum_byte : (a b : ℕ) → a < 256 → b < 256 → bit_xor a b < 256
  pub sum_comm : (a b : ℕ) → bit_xor a b ≡ bit_xor b a
  pub sum_assoc : (a b c : ℕ) → bit_xor (bit_xor a b) c ≡ bit_xor a (bit_xor b c)
  pub sum_zero : (a : ℕ) → bit_xor a 0 ≡ a
  pub sum_self : (a : ℕ) → bit_xor a a ≡ 0
  pub product_byte : (a b : ℕ) → a < 256 → b < 256 → product a b < 256
  pub product_comm : (a b : ℕ) → a < 256 → b < 256 → product a b ≡ product b a
  pub product_assoc : (a b c : ℕ) → a < 256 → b < 256 → c < 256 → product (product a b) c ≡ product a (product b c)
  pub product_one : (a : ℕ) → a < 256 → product a 1 ≡ a
  pub product_zero : (a : ℕ) → product a 0 ≡ 0
  pub product-sum : (a b c : ℕ) → product a (bit_xor b c) ≡ bit_xor (product a b) (product a c)

-- "Each non-zero byte has one inverse"; proved: proofs/Inverses.antt, `one_inverse`
abbrev pub OneInverse : Type 0
OneInverse =
    (a : ℕ) → a < 256 → 0 < a
    → (inverse a < 256) × (product a (inverse a) ≡ 1) × ((b : ℕ) → b < 256 → product a b ≡ 1 → b ≡ inverse a)

-- "10 .. inverse of 0"; proved: proofs/Inverses.antt, `inverse-answered`
pub record InverseAnswered : Type 0 where
  pub of_zero : inverse_answer 0 ≡ Err 10
  pub of_others : (a : ℕ) → 0 < a → inverse_answer a ≡ Ok (inverse a)

-- document 02, 2026-04: "in the other, for each non-zero byte, the exponent that gives it"; proved: proofs/TableLaws.antt, `one_table`
abbrev pub OneTable : Type 0
OneTable = (es es' : List ℕ) → IsExponents es → IsExponents es' → es ≡ es'

-- document 02, 2026-04: "Answers stay"; proved: proofs/TableLaws.antt, `by_tables`
pub record ByTables : Type 0 where
  pub products : (es : List ℕ) → IsExponents es → (a b : ℕ) → a < 256 → b < 256 → product_by powers_of_2 es a b ≡ product a b
  pub powers : (es : List ℕ) → IsExponents es → (a n : ℕ) → a < 256 → power_by powers_of_2 es a n ≡ power a n
