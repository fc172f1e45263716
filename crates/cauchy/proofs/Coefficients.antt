-- Cauchy coefficients.
--
--   cauchy_rule              the coefficient is the inverse of f exclusive-or (256 - v), and no other byte is
--   cauchy_byte              it is a byte
--   cauchy_bytes             in range it is a byte other than 0
--   cauchy_by_tables         it is what the tables give
-- Assumes nothing.
use Rattle.std.proofs.Common.{◌≡◌, ℕ, ◌-◌, ◌%◌, ◌<◌, sym, refl, ap, ◌∙◌, mod-lt, mod-eq_of_lt, arith}
use native.Mathlib.Decide.{ℕ_discrete}
use lib.Bits.{bit_xor}
use Rattle.gf256.specs.Field.{product, power, inverse, inverse_below}
use Rattle.gf256.specs.Polynomial.{coeff, sum_below, poly_product, remainder}
use Rattle.gf256.specs.Tables.{IsTables}
use Rattle.gf256.specs.declared.tables.Tables.{Tables}
use Rattle.gf256.proofs.Xor.{xor_byte, xor_equal}
use Rattle.gf256.proofs.Products.{product_zero_r}
use Rattle.gf256.proofs.Inverses.{inverse_byte, inverse-power, one_inverse}
use Rattle.gf256.proofs.TableLaws.{power_by_tables}
use Rattle.cauchy.specs.Cauchy.{row_point, cauchy, cauchy_by}
use Rattle.cauchy.specs.Claim.{InRange, CauchyRule, CauchyBytes}

-- ---- the rule

module _ (f v : ℕ) (h : InRange f v) where
  sum_byte : bit_xor f (256 - v) < 256
  sum_byte = xor_byte {a = f} {b = 256 - v} (omega arith) (omega arith)

  -- f is at most 255 - v, so it is not 256 - v
  sum_positive : 0 < bit_xor f (256 - v)
  sum_positive = elim (ℕ_discrete (bit_xor f (256 - v)) 0) [
    | yes e ↦ let same = xor_equal f (256 - v) e in absurd (omega arith)
    | no q ↦ omega (arith, q)
  ]

  row_point_lem : (256 - v) % 256 ≡ 256 - v
  row_point_lem = mod-eq_of_lt (omega arith)

pub cauchy_rule : CauchyRule
unfolding cauchy
cauchy_rule f v h = let one = one_inverse (bit_xor f (256 - v)) (sum_byte f v h) (sum_positive f v h) in
    let is : cauchy f v ≡ inverse (bit_xor f (256 - v)) = ap (λ (x : ℕ). inverse (bit_xor f x)) (row_point_lem f v h) in
    (ap (product (bit_xor f (256 - v))) is ∙ one.1, λ c l e. one.2 c l e ∙ sym is)

pub cauchy_byte : (f v : ℕ) → f < 256 → cauchy f v < 256
unfolding cauchy
cauchy_byte f v h = inverse_byte _

pub cauchy_bytes : CauchyBytes
cauchy_bytes f v h = (cauchy_byte f v (omega arith), positive)
  where
    positive : 0 < cauchy f v
    positive = elim (ℕ_discrete (cauchy f v) 0) [
      | yes e ↦
          let a = bit_xor f (256 - v) in
          let none : ◌≡◌ {A = ℕ} 1 0 = sym (cauchy_rule f v h).0 ∙ ap (product a) e ∙ product_zero_r a in
          absurd (omega arith)
      | no q ↦ omega (arith, q)
    ]

-- ---- the tables

power_of_zero : power 0 254 ≡ inverse 0
unfolding power inverse inverse_below product poly_product remainder sum_below coeff
power_of_zero = refl

inverse_by_power : (a : ℕ) → a < 256 → power a 254 ≡ inverse a
inverse_by_power a h = elim (ℕ_discrete a 0) [
  | yes e ↦ ap (λ (x : ℕ). power x 254) e ∙ power_of_zero ∙ sym (ap inverse e)
  | no q ↦ sym (inverse-power a h (omega (arith, q)))
]

pub cauchy_by_tables : (t : Tables) → IsTables t → (f v : ℕ) → f < 256 → cauchy_by t.powers t.exponents f v ≡ cauchy f v
unfolding cauchy_by cauchy
cauchy_by_tables t is f v h = let byte = xor_byte h (mod-lt (256 - v) (omega arith)) in
    power_by_tables t is (bit_xor f (row_point v)) 254 byte ∙ inverse_by_power (bit_xor f (row_point v)) byte
