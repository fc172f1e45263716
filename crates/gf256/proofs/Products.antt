-- The laws of the product of bytes. A law that holds by test of the powers of two holds of all bytes, since both of its
-- sides are linear in each factor.
--
--   product_xor_l, product_xor_r      over sums, for any numbers
--   product_zero_l, product_zero_r    by 0, for any number
--   product_byte                      the product of two bytes is a byte
--   product_comm, product_assoc       the order of the factors, and their grouping
--   product_one_l, product_one_r      by 1
--   product_bits                      the sum of the products by the powers of two that make up the second factor, for any numbers
--   field_laws                        all of them but the last, with those of sums
-- Assumes nothing.
use mathlib.Core.Path.{◌≡◌, refl, sym, ap, ◌∙◌}
use Prim.Native.Nat.{ℕ, suc, ◌*◌, ◌^◌, ◌<◌}
use native.Mathlib.Nat.{one-mul, lt-suc_self}
use lib.Bits.{bit_xor, xor_comm, xor_self, xor_zero_r}
use lib.Dec.{lit<}
use lib.Pow.{pow-lt}
use Rattle.gf256.specs.Polynomial.{coeff, sum_below, poly_product, remainder}
use Rattle.gf256.specs.Field.{product}
use Rattle.gf256.specs.Claim.{FieldLaws}
use Rattle.computed_tests.proofs.Tests.{Function}
use Rattle.gf256.proofs.Xor.{xor_assoc, xor_byte}
use Rattle.gf256.proofs.Polynomials.{coeff_bit, sum_below-same, linear_bit, linear_sum}
use Rattle.gf256.proofs.Polynomials.{poly_product_xor_l, poly_product_xor_r, poly_product_term, poly_product_wider, remainder_xor}
use Rattle.gf256.proofs.Remainder.{product_is_remainder}
use Rattle.gf256.proofs.Linear.{Linear, SameAtPowers, agree}

-- ---- sums and 0

pub product_xor_l : (a b c : ℕ) → product (bit_xor a b) c ≡ bit_xor (product a c) (product b c)
unfolding product
product_xor_l a b c = ap (remainder 7) (poly_product_xor_l 8 a b c) ∙ remainder_xor 7 (poly_product 8 a c) (poly_product 8 b c)

pub product_xor_r : (a b c : ℕ) → product a (bit_xor b c) ≡ bit_xor (product a b) (product a c)
unfolding product
product_xor_r a b c = ap (remainder 7) (poly_product_xor_r 8 a b c) ∙ remainder_xor 7 (poly_product 8 a b) (poly_product 8 a c)

pub product_zero_l : (a : ℕ) → product 0 a ≡ 0
product_zero_l a = product_xor_l 0 0 a ∙ xor_self (product 0 a)

pub product_zero_r : (a : ℕ) → product a 0 ≡ 0
product_zero_r a = product_xor_r a 0 0 ∙ xor_self (product a 0)

-- ---- bytes

pub product_byte : (a b : ℕ) → a < 256 → b < 256 → product a b < 256
product_byte a b ha hb = (product_is_remainder a b ha hb).0.byte

-- ---- the order of the factors

abbrev flipped : Function 2
flipped a b = product b a

product_linear : Linear 2 product
product_linear = (λ a a' b. product_xor_l a a' b, λ a. (λ b b'. product_xor_r a b b', λ b. tt))

flipped_linear : Linear 2 flipped
flipped_linear = (λ a a' b. product_xor_r b a a', λ a. (λ b b'. product_xor_l b b' a, λ b. tt))

same_flipped : SameAtPowers 2 product flipped
unfolding product poly_product sum_below coeff remainder
same_flipped = refl

pub product_comm : (a b : ℕ) → a < 256 → b < 256 → product a b ≡ product b a
product_comm a b ha hb = agree 2 product flipped product_linear flipped_linear same_flipped a ha b hb

-- ---- the grouping of the factors

abbrev left : Function 3
left a b c = product (product a b) c

abbrev right : Function 3
right a b c = product a (product b c)

left_linear : Linear 3 left
left_linear = (
  λ a a' b c. simp product_xor_l,
  λ a. (λ b b' c. simp (product_xor_l, product_xor_r), λ b. (λ c c'. simp product_xor_r, λ c. tt)),
)

right_linear : Linear 3 right
right_linear = (
  λ a a' b c. simp product_xor_l,
  λ a. (λ b b' c. simp (product_xor_l, product_xor_r), λ b. (λ c c'. simp product_xor_r, λ c. tt)),
)

same_grouped : SameAtPowers 3 left right
unfolding product poly_product sum_below coeff remainder
same_grouped = refl

pub product_assoc : (a b c : ℕ) → a < 256 → b < 256 → c < 256 → product (product a b) c ≡ product a (product b c)
product_assoc a b c ha hb hc = agree 3 left right left_linear right_linear same_grouped a ha b hb c hc

-- ---- 1

same_one : SameAtPowers 1 (product 1) (λ a. a)
unfolding product poly_product sum_below coeff remainder
same_one = refl

pub product_one_l : (a : ℕ) → a < 256 → product 1 a ≡ a
product_one_l = agree 1 (product 1) (λ a. a) (product_linear.1 1) (λ a b. refl, λ a. tt) same_one

pub product_one_r : (a : ℕ) → a < 256 → product a 1 ≡ a
product_one_r a ha = product_comm a 1 ha (lit< tt) ∙ product_one_l a ha

-- ---- by the bits of a factor

shifted : (a i : ℕ) → i < 8 → remainder 7 (a * 2 ^ i) ≡ product a (2 ^ i)
unfolding product
shifted a i l =
    ap (remainder 7)
    (sym
    (poly_product_wider (suc i) 8 a (2 ^ i) (pow-lt (lt-suc_self i)) l
    ∙ ap (poly_product (suc i) a) (sym (one-mul (2 ^ i))) ∙ poly_product_term a 1 i (lit< tt) ∙ one-mul (a * 2 ^ i)))

pub product_bits : (a b : ℕ) → product a b ≡ sum_below 8 (λ i. coeff b i * product a (2 ^ i))
unfolding product poly_product
product_bits a b =
    linear_sum (remainder 7) (remainder_xor 7) 8 (λ i. coeff b i * (a * 2 ^ i))
    ∙ sum_below-same 8 (λ i. remainder 7 (coeff b i * (a * 2 ^ i))) (λ i. coeff b i * product a (2 ^ i))
    (λ i l. linear_bit (remainder 7) (remainder_xor 7) (coeff b i) (a * 2 ^ i) (coeff_bit b i)
    ∙ ap (λ (x : ℕ). coeff b i * x) (shifted a i l))

-- ---- the field

pub field_laws : FieldLaws
field_laws = record {
  sum_byte = λ a b ha hb. xor_byte ha hb;
  sum_comm = xor_comm;
  sum_assoc = xor_assoc;
  sum_zero = xor_zero_r;
  sum_self = xor_self;
  product_byte = product_byte;
  product_comm = product_comm;
  product_assoc = product_assoc;
  product_one = product_one_r;
  product_zero = product_zero_r;
  product-sum = product_xor_r;
}
