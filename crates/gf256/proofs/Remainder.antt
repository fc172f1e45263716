-- The product of two bytes is the remainder of their polynomial product by 285, in the sense of division with remainder.
--
--   product_is_remainder    the product of two bytes is a remainder of their polynomial product, and there is no other
--   remainder_is            `remainder n p` is one of any p of degree below n + 8
--   remainder_only          no polynomial has two
-- Assumes nothing.
use mathlib.Core.Path.{◌≡◌, refl, sym, ap, ap₂, ◌∙◌, subst}
use Prim.Native.Nat.{ℕ, zero, suc, ◌+◌, ◌*◌, ◌/◌, ◌^◌, ◌<◌, ◌≤◌}
use native.Mathlib.Nat.{zero-mul, one-mul, mul_assoc, le-add_right, le-add_left, zero-lt-suc, lt_of_lt_of_le, div-eq_of_lt, mod-eq_of_lt, div-lt_iff_lt-mul}
use native.Mathlib.Omega.{arith}
use lib.Bits.{bit_xor, xor_comm, xor_self, xor_shr, xor_zero_r, xor_lt}
use lib.Dec.{lit<}
use lib.Pow.{pow_pos, pow_mono, shl_lt, shr_lt, shl-shr, shr-shr}
use Rattle.gf256.specs.Polynomial.{coeff, sum_below, poly_product, remainder, IsRemainder}
use Rattle.gf256.specs.Field.{product}
use Rattle.gf256.specs.Claim.{ProductIsRemainder}
use Rattle.computed_tests.proofs.Tests.{equal_below}
use Rattle.gf256.proofs.Xor.{xor_swap, xor_twice, xor_equal, xor_byte}
use Rattle.gf256.proofs.Polynomials.{coeff_bit, poly_product_xor_r, poly_product_lt, poly_product_term, poly_product_wider}

-- ---- remainders of bytes, of multiples of 285, and of sums

of_byte : (r : ℕ) → r < 256 → IsRemainder r r
unfolding poly_product sum_below
of_byte r h = record { width = 0; quotient = 0; quotient_below = pow_pos 0; divided = refl; byte = h }

of_multiple : (c k : ℕ) → c < 2 → IsRemainder (c * (285 * 2 ^ k)) 0
of_multiple c k h = record {
  width = suc k;
  quotient = c * 2 ^ k;
  quotient_below = subst (λ (n : ℕ). c * 2 ^ k < 2 ^ n) (omega arith) (shl_lt 1 k h);
  divided = sym (xor_zero_r (poly_product (suc k) 285 (c * 2 ^ k)) ∙ poly_product_term 285 c k h);
  byte = lit< tt;
}

of_sum : {p q r s : ℕ} → IsRemainder p r → IsRemainder q s → IsRemainder (bit_xor p q) (bit_xor r s)
of_sum {p} {q} {r} {s} x y = let n = x.width + y.width in
    let left : x.width ≤ n = le-add_right x.width y.width in
    let right : y.width ≤ n = le-add_left y.width x.width in
    record {
      width = n;
      quotient = bit_xor x.quotient y.quotient;
      quotient_below =
          xor_lt n x.quotient y.quotient (lt_of_lt_of_le x.quotient_below (pow_mono left))
          (lt_of_lt_of_le y.quotient_below (pow_mono right));
      divided =
          ap₂ bit_xor x.divided y.divided
          ∙ xor_swap (poly_product x.width 285 x.quotient) r (poly_product y.width 285 y.quotient) s
          ∙ ap (λ (z : ℕ). bit_xor z (bit_xor r s))
          (sym
          (poly_product_xor_r n 285 x.quotient y.quotient
          ∙ ap₂ bit_xor (poly_product_wider x.width n 285 x.quotient x.quotient_below left)
          (poly_product_wider y.width n 285 y.quotient y.quotient_below right)));
      byte = xor_byte x.byte y.byte;
    }

-- ---- there is a remainder

-- c · 285 · X^k has c as its coefficient of X^(k + 8), and nothing above
multiple_top : (c k : ℕ) → c < 2 → c * (285 * 2 ^ k) / 2 ^ (k + 8) ≡ c
multiple_top c k h =
    ap (λ (x : ℕ). x / 2 ^ (k + 8)) (sym (mul_assoc c 285 (2 ^ k))) ∙ sym (shr-shr (c * 285 * 2 ^ k) k 8)
    ∙ ap (λ (x : ℕ). x / 256) (shl-shr (c * 285) k) ∙ equal_below 2 1 (λ c. c * 285 / 256) (λ c. c) refl c h

-- one step of the division takes off the coefficient of X^(k + 8), and so lowers the degree
taken_off : (k p : ℕ) → p < 2 ^ (suc k + 8) → bit_xor p (coeff p (k + 8) * (285 * 2 ^ k)) / 2 ^ (k + 8) ≡ 0
unfolding coeff
taken_off k p h = let c = coeff p (k + 8) in
    let bit : p / 2 ^ (k + 8) < 2 = shr_lt 1 (k + 8) (subst (λ (n : ℕ). p < 2 ^ n) (omega arith) h) in
    xor_shr p (c * (285 * 2 ^ k)) (k + 8)
    ∙ ap₂ bit_xor (sym (mod-eq_of_lt bit)) (multiple_top c k (coeff_bit p (k + 8))) ∙ xor_self c

lowered : (k p : ℕ) → p < 2 ^ (suc k + 8) → bit_xor p (coeff p (k + 8) * (285 * 2 ^ k)) < 2 ^ (k + 8)
lowered k p h = let lower = bit_xor p (coeff p (k + 8) * (285 * 2 ^ k)) in
    subst (λ (n : ℕ). lower < n) (one-mul (2 ^ (k + 8)))
    ((div-lt_iff_lt-mul (pow_pos (k + 8))).0 (subst (λ (x : ℕ). x < 1) (sym (taken_off k p h)) (zero-lt-suc 0)))

remainder_is : (n p : ℕ) → p < 2 ^ (n + 8) → IsRemainder p (remainder n p)
unfolding remainder
remainder_is zero p h = of_byte p h
remainder_is (suc k) p h = let c = coeff p (k + 8) in
    let m = c * (285 * 2 ^ k) in
    let r = remainder k (bit_xor p m) in
    subst (λ (x : ℕ). IsRemainder x r) (ap (bit_xor m) (xor_comm p m) ∙ xor_twice m p)
    (of_sum (of_multiple c k (coeff_bit p (k + 8))) (remainder_is k (bit_xor p m) (lowered k p h)))

-- ---- there is no other

-- a multiple of 285 of degree below 8 is 0: the highest term of the quotient would show at X^8 or above
no_term : (k q : ℕ) → poly_product (suc k) 285 q < 256 → coeff q k ≡ 0
unfolding poly_product sum_below
no_term k q h = let p = poly_product k 285 q in
    let c = coeff q k in
    let room : 256 ≤ 2 ^ (k + 8) = pow_mono (le-add_left 8 k) in
    sym (ap₂ bit_xor (div-eq_of_lt (poly_product_lt k 8 285 q (lit< tt))) (multiple_top c k (coeff_bit q k)))
    ∙ sym (xor_shr p (c * (285 * 2 ^ k)) (k + 8)) ∙ div-eq_of_lt (lt_of_lt_of_le h room)

small_multiple : (n q : ℕ) → poly_product n 285 q < 256 → poly_product n 285 q ≡ 0
unfolding poly_product sum_below
small_multiple zero q h = refl
small_multiple (suc k) q h = let p = poly_product k 285 q in
    let m = 285 * 2 ^ k in
    let none : coeff q k * m ≡ 0 = ap (λ (c : ℕ). c * m) (no_term k q h) ∙ zero-mul m in
    let same : bit_xor p (coeff q k * m) ≡ p = ap (bit_xor p) none ∙ xor_zero_r p in
    same ∙ small_multiple k q (subst (λ (x : ℕ). x < 256) same h)

of_zero : (r : ℕ) → IsRemainder 0 r → r ≡ 0
of_zero r x = let multiple = poly_product x.width 285 x.quotient in
    let e : multiple ≡ r = xor_equal multiple r (sym x.divided) in
    sym e ∙ small_multiple x.width x.quotient (subst (λ (y : ℕ). y < 256) (sym e) x.byte)

remainder_only : (p r s : ℕ) → IsRemainder p r → IsRemainder p s → r ≡ s
remainder_only p r s x y = xor_equal r s (of_zero (bit_xor r s) (subst (λ (z : ℕ). IsRemainder z (bit_xor r s)) (xor_self p) (of_sum x y)))

-- ---- the product of bytes

pub product_is_remainder : ProductIsRemainder
unfolding product
product_is_remainder a b ha hb = let is = remainder_is 7 (poly_product 8 a b) (poly_product_lt 8 7 a b ha) in
    (is, λ r x. remainder_only (poly_product 8 a b) r (product a b) x is)
