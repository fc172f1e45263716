-- Laws of polynomials over two elements, as numbers.
--
--   coeff_bit, coeff_xor                     a coefficient is 0 or 1; the coefficients of a sum
--   coeff_above, coeff_at, coeff_under       the coefficients past the degree, and those of c · X^k
--   bits_times, bit_times                    a bit times a polynomial, over sums of either
--   sum_below_xor, sum_below_lt                sums over an index: of sums, and their degree
--   sum_below-same, sum_below-none             of equal terms, and of zeros
--   linear_bit, linear_sum                   linear functions of a bit times a polynomial, and of a sum over an index
--   poly_product_xor_l, poly_product_xor_r     products over sums
--   poly_product_lt                           the degree of a product
--   poly_product_term, poly_product_wider      the product by c · X^k; a factor has no terms past its degree
--   remainder_xor                            the remainder of a sum
-- Assumes nothing.
use mathlib.Core.Path.{◌≡◌, refl, sym, ap, ap₂, ◌∙◌, subst}
use Prim.Native.Nat.{ℕ, zero, suc, ◌+◌, ◌-◌, ◌*◌, ◌/◌, ◌%◌, ◌^◌, ◌<◌, ◌≤◌}
use native.Mathlib.Nat.{zero-mul, one-mul, mul_assoc, zero-lt-suc, lt_of_lt_of_le, div-eq_of_lt, mod-lt, mod-eq_of_lt}
use native.Mathlib.Decide.{le_ind}
use native.Mathlib.Omega.{arith}
use lib.Bits.{bit_xor, shifted_even, xor_shr, xor_mod, xor_self, xor_zero_r, xor_lt}
use lib.Pow.{pow_pos, pow_mono, pow-add, shl_lt, shl-shr}
use Rattle.gf256.specs.Polynomial.{coeff, sum_below, poly_product, remainder}
use Rattle.computed_tests.proofs.Tests.{bit_cases}
use Rattle.gf256.proofs.Xor.{xor_swap, xor_shift}

-- ---- coefficients

pub coeff_bit : (p i : ℕ) → coeff p i < 2
unfolding coeff
coeff_bit p i = mod-lt (p / 2 ^ i) (zero-lt-suc 1)

coeff_xor : (p q i : ℕ) → coeff (bit_xor p q) i ≡ bit_xor (coeff p i) (coeff q i)
unfolding coeff
coeff_xor p q i = ap (λ (x : ℕ). x % 2) (xor_shr p q i) ∙ xor_mod (p / 2 ^ i) (q / 2 ^ i) 1

coeff_above : (p n i : ℕ) → p < 2 ^ n → n ≤ i → coeff p i ≡ 0
unfolding coeff
coeff_above p n i hp hi = ap (λ (x : ℕ). x % 2) (div-eq_of_lt (lt_of_lt_of_le hp (pow_mono hi)))

-- the coefficients of c · X^k
coeff_at : (c k : ℕ) → c < 2 → coeff (c * 2 ^ k) k ≡ c
unfolding coeff
coeff_at c k h = ap (λ (x : ℕ). x % 2) (shl-shr c k) ∙ mod-eq_of_lt h

coeff_under : (c k i : ℕ) → i < k → coeff (c * 2 ^ k) i ≡ 0
unfolding coeff
coeff_under c k i h = let d = k - suc i in
    let e : k ≡ suc d + i = omega arith in
    ap (λ (n : ℕ). c * 2 ^ n / 2 ^ i % 2) e
    ∙ ap (λ (x : ℕ). x / 2 ^ i % 2) (ap (λ (x : ℕ). c * x) (pow-add 2 (suc d) i) ∙ sym (mul_assoc c (2 ^ suc d) (2 ^ i)))
    ∙ ap (λ (x : ℕ). x % 2) (shl-shr (c * 2 ^ suc d) i) ∙ shifted_even c d

-- ---- bits times a polynomial

bits_times : (x y m : ℕ) → x < 2 → y < 2 → bit_xor x y * m ≡ bit_xor (x * m) (y * m)
bits_times x y m hx hy =
    bit_cases (λ (x : ℕ). bit_xor x y * m ≡ bit_xor (x * m) (y * m)) (ap (λ (z : ℕ). bit_xor z (y * m)) (sym (zero-mul m)))
    (bit_cases (λ (y : ℕ). bit_xor 1 y * m ≡ bit_xor (1 * m) (y * m))
    (sym (ap (bit_xor (1 * m)) (zero-mul m) ∙ xor_zero_r (1 * m))) (zero-mul m ∙ sym (xor_self (1 * m))) y hy)
    x hx

bit_times : (x a b : ℕ) → x < 2 → x * bit_xor a b ≡ bit_xor (x * a) (x * b)
bit_times x a b =
    bit_cases (λ (x : ℕ). x * bit_xor a b ≡ bit_xor (x * a) (x * b))
    (zero-mul (bit_xor a b) ∙ sym (ap₂ bit_xor (zero-mul a) (zero-mul b)))
    (one-mul (bit_xor a b) ∙ sym (ap₂ bit_xor (one-mul a) (one-mul b))) x

bit_times_lt : (x a k : ℕ) → x < 2 → a < 2 ^ k → x * a < 2 ^ k
bit_times_lt x a k hx ha =
    bit_cases (λ (x : ℕ). x * a < 2 ^ k) (subst (λ (y : ℕ). y < 2 ^ k) (sym (zero-mul a)) (pow_pos k))
    (subst (λ (y : ℕ). y < 2 ^ k) (sym (one-mul a)) ha) x hx

coeff_xor_times : (p q i m : ℕ) → coeff (bit_xor p q) i * m ≡ bit_xor (coeff p i * m) (coeff q i * m)
coeff_xor_times p q i m = ap (λ (x : ℕ). x * m) (coeff_xor p q i) ∙ bits_times (coeff p i) (coeff q i) m (coeff_bit p i) (coeff_bit q i)

-- ---- sums

pub sum_below_xor : (n : ℕ) (f g h : ℕ → ℕ) → ((i : ℕ) → f i ≡ bit_xor (g i) (h i))
    → sum_below n f ≡ bit_xor (sum_below n g) (sum_below n h)
unfolding sum_below
sum_below_xor zero f g h e = refl
sum_below_xor (suc n) f g h e = ap₂ bit_xor (sum_below_xor n f g h e) (e n) ∙ xor_swap (sum_below n g) (sum_below n h) (g n) (h n)

pub sum_below_lt : (n k : ℕ) (f : ℕ → ℕ) → ((i : ℕ) → i < n → f i < 2 ^ k) → sum_below n f < 2 ^ k
unfolding sum_below
sum_below_lt zero k f h = pow_pos k
sum_below_lt (suc n) k f h = xor_lt k (sum_below n f) (f n) (sum_below_lt n k f (λ i l. h i (omega arith))) (h n (omega arith))

pub sum_below-same : (n : ℕ) (f g : ℕ → ℕ) → ((i : ℕ) → i < n → f i ≡ g i) → sum_below n f ≡ sum_below n g
unfolding sum_below
sum_below-same zero f g e = refl
sum_below-same (suc n) f g e = ap₂ bit_xor (sum_below-same n f g (λ i l. e i (omega arith))) (e n (omega arith))

pub sum_below-none : (n : ℕ) → sum_below n (λ i. 0) ≡ 0
unfolding sum_below
sum_below-none zero = refl
sum_below-none (suc n) = ap (λ (x : ℕ). bit_xor x 0) (sum_below-none n)

-- a function that takes sums to sums takes bits out of it, and goes into a sum over an index
module _ (f : ℕ → ℕ) (linear : (a b : ℕ) → f (bit_xor a b) ≡ bit_xor (f a) (f b)) where
  at_zero : f 0 ≡ 0
  at_zero = linear 0 0 ∙ xor_self (f 0)

  pub linear_bit : (c x : ℕ) → c < 2 → f (c * x) ≡ c * f x
  linear_bit c x =
      bit_cases (λ (c : ℕ). f (c * x) ≡ c * f x) (ap f (zero-mul x) ∙ at_zero ∙ sym (zero-mul (f x)))
      (ap f (one-mul x) ∙ sym (one-mul (f x))) c

  pub linear_sum : (n : ℕ) (g : ℕ → ℕ) → f (sum_below n g) ≡ sum_below n (λ i. f (g i))
  unfolding sum_below
  linear_sum zero g = at_zero
  linear_sum (suc n) g = linear (sum_below n g) (g n) ∙ ap (λ (x : ℕ). bit_xor x (f (g n))) (linear_sum n g)

-- ---- products

pub poly_product_xor_l : (n a b c : ℕ) → poly_product n (bit_xor a b) c ≡ bit_xor (poly_product n a c) (poly_product n b c)
unfolding poly_product
poly_product_xor_l n a b c =
    sum_below_xor n (λ i. coeff c i * (bit_xor a b * 2 ^ i)) (λ i. coeff c i * (a * 2 ^ i)) (λ i. coeff c i * (b * 2 ^ i))
    (λ i. ap (λ (x : ℕ). coeff c i * x) (xor_shift i a b)
    ∙ bit_times (coeff c i) (a * 2 ^ i) (b * 2 ^ i) (coeff_bit c i))

pub poly_product_xor_r : (n a b c : ℕ) → poly_product n a (bit_xor b c) ≡ bit_xor (poly_product n a b) (poly_product n a c)
unfolding poly_product
poly_product_xor_r n a b c =
    sum_below_xor n (λ i. coeff (bit_xor b c) i * (a * 2 ^ i)) (λ i. coeff b i * (a * 2 ^ i)) (λ i. coeff c i * (a * 2 ^ i))
    (λ i. coeff_xor_times b c i (a * 2 ^ i))

-- the degree of a product: a of degree at most k and b of degree below n
pub poly_product_lt : (n k a b : ℕ) → a < 2 ^ suc k → poly_product n a b < 2 ^ (n + k)
unfolding poly_product
poly_product_lt n k a b h =
    sum_below_lt n (n + k) (λ i. coeff b i * (a * 2 ^ i))
    (λ i l. bit_times_lt (coeff b i) (a * 2 ^ i) (n + k) (coeff_bit b i)
    (lt_of_lt_of_le (shl_lt (suc k) i h) (pow_mono (omega arith))))

-- by c · X^k
pub poly_product_term : (a c k : ℕ) → c < 2 → poly_product (suc k) a (c * 2 ^ k) ≡ c * (a * 2 ^ k)
unfolding poly_product sum_below
poly_product_term a c k h =
    ap₂ bit_xor
    (sum_below-same k (λ i. coeff (c * 2 ^ k) i * (a * 2 ^ i)) (λ i. 0)
    (λ i l. ap (λ (x : ℕ). x * (a * 2 ^ i)) (coeff_under c k i l) ∙ zero-mul (a * 2 ^ i))
    ∙ sum_below-none k)
    (ap (λ (x : ℕ). x * (a * 2 ^ k)) (coeff_at c k h))

-- past its degree a factor has no terms
pub poly_product_wider : (n m a b : ℕ) → b < 2 ^ n → n ≤ m → poly_product m a b ≡ poly_product n a b
unfolding poly_product sum_below
poly_product_wider n m a b hb h =
    le_ind (λ (m : ℕ). poly_product m a b ≡ poly_product n a b) refl
    (λ k l e.
    ap (bit_xor (poly_product k a b)) (ap (λ (c : ℕ). c * (a * 2 ^ k)) (coeff_above b n k hb l) ∙ zero-mul (a * 2 ^ k))
    ∙ xor_zero_r (poly_product k a b) ∙ e) m h

-- ---- remainders

pub remainder_xor : (n p q : ℕ) → remainder n (bit_xor p q) ≡ bit_xor (remainder n p) (remainder n q)
unfolding remainder
remainder_xor zero p q = refl
remainder_xor (suc k) p q = rw (coeff_xor_times p q (k + 8), xor_swap p q, remainder_xor k)
