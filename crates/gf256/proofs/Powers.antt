-- The laws of powers of bytes.
--
--   power_byte                    a power of a byte is a byte
--   power-none, power_one, power_two     the exponents 0, 1 and 2
--   power_of_zero, power_of_one   powers of 0 and of 1
--   power_add, power_mul          powers of one byte: their product, and a power of a power
-- Assumes nothing.
use mathlib.Core.Path.{◌≡◌, refl, sym, ap, ◌∙◌}
use Prim.Native.Nat.{ℕ, zero, suc, ◌+◌, ◌*◌, ◌<◌}
use native.Mathlib.Nat.{zero-add, suc-add, mul-zero, mul-suc, add_comm, not-suc-le-zero}
use lib.Dec.{lit<}
use Rattle.gf256.specs.Field.{product, power}
use Rattle.gf256.proofs.Products.{product_byte, product_assoc, product_one_l, product_one_r, product_zero_l}

pub power_byte : (a n : ℕ) → a < 256 → power a n < 256
unfolding power
power_byte a zero h = lit< tt
power_byte a (suc n) h = product_byte a (power a n) h (power_byte a n h)

-- ---- small exponents, and powers of 0 and 1

pub power-none : (a : ℕ) → power a 0 ≡ 1
unfolding power
power-none a = refl

pub power_one : (a : ℕ) → a < 256 → power a 1 ≡ a
unfolding power
power_one a h = product_one_r a h

pub power_two : (a : ℕ) → a < 256 → power a 2 ≡ product a a
unfolding power
power_two a h = ap (product a) (product_one_r a h)

pub power_of_zero : (n : ℕ) → 0 < n → power 0 n ≡ 0
unfolding power
power_of_zero zero h = absurd (not-suc-le-zero h)
power_of_zero (suc n) h = product_zero_l (power 0 n)

pub power_of_one : (n : ℕ) → power 1 n ≡ 1
unfolding power
power_of_one zero = refl
power_of_one (suc n) = product_one_l (power 1 n) (power_byte 1 n (lit< tt)) ∙ power_of_one n

-- ---- products of powers, and powers of powers

pub power_add : (a m n : ℕ) → a < 256 → power a (m + n) ≡ product (power a m) (power a n)
unfolding power
power_add a zero n h = ap (power a) (zero-add n) ∙ sym (product_one_l (power a n) (power_byte a n h))
power_add a (suc m) n h =
    ap (power a) (suc-add m n) ∙ ap (product a) (power_add a m n h)
    ∙ sym (product_assoc a (power a m) (power a n) h (power_byte a m h) (power_byte a n h))

pub power_mul : (a m n : ℕ) → a < 256 → power (power a m) n ≡ power a (m * n)
unfolding power
power_mul a m zero h = ap (power a) (sym (mul-zero m))
power_mul a m (suc n) h =
    ap (product (power a m)) (power_mul a m n h) ∙ sym (power_add a m (m * n) h)
    ∙ ap (power a) (add_comm m (m * n) ∙ sym (mul-suc m n))
