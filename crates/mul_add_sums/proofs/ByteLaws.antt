-- Buffers of bytes.
--
--   product_low                       a product with a byte is a byte, whatever the other factor
--   mul_add_bytes, mul_add_all_bytes     a buffer of bytes stays one, where the weights are bytes
--   zeros_bytes                       zeros are bytes
-- Assumes nothing.
use mathlib.Core.Path.{sym, subst}
use mathlib.Core.List.{List, [], ◌∷◌}
use Prim.Native.Nat.{ℕ, zero, suc, ◌*◌, ◌^◌, ◌<◌}
use native.Mathlib.Omega.{arith}
use lib.ListN.{replicate}
use lib.Pow.{pow-lt}
use Rattle.gf256.specs.Field.{product}
use Rattle.gf256.specs.Polynomial.{coeff}
use Rattle.gf256.proofs.Polynomials.{coeff_bit, sum_below_lt}
use Rattle.gf256.proofs.Products.{product_byte, product_bits}
use Rattle.gf256.proofs.Xor.{xor_byte}
use Rattle.little_endian.specs.Bytes.{Bytes}
use Rattle.mul_add.specs.MulAdd.{mul_add, mul_add_all}
use Rattle.mul_add.specs.Once.{count}
use Rattle.mul_add.proofs.Counts.{count_head, count_tail}

product_low : (a b : ℕ) → a < 256 → product a b < 256
product_low a b h =
    subst (λ (n : ℕ). n < 256) (sym (product_bits a b))
    (sum_below_lt 8 8 (λ i. coeff b i * product a (2 ^ i)) (λ i l. bit (coeff b i) (product a (2 ^ i)) (coeff_bit b i) (product_byte a (2 ^ i) h (pow-lt l))))
  where
    bit : (t x : ℕ) → t < 2 → x < 256 → t * x < 256
    bit zero x l k = omega arith
    bit (suc zero) x l k = omega arith
    bit (suc (suc t)) x l k = absurd (omega arith)

mul_add_bytes : (w : ℕ) (xs b : List ℕ) → w < 256 → Bytes b → Bytes (mul_add w xs b)
unfolding mul_add
mul_add_bytes w [] b h hb p = hb p
mul_add_bytes w (x ∷ xs) [] h hb p = hb p
mul_add_bytes w (x ∷ xs) (y ∷ b) h hb zero = xor_byte (hb zero) (product_low w x h)
mul_add_bytes w (x ∷ xs) (y ∷ b) h hb (suc p) = mul_add_bytes w xs b h (λ i. hb (suc i)) p

pub mul_add_all_bytes : (weight : ℕ → ℕ) (fragment : ℕ → List ℕ) (ks b : List ℕ) → ((k : ℕ) → 0 < count k ks → weight k < 256) → Bytes b
    → Bytes (mul_add_all weight fragment ks b)
unfolding mul_add_all
mul_add_all_bytes weight fragment [] b h hb = hb
mul_add_all_bytes weight fragment (k ∷ ks) b h hb =
    mul_add_all_bytes weight fragment ks (mul_add (weight k) (fragment k) b) (λ j l. h j (count_tail j k ks l))
    (mul_add_bytes (weight k) (fragment k) b (h k (count_head k ks)) hb)

pub zeros_bytes : (m : ℕ) → Bytes (replicate m 0)
zeros_bytes zero p = omega arith
zeros_bytes (suc m) zero = omega arith
zeros_bytes (suc m) (suc p) = zeros_bytes m p
