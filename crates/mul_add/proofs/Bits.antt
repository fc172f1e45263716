-- The bits of a byte, as `combine` takes them.
--
--   high_clear, high_set   the highest bit of a byte, times c
--   coeff_shifted          a shift that brings bit i to the highest place
--   eight_choices          what the eight choices of `combine` sum to
-- Assumes nothing.
use mathlib.Core.Path.{◌≡◌, sym, ap, ap₂, ◌∙◌}
use mathlib.Core.List.{List}
use Prim.Native.Nat.{ℕ, ◌-◌, ◌+◌, ◌*◌, ◌/◌, ◌%◌, ◌^◌, ◌≤◌, ◌<◌}
use native.Mathlib.Nat.{zero-mul, one-mul}
use native.Mathlib.Omega.{arith}
use lib.Bits.{bit_xor}
use lib.Dec.{lit<}
use lib.ListN.{get_or}
use lib.Pow.{field, shl-shr, shr-shr}
use Rattle.gf256.specs.Polynomial.{coeff, sum_below}

pub high_clear : (x c : ℕ) → x < 128 → 0 ≡ coeff x 7 * c
unfolding coeff
high_clear x c h = let e : x / 128 % 2 ≡ 0 = omega arith in
    sym (ap (λ (d : ℕ). d * c) e ∙ zero-mul c)

pub high_set : (x c : ℕ) → 128 ≤ x → x < 256 → c ≡ coeff x 7 * c
unfolding coeff
high_set x c l h = let e : x / 128 % 2 ≡ 1 = omega arith in
    sym (ap (λ (d : ℕ). d * c) e ∙ one-mul c)

shifted_down : (x d i : ℕ) → x * 2 ^ d / 2 ^ (d + i) ≡ x / 2 ^ i
shifted_down x d i = sym (shr-shr (x * 2 ^ d) d i) ∙ ap (λ (y : ℕ). y / 2 ^ i) (shl-shr x d)

coeff_shifted : (x i : ℕ) → i < 8 → coeff (x * 2 ^ (7 - i) % 2 ^ 8) 7 ≡ coeff x i
unfolding coeff
coeff_shifted x i h = let d = 7 - i in
    let e : 7 ≡ d + i = omega arith in
    let down = ap (λ (n : ℕ). x * 2 ^ d / 2 ^ n) e ∙ shifted_down x d i in
    let high = field (x * 2 ^ d) 1 7 in
    omega arith

-- the multiples chosen by the bits of x, one after another
pub eight_choices : (x : ℕ) (ms : List ℕ) {p q r s t u v w : ℕ}
    → p ≡ coeff (x * 2 ^ 7 % 2 ^ 8) 7 * get_or ms 0 0 → q ≡ coeff (x * 2 ^ 6 % 2 ^ 8) 7 * get_or ms 1 0
    → r ≡ coeff (x * 2 ^ 5 % 2 ^ 8) 7 * get_or ms 2 0 → s ≡ coeff (x * 2 ^ 4 % 2 ^ 8) 7 * get_or ms 3 0
    → t ≡ coeff (x * 2 ^ 3 % 2 ^ 8) 7 * get_or ms 4 0 → u ≡ coeff (x * 2 ^ 2 % 2 ^ 8) 7 * get_or ms 5 0
    → v ≡ coeff (x * 2 ^ 1 % 2 ^ 8) 7 * get_or ms 6 0 → w ≡ coeff x 7 * get_or ms 7 0
    → bit_xor (bit_xor (bit_xor (bit_xor (bit_xor (bit_xor (bit_xor p q) r) s) t) u) v) w ≡ sum_below 8 (λ i. coeff x i * get_or ms i 0)
unfolding sum_below
eight_choices x ms ep eq er es et eu ev ew =
    more (more (more (more (more (more (more (bit 0 (lit< tt) ep) (bit 1 (lit< tt) eq)) (bit 2 (lit< tt) er)) (bit 3 (lit< tt) es)) (bit 4 (lit< tt) et))
    (bit 5 (lit< tt) eu)) (bit 6 (lit< tt) ev)) ew
  where
    more : {y z y' z' : ℕ} → y ≡ y' → z ≡ z' → bit_xor y z ≡ bit_xor y' z'
    more k l = ap₂ bit_xor k l

    bit : (i : ℕ) {y : ℕ} → i < 8 → y ≡ coeff (x * 2 ^ (7 - i) % 2 ^ 8) 7 * get_or ms i 0 → y ≡ coeff x i * get_or ms i 0
    bit i l k = k ∙ ap (λ (n : ℕ). n * get_or ms i 0) (coeff_shifted x i l)
