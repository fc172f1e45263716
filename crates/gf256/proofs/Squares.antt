-- Squares of bytes, and Fermat's law: a byte other than 0 to the power 255 is 1.
--
--   square_xor    the square of a sum is the sum of the squares
--   power_256     a to the power 256 is a
--   power_255     a to the power 255 is 1, where a is not 0
-- Assumes nothing.
use mathlib.Core.Path.{◌≡◌, refl, sym, ap, ap₂, ◌∙◌}
use mathlib.Core.Bool.{Bool, true, not}
use mathlib.Core.Logic.{⊎_elim, ◌⊎◌, inl, inr}
use Prim.Native.Nat.{ℕ, zero, suc, ◌^◌, ◌<◌}
use native.Mathlib.Nat.{pow-succ'}
use native.Mathlib.Omega.{arith}
use lib.Bits.{bit_xor}
use lib.Dec.{eqb, lit<}
use lib.Pow.{pow-lt}
use borrow.Author.Tests.{eqb-false, not-true}
use Rattle.gf256.specs.Polynomial.{coeff, sum_below, poly_product, remainder}
use Rattle.gf256.specs.Field.{product, power}
use Rattle.computed_tests.specs.Numbers.{all_below}
use Rattle.computed_tests.proofs.Tests.{all_at, equal_below}
use Rattle.gf256.proofs.Xor.{xor_assoc, xor_twice, xor_byte}
use Rattle.gf256.proofs.Linear.{sums}
use Rattle.gf256.proofs.Products.{product_xor_l, product_xor_r, product_byte, product_comm, product_zero_r}
use Rattle.gf256.proofs.Powers.{power_byte, power_one, power_two, power_of_zero, power_add, power_mul}

-- ---- squares

square_xor : (a b : ℕ) → a < 256 → b < 256 → product (bit_xor a b) (bit_xor a b) ≡ bit_xor (product a a) (product b b)
square_xor a b ha hb = let s = product a a in
    let m = product a b in
    let t = product b b in
    product_xor_l a b (bit_xor a b)
    ∙ ap₂ bit_xor (product_xor_r a a b)
    (product_xor_r b a b ∙ ap (λ (x : ℕ). bit_xor x t) (product_comm b a hb ha))
    ∙ xor_assoc s m (bit_xor m t) ∙ ap (bit_xor s) (xor_twice m t)

-- a squared k times over
squared : ℕ → ℕ → ℕ
squared zero a = a
squared (suc k) a = squared k (product a a)

squared_xor : (k a b : ℕ) → a < 256 → b < 256 → squared k (bit_xor a b) ≡ bit_xor (squared k a) (squared k b)
unfolding squared
squared_xor zero a b ha hb = refl
squared_xor (suc k) a b ha hb =
    ap (squared k) (square_xor a b ha hb)
    ∙ squared_xor k (product a a) (product b b) (product_byte a a ha ha) (product_byte b b hb hb)

squared_power : (k a : ℕ) → a < 256 → squared k a ≡ power a (2 ^ k)
unfolding squared
squared_power zero a h = sym (power_one a h)
squared_power (suc k) a h =
    squared_power k (product a a) (product_byte a a h h) ∙ ap (λ (x : ℕ). power x (2 ^ k)) (sym (power_two a h))
    ∙ power_mul a 2 (2 ^ k) h ∙ ap (power a) (sym (pow-succ' 2 k))

-- ---- powers of all bytes

-- a byte squared eight times is itself: a test at the powers of two, which goes over to sums
same_squared : (i : ℕ) → i < 8 → squared 8 (2 ^ i) ≡ 2 ^ i
unfolding squared product poly_product sum_below coeff remainder
same_squared = equal_below 8 1 (λ i. squared 8 (2 ^ i)) (λ i. 2 ^ i) refl

power_256 : (a : ℕ) → a < 256 → power a 256 ≡ a
power_256 a h =
    sym (squared_power 8 a h)
    ∙ (sums (λ (x : ℕ). (x < 256) × (squared 8 x ≡ x))
    (lit< tt, squared_power 8 0 (lit< tt) ∙ power_of_zero 256 (lit< tt))
    (λ x y p q. (xor_byte p.0 q.0, squared_xor 8 x y p.0 q.0 ∙ ap₂ bit_xor p.1 q.1)) 8
    (λ i l. (pow-lt l, same_squared i l)) a h).1

-- only 0 and 1 are their own squares: the test of all bytes from 2 on
own_square : ℕ → Bool
own_square e = eqb (product e e) e

none_above_one : all_below 254 (λ k. not (own_square (suc (suc k)))) ≡ true
unfolding own_square product poly_product sum_below coeff remainder
none_above_one = refl

own_square_lem : (e : ℕ) → e < 256 → product e e ≡ e → (e ≡ 0) ⊎ (e ≡ 1)
unfolding own_square
own_square_lem zero h q = inl refl
own_square_lem (suc zero) h q = inr refl
own_square_lem (suc (suc k)) h q =
    let no : not (own_square (suc (suc k))) ≡ true = all_at 254 (λ k. not (own_square (suc (suc k)))) none_above_one k (omega arith) in
    absurd (eqb-false (product (suc (suc k)) (suc (suc k))) (suc (suc k)) (not-true (own_square (suc (suc k))) no) q)

power_255_squared : (a : ℕ) → a < 256 → product (power a 255) (power a 255) ≡ power a 255
power_255_squared a h =
    sym (power_add a 255 255 h) ∙ power_add a 256 254 h
    ∙ ap (λ (x : ℕ). product x (power a 254)) (power_256 a h ∙ sym (power_one a h)) ∙ sym (power_add a 1 254 h)

power_255_zero : (a : ℕ) → a < 256 → power a 255 ≡ 0 → a ≡ 0
power_255_zero a h e = sym (power_256 a h) ∙ power_add a 1 255 h ∙ ap (product (power a 1)) e ∙ product_zero_r (power a 1)

-- the power 255 is its own square, so 0 or 1; it is 0 only where a is
pub power_255 : (a : ℕ) → a < 256 → 0 < a → power a 255 ≡ 1
power_255 a h pos =
    ⊎_elim (λ (e : power a 255 ≡ 0). let z = power_255_zero a h e in absurd (omega arith)) (λ (e : power a 255 ≡ 1). e)
    (own_square_lem (power a 255) (power_byte a 255 h) (power_255_squared a h))
