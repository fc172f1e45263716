-- Inverses of bytes.
--
--   inverse_byte     an inverse is a byte
--   inverse_unique   a byte whose product with a is 1 is the inverse of a
--   inverse-power    the inverse is the power 254
--   inverse_right,
--   inverse_left     the product of a byte other than 0 and its inverse is 1
--   one_inverse      each byte other than 0 has one inverse
--   inverse-answered     the claim on calls for an inverse
--   product_positive, power_positive     products and powers of bytes other than 0 are not 0
-- Assumes nothing.
use mathlib.Core.Path.{◌≡◌, refl, sym, ap, ◌∙◌, subst}
use mathlib.Core.Bool.{Bool, true, false, cond}
use mathlib.Core.Logic.{⊎_elim}
use Prim.Native.Nat.{ℕ, zero, suc, ◌<◌, ◌≤◌}
use native.Mathlib.Nat.{le_of_suc-le-suc, not-suc-le-zero, eq-or-lt_of_le}
use native.Mathlib.Omega.{arith}
use native.Mathlib.Decide.{ℕ_discrete}
use lib.Dec.{T, eqb, eqb→eq, lit<}
use borrow.Author.Tests.{ne_eqb}
use Rattle.gf256.specs.Field.{product, power, inverse, inverse_below}
use Rattle.gf256.specs.Answer.{inverse_answer}
use Rattle.gf256.specs.Claim.{OneInverse, InverseAnswered}
use Rattle.gf256.proofs.Products.{product_comm, product_assoc, product_zero_r, product_one_l, product_one_r}
use Rattle.gf256.proofs.Powers.{power_byte, power_one, power_add}
use Rattle.gf256.proofs.Squares.{power_255}

-- ---- the search for an inverse

below : (t : Bool) (x y m : ℕ) → x < m → y < m → cond t x y < m
below true x y m hx hy = hx
below false x y m hx hy = hy

inverse_below_lt : (n a m : ℕ) → n ≤ m → 0 < m → inverse_below n a < m
unfolding inverse_below
inverse_below_lt zero a m h pos = pos
inverse_below_lt (suc n) a m h pos = below (eqb (product a n) 1) n (inverse_below n a) m h (inverse_below_lt n a m (omega arith) pos)

pub inverse_byte : (a : ℕ) → inverse a < 256
unfolding inverse
inverse_byte a = inverse_below_lt 256 a 256 (omega arith) (omega arith)

-- two bytes whose products with a are 1 are the same
same : (a b c : ℕ) → a < 256 → b < 256 → c < 256 → product a b ≡ 1 → product a c ≡ 1 → b ≡ c
same a b c ha hb hc p q =
    sym (product_one_r b hb) ∙ ap (product b) (sym q) ∙ sym (product_assoc b a c hb ha hc)
    ∙ ap (λ (x : ℕ). product x c) (product_comm b a hb ha ∙ p) ∙ product_one_l c hc

found : (n a b : ℕ) → n ≤ 256 → a < 256 → b < n → product a b ≡ 1 → inverse_below n a ≡ b
unfolding inverse_below
found zero a b hn ha hb e = absurd (not-suc-le-zero hb)
found (suc n) a b hn ha hb e =
    at_n (eqb (product a n) 1) (λ t. same a n b ha (omega arith) (omega arith) (eqb→eq (product a n) 1 t) e)
    (λ f. found n a b (omega arith) ha
    (⊎_elim (λ (q : b ≡ n). absurd (f (subst (λ (x : ℕ). T (eqb x 1)) (sym (ap (product a) (sym q) ∙ e)) tt)))
    (λ (l : b < n). l) (eq-or-lt_of_le (le_of_suc-le-suc hb))) e)
  where
    at_n : (t : Bool) → (T t → n ≡ b) → ((T t → ⊥) → inverse_below n a ≡ b) → cond t n (inverse_below n a) ≡ b
    at_n true p q = p tt
    at_n false p q = q (λ z. z)

-- ---- inverses

inverse_unique : (a b : ℕ) → a < 256 → b < 256 → product a b ≡ 1 → inverse a ≡ b
unfolding inverse
inverse_unique a b ha hb e = found 256 a b (omega arith) ha hb e

power_254 : (a : ℕ) → a < 256 → 0 < a → product a (power a 254) ≡ 1
power_254 a h pos = ap (λ (x : ℕ). product x (power a 254)) (sym (power_one a h)) ∙ sym (power_add a 1 254 h) ∙ power_255 a h pos

pub inverse-power : (a : ℕ) → a < 256 → 0 < a → inverse a ≡ power a 254
inverse-power a h pos = inverse_unique a (power a 254) h (power_byte a 254 h) (power_254 a h pos)

inverse_right : (a : ℕ) → a < 256 → 0 < a → product a (inverse a) ≡ 1
inverse_right a h pos = ap (product a) (inverse-power a h pos) ∙ power_254 a h pos

pub inverse_left : (a : ℕ) → a < 256 → 0 < a → product (inverse a) a ≡ 1
inverse_left a h pos = product_comm (inverse a) a (inverse_byte a) h ∙ inverse_right a h pos

pub one_inverse : OneInverse
one_inverse a h pos = (inverse_byte a, inverse_right a h pos, λ b hb e. sym (inverse_unique a b h hb e))

pub inverse-answered : InverseAnswered
unfolding inverse_answer
inverse-answered = record { of_zero = refl; of_others = λ a h. simp (ne_eqb a 0 (λ z. omega arith)) }

-- ---- products and powers of bytes other than 0

pub product_positive : (a b : ℕ) → a < 256 → b < 256 → 0 < a → 0 < b → 0 < product a b
product_positive a b ha hb pa pb = elim (ℕ_discrete (product a b) 0) [
  | yes z ↦ let back : b ≡ 0 = sym (product_one_l b hb) ∙ ap (λ (x : ℕ). product x b) (sym (inverse_left a ha pa)) ∙ product_assoc (inverse a) a b (inverse_byte a) ha hb ∙ ap (product (inverse a)) z ∙ product_zero_r (inverse a) in absurd (omega arith)
  | no q ↦ omega (arith, q)
]

pub power_positive : (a n : ℕ) → a < 256 → 0 < a → 0 < power a n
unfolding power
power_positive a zero h pos = lit< tt
power_positive a (suc n) h pos = product_positive a (power a n) h (power_byte a n h) pos (power_positive a n h pos)
