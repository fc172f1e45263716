-- The tables of powers of 2 and of their exponents: what passes the test of one is that table, and products and powers by the tables are the
-- products and powers.
--
--   doubles ps, powers_are       the test of the table of powers
--   power_table_at               an entry of it
--   counts es, exponents_are     the test of the table of exponents
--   one_table                    there is one table of exponents
--   power_reduced                the powers of 2 come again after 255
--   product_by_tables, power_by_tables, eight_by_tables     the product, the power and eight products by the tables
--   by_tables                    the first two, of the tables themselves
-- Assumes nothing.
use mathlib.Core.Path.{◌≡◌, refl, sym, ap, ap₂, ◌∙◌, subst}
use mathlib.Core.Logic.{◌≢◌}
use mathlib.Core.Bool.{Bool, true, false, not, ◌&&◌}
use mathlib.Core.List.{List}
use Prim.Native.Nat.{ℕ, zero, suc, ◌+◌, ◌-◌, ◌*◌, ◌/◌, ◌%◌, ◌^◌, ◌<◌, ◌≤◌}
use native.Mathlib.Nat.{not-suc-le-zero, mul_comm, div-add-mod'}
use native.Mathlib.Omega.{arith}
use lib.Dec.{eqb, leb, ltb, lit<}
use lib.ListN.{length, get_or}
use lib.Seq.{ext_get_or}
use borrow.Author.Tests.{eqb-true, eqb-false, ltb-true, leb-true, ne_eqb, not-true}
use Rattle.computed_tests.specs.Numbers.{all_below}
use Rattle.computed_tests.proofs.Tests.{all_at, and_both, equal_below}
use Rattle.computed_tests.proofs.Lists.{list_below_is, list_below_at}
use Rattle.gf256.specs.Polynomial.{coeff, sum_below, poly_product, remainder}
use Rattle.gf256.specs.Field.{product, power, inverse}
use Rattle.gf256.specs.Tables.{powers_of_2, IsExponents, IsTables, product_by, power_by, eight_from}
use Rattle.gf256.specs.declared.tables.Tables.{Tables}
use Rattle.gf256.specs.Claim.{OneTable, ByTables}
use Rattle.gf256.proofs.Products.{product_byte, product_assoc, product_comm, product_zero_l, product_zero_r, product_one_l, product_one_r}
use Rattle.gf256.proofs.Powers.{power_byte, power-none, power_of_zero, power_of_one, power_add, power_mul}
use Rattle.gf256.proofs.Squares.{power_255}
use Rattle.gf256.proofs.Inverses.{inverse_byte, inverse_left, product_positive, power_positive}

-- ---- the table of the powers

-- the one test of a table of powers: it begins with 1, and each entry is twice the one before it
unfoldable pub doubles_at : List ℕ → ℕ → Bool
doubles_at ps i = eqb (get_or ps (suc i) 0) (product 2 (get_or ps i 0))

abbrev pub doubles : List ℕ → Bool
doubles ps = eqb (get_or ps 0 0) 1 && all_below 262 (doubles_at ps)

powers_at : (ps : List ℕ) → doubles ps ≡ true → (i : ℕ) → i < 263 → get_or ps i 0 ≡ power 2 i
unfolding power doubles_at
powers_at ps t zero h = eqb-true (get_or ps 0 0) 1 (and_both (eqb (get_or ps 0 0) 1) (all_below 262 (doubles_at ps)) t).0
powers_at ps t (suc i) h = let all = (and_both (eqb (get_or ps 0 0) 1) (all_below 262 (doubles_at ps)) t).1 in
    eqb-true (get_or ps (suc i) 0) (product 2 (get_or ps i 0)) (all_at 262 (doubles_at ps) all i (omega arith))
    ∙ ap (product 2) (powers_at ps t i (omega arith))

pub powers_are : (ps : List ℕ) → length ps ≡ 263 → doubles ps ≡ true → ps ≡ powers_of_2
unfolding powers_of_2
powers_are ps e t = list_below_is 263 (λ i. power 2 i) ps e (powers_at ps t)

power_table_at : (i : ℕ) → i < 263 → get_or powers_of_2 i 0 ≡ power 2 i
unfolding powers_of_2
power_table_at i h = list_below_at 263 (λ i. power 2 i) i h

-- ---- the table of the exponents

-- the one test of a table of exponents: that of 0 is 255; that of any other byte is below 255, is 0 only for 1, and goes up by one, modulo
-- 255, with twice the byte
unfoldable pub counts_at : List ℕ → ℕ → Bool
counts_at es x = ltb (get_or es x 0) 255 && (leb x (1 + 255 * get_or es x 0) && eqb (get_or es (product 2 x) 0) ((get_or es x 0 + 1) % 255))

abbrev pub counts : List ℕ → Bool
counts es = eqb (get_or es 0 0) 255 && all_below 255 (λ x. counts_at es (suc x))

-- what the test says of a byte
record Entry (es : List ℕ) (x : ℕ) : Type 0 where
  below : get_or es x 0 < 255
  only_one : get_or es x 0 ≡ 0 → x ≤ 1
  doubled : get_or es (product 2 x) 0 ≡ (get_or es x 0 + 1) % 255

entry_of : (es : List ℕ) (x : ℕ) → counts_at es x ≡ true → Entry es x
unfolding counts_at
entry_of es x t = let e = get_or es x 0 in
    let first = and_both (ltb e 255) (leb x (1 + 255 * e) && eqb (get_or es (product 2 x) 0) ((e + 1) % 255)) t in
    let second = and_both (leb x (1 + 255 * e)) (eqb (get_or es (product 2 x) 0) ((e + 1) % 255)) first.1 in
    record {
      below = ltb-true e 255 first.0;
      only_one = λ z. let l = leb-true x (1 + 255 * e) second.0 in omega arith;
      doubled = eqb-true (get_or es (product 2 x) 0) ((e + 1) % 255) second.1;
    }

module _ (es : List ℕ) (t : counts es ≡ true) where
  parts : (get_or es 0 0 ≡ 255) × (all_below 255 (λ x. counts_at es (suc x)) ≡ true)
  parts = let both = and_both (eqb (get_or es 0 0) 255) (all_below 255 (λ x. counts_at es (suc x))) t in
      (eqb-true (get_or es 0 0) 255 both.0, both.1)

  entry_at : (x : ℕ) → 0 < x → x < 256 → Entry es x
  entry_at zero pos h = absurd (not-suc-le-zero pos)
  entry_at (suc x) pos h = entry_of es (suc x) (all_at 255 (λ x. counts_at es (suc x)) parts.1 x (omega arith))

  -- the exponent of 2 to the power k times x
  raised : (k x : ℕ) → 0 < x → x < 256 → get_or es (product (power 2 k) x) 0 ≡ (get_or es x 0 + k) % 255
  unfolding power
  raised zero x pos h = let e = (entry_at x pos h).below in ap (λ (y : ℕ). get_or es y 0) (product_one_l x h) ∙ omega arith
  raised (suc k) x pos h = let p = power 2 k in
      let hp : p < 256 = power_byte 2 k (lit< tt) in
      let next = product p x in
      let up = (entry_at next (product_positive p x hp h (power_positive 2 k (lit< tt) (lit< tt)) pos) (product_byte p x hp h)).doubled in
      ap (λ (y : ℕ). get_or es y 0) (product_assoc 2 p x (lit< tt) hp h) ∙ up ∙ ap (λ (n : ℕ). (n + 1) % 255) (raised k x pos h) ∙ omega arith

  -- the exponent gives its byte: with as many more as there are up to 255 it comes to 1
  gives : (x : ℕ) → 0 < x → x < 256 → power 2 (get_or es x 0) ≡ x
  gives x pos h = let e = get_or es x 0 in
      let l : e < 255 = (entry_at x pos h).below in
      let k = 255 - e in
      let pe : power 2 e < 256 = power_byte 2 e (lit< tt) in
      let pk : power 2 k < 256 = power_byte 2 k (lit< tt) in
      let y = product (power 2 k) x in
      let z : get_or es y 0 ≡ 0 = raised k x pos h ∙ omega arith in
      let py : 0 < y = product_positive (power 2 k) x pk h (power_positive 2 k (lit< tt) (lit< tt)) pos in
      let most : y ≤ 1 = (entry_at y py (product_byte (power 2 k) x pk h)).only_one z in
      let one : y ≡ 1 = omega arith in
      let sum : e + k ≡ 255 = omega arith in
      sym (product_one_r (power 2 e) pe) ∙ ap (product (power 2 e)) (sym one) ∙ sym (product_assoc (power 2 e) (power 2 k) x pe pk h)
      ∙ ap (λ (w : ℕ). product w x) (sym (power_add 2 e k (lit< tt)) ∙ ap (power 2) sum ∙ power_255 2 (lit< tt) (lit< tt)) ∙ product_one_l x h

  pub exponents_are : length es ≡ 256 → IsExponents es
  exponents_are full = record {
    full = full;
    of_zero = parts.0;
    below = λ x pos h. (entry_at x pos h).below;
    gives = gives;
  }

-- ---- the only table

-- whether none of the first n bytes, x and twice the one before from it on, is 1
none_one : ℕ → ℕ → Bool
none_one zero x = true
none_one (suc n) x = not (eqb x 1) && none_one n (product 2 x)

none_one_lem : (n x k : ℕ) → x < 256 → none_one n x ≡ true → k < n → product (power 2 k) x ≢ 1
unfolding none_one power
none_one_lem zero x k h t l e = not-suc-le-zero l
none_one_lem (suc n) x zero h t l e =
    eqb-false x 1 (not-true (eqb x 1) (and_both (not (eqb x 1)) (none_one n (product 2 x)) t).0) (sym (product_one_l x h) ∙ e)
none_one_lem (suc n) x (suc k) h t l e = let two : 2 < 256 = lit< tt in
    let p : power 2 k < 256 = power_byte 2 k two in
    none_one_lem n (product 2 x) k (product_byte 2 x two h) (and_both (not (eqb x 1)) (none_one n (product 2 x)) t).1 (omega arith)
    (sym (product_assoc (power 2 k) 2 x p two h) ∙ ap (λ (y : ℕ). product y x) (product_comm (power 2 k) 2 p two) ∙ e)

-- the test of the powers 1 to 254
powers_not_one : none_one 254 2 ≡ true
unfolding none_one product poly_product sum_below coeff remainder
powers_not_one = refl

twice : (d : ℕ) → product 2 (power 2 d) ≡ power 2 (suc d)
unfolding power
twice d = refl

-- below 255 a power of 2 has one exponent
not-before : (i j : ℕ) → i < j → j < 255 → power 2 i ≢ power 2 j
not-before i j l h e = let two : 2 < 256 = lit< tt in
    let d = j - i - 1 in
    let split : i + suc d ≡ j = omega arith in
    let x = power 2 i in
    let hx : x < 256 = power_byte 2 i two in
    let pos : 0 < x = power_positive 2 i two (lit< tt) in
    let y = power 2 (suc d) in
    let hy : y < 256 = power_byte 2 (suc d) two in
    let once : product x y ≡ x = sym (power_add 2 i (suc d) two) ∙ ap (power 2) split ∙ sym e in
    let one : y ≡ 1 = sym (product_one_l y hy) ∙ ap (λ (z : ℕ). product z y) (sym (inverse_left x hx pos))
    ∙ product_assoc (inverse x) x y (inverse_byte x) hx hy ∙ ap (product (inverse x)) once ∙ inverse_left x hx pos in
    none_one_lem 254 2 d two powers_not_one (omega arith) (product_comm (power 2 d) 2 (power_byte 2 d two) two ∙ twice d ∙ one)

one_exponent : (i j : ℕ) → i < 255 → j < 255 → power 2 i ≡ power 2 j → i ≡ j
one_exponent i j hi hj e = let up : i < j → ⊥ = λ l. not-before i j l hj e in
    let down : j < i → ⊥ = λ l. not-before j i l hi (sym e) in
    omega (arith, up, down)

pub one_table : OneTable
one_table es es' t t' = ext_get_or 0 es es' (t.full ∙ sym t'.full) (λ x l. at x (subst (λ (n : ℕ). x < n) t.full l))
  where
    at : (x : ℕ) → x < 256 → get_or es x 0 ≡ get_or es' x 0
    at zero l = t.of_zero ∙ sym t'.of_zero
    at (suc x) l = let pos : 0 < suc x = omega arith in
        one_exponent (get_or es (suc x) 0) (get_or es' (suc x) 0) (t.below (suc x) pos l) (t'.below (suc x) pos l)
        (t.gives (suc x) pos l ∙ sym (t'.gives (suc x) pos l))

-- ---- products and powers

power_reduced : (n : ℕ) → power 2 (n % 255) ≡ power 2 n
power_reduced n = let two : 2 < 256 = lit< tt in
    let rest : power 2 (n % 255) < 256 = power_byte 2 (n % 255) two in
    sym
    (ap (power 2) (sym (div-add-mod' n 255) ∙ ap (λ (m : ℕ). m + n % 255) (mul_comm (n / 255) 255)) ∙ power_add 2 (255 * (n / 255)) (n % 255) two
    ∙ ap (λ (x : ℕ). product x (power 2 (n % 255)))
    (sym (power_mul 2 255 (n / 255) two) ∙ ap (λ (x : ℕ). power x (n / 255)) (power_255 2 two (lit< tt)) ∙ power_of_one (n / 255))
    ∙ product_one_l (power 2 (n % 255)) rest)

not_zero : (n : ℕ) → eqb (suc n) 0 ≡ false
not_zero n = ne_eqb (suc n) 0 (λ e. omega arith)

-- below 8 the powers of 2 in the field are those of numbers
low_powers : (i : ℕ) → i < 8 → power 2 i ≡ 2 ^ i
unfolding power product poly_product sum_below coeff remainder
low_powers = equal_below 8 1 (λ i. power 2 i) (λ i. 2 ^ i) refl

module _ (t : Tables) (is : IsTables t) where
  power_at : (i : ℕ) → i < 263 → get_or t.powers i 0 ≡ power 2 i
  power_at i h = ap (λ (qs : List ℕ). get_or qs i 0) is.powers ∙ power_table_at i h

  -- what stands at a reduced exponent
  at_reduced : (n : ℕ) → get_or t.powers (n % 255) 0 ≡ power 2 n
  at_reduced n = power_at (n % 255) (omega arith) ∙ power_reduced n

  pub product_by_tables : (a b : ℕ) → a < 256 → b < 256 → product_by t.powers t.exponents a b ≡ product a b
  unfolding product_by
  product_by_tables zero b ha hb = sym (product_zero_l b)
  product_by_tables (suc a) zero ha hb = simp (not_zero a) (sym (product_zero_r (suc a)))
  product_by_tables (suc a) (suc b) ha hb =
      simp (not_zero a, not_zero b)
      (at_reduced (get_or t.exponents (suc a) 0 + get_or t.exponents (suc b) 0) ∙ power_add 2 (get_or t.exponents (suc a) 0) (get_or t.exponents (suc b) 0) (lit< tt)
      ∙ ap₂ product (is.exponents.gives (suc a) (omega arith) ha) (is.exponents.gives (suc b) (omega arith) hb))

  pub power_by_tables : (a n : ℕ) → a < 256 → power_by t.powers t.exponents a n ≡ power a n
  unfolding power_by
  power_by_tables a zero ha = sym (power-none a)
  power_by_tables zero (suc n) ha = simp (not_zero n) (sym (power_of_zero (suc n) (omega arith)))
  power_by_tables (suc a) (suc n) ha =
      simp (not_zero a, not_zero n)
      (at_reduced (get_or t.exponents (suc a) 0 * suc n) ∙ sym (power_mul 2 (get_or t.exponents (suc a) 0) (suc n) (lit< tt))
      ∙ ap (λ (x : ℕ). power x (suc n)) (is.exponents.gives (suc a) (omega arith) ha))

  pub eight_by_tables : (a : ℕ) → 0 < a → a < 256 → (i : ℕ) → i < 8 → get_or (eight_from t.powers (get_or t.exponents a 0)) i 0 ≡ product a (2 ^ i)
  unfolding eight_from
  eight_by_tables a pos h i l = let e = get_or t.exponents a 0 in
      let below = is.exponents.below a pos h in
      list_below_at 8 _ i l ∙ power_at (e + i) (omega arith) ∙ power_add 2 e i (lit< tt) ∙ ap₂ product (is.exponents.gives a pos h) (low_powers i l)

pub by_tables : ByTables
by_tables = record {
  products = λ es is. product_by_tables (record { powers = powers_of_2; exponents = es }) (record { powers = refl; exponents = is });
  powers = λ es is. power_by_tables (record { powers = powers_of_2; exponents = es }) (record { powers = refl; exponents = is });
}
