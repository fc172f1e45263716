-- What decimal numbers are.
--
--   decimal_one, decimal_more    decimal, as equations: one digit, and the last of several
--   decimal_induct    what holds of a digit, and of a number with one digit more, holds of every number
--   decimal-length    a number below 10 ^ (k + 1) has at most k + 1 digits
--   decimal_spells    a number's digits spell the number, with no leading zero
--   decimal_only      digits with no leading zero are those of the number that they spell
-- Assumes nothing.
use mathlib.Core.Path.{◌≡◌, refl, sym, ap, ap₂, ◌∙◌, subst}
use mathlib.Core.Bool.{Bool, true, false, not, ◌&&◌, and-true, and_assoc, false≢true}
use mathlib.Core.List.{List, [], ◌∷◌, ◌++◌, append-nil, foldl, foldl-append}
use Prim.Native.Nat.{ℕ, zero, suc, ◌+◌, ◌/◌, ◌%◌, ◌^◌, ◌≤◌, ◌<◌}
use native.Mathlib.Nat.{lt-suc_self, pow-succ'}
use native.Mathlib.Omega.{arith}
use borrow.Author.Tests.{ltb-true, ltb-false, leb-true, eqb-false, lt-ltb, le-ltb, le-leb, ne_eqb, not-true}
use lib.ListN.{length, length-append}
use lib.Seq.{append_snoc}
use lib.Dec.{leb, ltb, eqb}
use Rattle.computed_tests.proofs.Tests.{and_both}
use Rattle.text.specs.Decimal.{digit, decimal_in, decimal, with_digit, value_of, is_digit, all_digits, is_decimal}
use Rattle.text.specs.Claim.{DecimalSpells, DecimalOnly}

-- ---- decimal, as equations

-- more turns than the number is great change nothing
enough : (k m n : ℕ) → n < k → n < m → decimal_in k n ≡ decimal_in m n
unfolding decimal_in
enough zero m n h i = absurd (omega arith)
enough (suc k) zero n h i = absurd (omega arith)
enough (suc k) (suc m) n h i = by (ltb n 10) refl (λ g. enough k m (n / 10) (omega arith) (omega arith))
  where
    by : (b : Bool) → ltb n 10 ≡ b → (10 ≤ n → decimal_in k (n / 10) ≡ decimal_in m (n / 10))
        → decimal_in (suc k) n ≡ decimal_in (suc m) n
    by true t e = simp t
    by false t e = let g = e (ltb-false n 10 t) in simp (t, g)

pub decimal_one : (n : ℕ) → n < 10 → decimal n ≡ digit n ∷ []
unfolding decimal decimal_in
decimal_one n h = simp (lt-ltb n 10 h)

pub decimal_more : (n : ℕ) → 10 ≤ n → decimal n ≡ decimal (n / 10) ++ (digit (n % 10) ∷ [])
unfolding decimal decimal_in
decimal_more n h = simp (le-ltb n 10 h, enough n (suc (n / 10)) (n / 10) (omega arith) (omega arith))

-- ---- induction over the digits

module _ (P : ℕ → List ℕ → Type 0)
    (one : (n : ℕ) → n < 10 → P n (digit n ∷ []))
    (more : (n : ℕ) (w : List ℕ) → 10 ≤ n → P (n / 10) w → P n (w ++ (digit (n % 10) ∷ []))) where
  induct_in : (k n : ℕ) → n < k → P n (decimal n)
  induct_in zero n h = absurd (omega arith)
  induct_in (suc k) n h = by (ltb n 10) refl (λ m. induct_in k m)
    where
      by : (b : Bool) → ltb n 10 ≡ b → ((m : ℕ) → m < k → P m (decimal m)) → P n (decimal n)
      by true e r = let g = ltb-true n 10 e in subst (P n) (sym (decimal_one n g)) (one n g)
      by false e r = let g = ltb-false n 10 e in subst (P n) (sym (decimal_more n g)) (more n _ g (r (n / 10) (omega arith)))

  decimal_induct : (n : ℕ) → P n (decimal n)
  decimal_induct n = induct_in (suc n) n (lt-suc_self n)

-- ---- the value

decimal_value : (n : ℕ) → value_of (decimal n) ≡ n
unfolding value_of
decimal_value =
    decimal_induct (λ n w. value_of w ≡ n) (λ n h. omega arith)
    (λ n w h e. foldl-append with_digit 0 w (digit (n % 10) ∷ []) ∙ omega (arith, e))

-- ---- the length

pub decimal-length : (n k : ℕ) → n < 10 ^ suc k → length (decimal n) ≤ suc k
decimal-length = decimal_induct (λ n w. (k : ℕ) → n < 10 ^ suc k → length w ≤ suc k) (λ n h k g. omega arith) more
  where
    more : (n : ℕ) (w : List ℕ) → 10 ≤ n → ((k : ℕ) → n / 10 < 10 ^ suc k → length w ≤ suc k)
        → (k : ℕ) → n < 10 ^ suc k → length (w ++ (digit (n % 10) ∷ [])) ≤ suc k
    more n w h r zero g = absurd (omega arith)
    more n w h r (suc k) g = let q : n / 10 < 10 ^ suc k = omega (arith, pow-succ' 10 (suc k)) in
        omega (arith, length-append w (digit (n % 10) ∷ []), r k q)

-- ---- the shape

digit_is : (d : ℕ) → d < 10 → is_digit (digit d) ≡ true
digit_is d h = simp (le-leb 48 (48 + d) (omega arith), le-leb (48 + d) 57 (omega arith))

digits_snoc : (w : List ℕ) (c : ℕ) → all_digits (w ++ (c ∷ [])) ≡ (all_digits w && is_digit c)
unfolding all_digits
digits_snoc [] c = and-true (is_digit c)
digits_snoc (b ∷ w) c = ap (λ (t : Bool). is_digit b && t) (digits_snoc w c) ∙ sym (and_assoc (is_digit b) (all_digits w) (is_digit c))

-- w begins with another character than 0
leads : List ℕ → Bool
leads [] = false
leads (c ∷ w) = not (eqb c 48)

leads_snoc : (w : List ℕ) (c : ℕ) → leads w ≡ true → leads (w ++ (c ∷ [])) ≡ true
unfolding leads
leads_snoc [] c e = absurd (false≢true e)
leads_snoc (b ∷ w) c e = e

-- w is digits, and begins with 0 for no number but 0
record Spells (n : ℕ) (w : List ℕ) : Type 0 where
  digits : all_digits w ≡ true
  led : 0 < n → leads w ≡ true

spells : (n : ℕ) → Spells n (decimal n)
unfolding all_digits leads
spells = decimal_induct Spells one more
  where
    one : (n : ℕ) → n < 10 → Spells n (digit n ∷ [])
    one n h = record { digits = simp (digit_is n h); led = λ g. simp (ne_eqb (48 + n) 48 (λ e. omega arith)) }

    more : (n : ℕ) (w : List ℕ) → 10 ≤ n → Spells (n / 10) w → Spells n (w ++ (digit (n % 10) ∷ []))
    more n w h z = record {
      digits = digits_snoc w (digit (n % 10)) ∙ simp (z.digits, digit_is (n % 10) (omega arith));
      led = λ g. leads_snoc w (digit (n % 10)) (z.led (omega arith));
    }

decimal_led : (w : List ℕ) → all_digits w ≡ true → leads w ≡ true → is_decimal w ≡ true
unfolding is_decimal all_digits leads
decimal_led [] e f = f
decimal_led (c ∷ []) e f = sym (and-true (is_digit c)) ∙ e
decimal_led (c ∷ d ∷ w) e f = simp (f, e)

decimal_shape : (n : ℕ) → is_decimal (decimal n) ≡ true
unfolding is_decimal decimal decimal_in
decimal_shape zero = refl
decimal_shape (suc n) = let z = spells (suc n) in decimal_led (decimal (suc n)) z.digits (z.led (omega arith))

pub decimal_spells : DecimalSpells
decimal_spells n = (decimal_value n, decimal_shape n)

-- ---- from the digits

module _ (c : ℕ) (e : is_digit c ≡ true) where
  digit-within : (48 ≤ c) × (c ≤ 57)
  digit-within = let b = and_both (leb 48 c) (leb c 57) e in (leb-true 48 c b.0, leb-true c 57 b.1)

  decimal_digit : decimal (with_digit 0 c) ≡ c ∷ []
  decimal_digit = let b = digit-within in
      let d : digit (with_digit 0 c) ≡ c = omega arith in
      decimal_one (with_digit 0 c) (omega arith) ∙ ap (λ (k : ℕ). k ∷ []) d

  decimal_with : (v : ℕ) → 0 < v → decimal (with_digit v c) ≡ decimal v ++ (c ∷ [])
  decimal_with v h = let b = digit-within in
      let q : with_digit v c / 10 ≡ v = omega arith in
      let d : digit (with_digit v c % 10) ≡ c = omega arith in
      decimal_more (with_digit v c) (omega arith) ∙ ap₂ (λ (m k : ℕ). decimal m ++ (k ∷ [])) q d

-- more digits after those of v
decimal_on : (v : ℕ) (w : List ℕ) → 0 < v → all_digits w ≡ true → decimal (foldl with_digit v w) ≡ decimal v ++ w
unfolding all_digits
decimal_on v [] h e = sym (append-nil (decimal v))
decimal_on v (c ∷ w) h e = let b = and_both (is_digit c) (all_digits w) e in
    decimal_on (with_digit v c) w (omega arith) b.1
    ∙ ap (λ (u : List ℕ). u ++ w) (decimal_with c b.0 v h)
    ∙ append_snoc (decimal v) c w

pub decimal_only : DecimalOnly
unfolding is_decimal all_digits value_of
decimal_only [] e = absurd (false≢true e)
decimal_only (c ∷ []) e = decimal_digit c e
decimal_only (c ∷ d ∷ w) e = let b = and_both (not (eqb c 48)) (all_digits (c ∷ d ∷ w)) e in
    let g = and_both (is_digit c) (all_digits (d ∷ w)) b.1 in
    let low = digit-within c g.0 in
    let other = eqb-false c 48 (not-true (eqb c 48) b.0) in
    decimal_on (with_digit 0 c) (d ∷ w) (omega arith) g.1
    ∙ ap (λ (u : List ℕ). u ++ (d ∷ w)) (decimal_digit c g.0)
