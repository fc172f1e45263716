-- Which lines have the shape of a first line, and of an event.
--
--   Without b l                 the byte b is not in l
--   decimal_without             a number has digits alone
--   words_decimal, spread_words words with single spaces between, and back
--   first_shaped, event_shaped  the claims
-- Assumes nothing.
use mathlib.Core.Path.{◌≡◌, refl, sym, ap, ap₂, ◌∙◌}
use mathlib.Core.Logic.{◌≢◌}
use mathlib.Core.Bool.{Bool, true, false, not, cond, ◌&&◌, ◌||◌, false≢true}
use mathlib.Core.List.{List, [], ◌∷◌, ◌++◌, map, flatten, append-nil}
use Prim.Native.Nat.{ℕ, zero, suc, ◌<◌}
use native.Mathlib.Nat.{not-suc-le-zero}
use native.Mathlib.Omega.{arith}
use lib.Dec.{leb, eqb}
use lib.ListN.{length, get_or}
use borrow.Author.Tests.{ne_eqb, eqb-true, leb-true}
use Rattle.computed_tests.proofs.Tests.{and_both}
use Rattle.text.specs.Ascii.{ascii}
use Rattle.text.specs.Decimal.{is_digit, all_digits, is_decimal, value_of, decimal, field}
use Rattle.text.specs.TextLines.{with_byte, words_of}
use Rattle.text.proofs.DecimalLaws.{decimal_spells, decimal_only}
use Rattle.replay.specs.Log.{all_decimal, is_first_line, is_letter, change_of, is_event_line}
use Rattle.replay.specs.Lines.{spaced}
use Rattle.replay.proofs.FirstLineLaws.{some_words}
use Rattle.replay.specs.Claim.{Arrival, file_added, volume_added, file_removed, volume_removed, letter_of, change_by, FirstShaped, EventShaped}

-- ---- bytes that are not in a text

abbrev pub Without : ℕ → List ℕ → Type 0
Without b l = (i : ℕ) → i < length l → get_or l i 0 ≢ b

pub without_none : (b : ℕ) → Without b []
without_none b i l = absurd (not-suc-le-zero l)

pub without_more : (b c : ℕ) (l : List ℕ) → c ≢ b → Without b l → Without b (c ∷ l)
without_more b c l q h zero i = q
without_more b c l q h (suc j) i = h j (omega arith)

pub without_append : (b : ℕ) (s l : List ℕ) → Without b s → Without b l → Without b (s ++ l)
without_append b [] l h k = k
without_append b (c ∷ s) l h k = without_more b c (s ++ l) (h 0 (omega arith)) (without_append b s l (λ i j. h (suc i) (omega arith)) k)

digits_without : (b : ℕ) → b < 48 → (w : List ℕ) → all_digits w ≡ true → Without b w
unfolding all_digits
digits_without b l [] e = without_none b
digits_without b l (c ∷ w) e = let (d, r) = and_both (is_digit c) (all_digits w) e in
    let low = leb-true 48 c (and_both (leb 48 c) (leb c 57) d).0 in
    without_more b c w (λ z. omega arith) (digits_without b l w r)

decimal_digits : (w : List ℕ) → is_decimal w ≡ true → all_digits w ≡ true
unfolding is_decimal all_digits
decimal_digits [] e = absurd (false≢true e)
decimal_digits (c ∷ []) e = ap (λ (b : Bool). b && true) e
decimal_digits (c ∷ d ∷ w) e = (and_both (not (eqb c 48)) (is_digit c && (is_digit d && all_digits w)) e).1

-- neither a space nor a byte 10
pub decimal_without : (b : ℕ) → b < 48 → (k : ℕ) → Without b (decimal k)
decimal_without b l k = digits_without b l (decimal k) (decimal_digits (decimal k) (decimal_spells k).1)

-- ---- words with single spaces between

abbrev spread : List (List ℕ) → List ℕ
spread [] = []
spread (w ∷ ws) = w ++ flatten (map (λ v. 32 ∷ v) ws)

spaced-spread : (ks : List ℕ) → spaced ks ≡ spread (map decimal ks)
unfolding flatten
spaced-spread [] = refl
spaced-spread (k ∷ ks) = ap (λ (l : List ℕ). decimal k ++ l) (rest ks)
  where
    rest : (ks : List ℕ) → flatten (map (field (ascii " ")) ks) ≡ flatten (map (λ v. 32 ∷ v) (map decimal ks))
    rest [] = refl
    rest (k ∷ ks) = ap (λ (l : List ℕ). 32 ∷ (decimal k ++ l)) (rest ks)

words_alone : (w : List ℕ) → Without 32 w → words_of w ≡ w ∷ []
unfolding words_of
words_alone [] h = refl
words_alone (c ∷ w) h =
    ap (λ (b : Bool). cond b ([] ∷ words_of w) (with_byte c (words_of w))) (ne_eqb c 32 (h 0 (omega arith)))
    ∙ ap (with_byte c) (words_alone w (λ i l. h (suc i) (omega arith)))

words_first : (w s : List ℕ) → Without 32 w → words_of (w ++ 32 ∷ s) ≡ w ∷ words_of s
unfolding words_of
words_first [] s h = refl
words_first (c ∷ w) s h =
    ap (λ (b : Bool). cond b ([] ∷ words_of (w ++ 32 ∷ s)) (with_byte c (words_of (w ++ 32 ∷ s)))) (ne_eqb c 32 (h 0 (omega arith)))
    ∙ ap (with_byte c) (words_first w s (λ i l. h (suc i) (omega arith)))

words_decimal : (k : ℕ) (ks : List ℕ) → words_of (spread (map decimal (k ∷ ks))) ≡ map decimal (k ∷ ks)
unfolding flatten
words_decimal k [] = ap words_of (append-nil (decimal k)) ∙ words_alone (decimal k) (decimal_without 32 (omega arith) k)
words_decimal k (j ∷ ks) =
    words_first (decimal k) (spread (map decimal (j ∷ ks))) (decimal_without 32 (omega arith) k) ∙ ap (λ (ws : List (List ℕ)). decimal k ∷ ws) (words_decimal j ks)

spread_byte : (b : ℕ) (ws : List (List ℕ)) → 0 < length ws → spread (with_byte b ws) ≡ b ∷ spread ws
spread_byte b [] h = absurd (not-suc-le-zero h)
spread_byte b (w ∷ ws) h = refl

spread_space : (ws : List (List ℕ)) → 0 < length ws → spread ([] ∷ ws) ≡ 32 ∷ spread ws
unfolding flatten
spread_space [] h = absurd (not-suc-le-zero h)
spread_space (w ∷ ws) h = refl

spread_words : (s : List ℕ) → spread (words_of s) ≡ s
unfolding words_of flatten
spread_words [] = refl
spread_words (b ∷ s) = go (eqb b 32) refl (spread_words s)
  where
    go : (t : Bool) → eqb b 32 ≡ t → spread (words_of s) ≡ s → spread (cond t ([] ∷ words_of s) (with_byte b (words_of s))) ≡ b ∷ s
    go true e r = spread_space (words_of s) (some_words s) ∙ ap₂ (λ (c : ℕ) (l : List ℕ). c ∷ l) (sym (eqb-true b 32 e)) r
    go false e r = spread_byte b (words_of s) (some_words s) ∙ ap (λ (l : List ℕ). b ∷ l) r

-- ---- the first line

values_back : (ws : List (List ℕ)) → all_decimal ws ≡ true → map decimal (map value_of ws) ≡ ws
unfolding all_decimal
values_back [] e = refl
values_back (w ∷ ws) e = let (a, b) = and_both (is_decimal w) (all_decimal ws) e in
    ap₂ (λ (v : List ℕ) (vs : List (List ℕ)). v ∷ vs) (decimal_only w a) (values_back ws b)

values_of : (ks : List ℕ) → (all_decimal (map decimal ks) ≡ true) × (map value_of (map decimal ks) ≡ ks)
unfolding all_decimal
values_of [] = (refl, refl)
values_of (k ∷ ks) = let (a, b) = values_of ks in
    let (v, d) = decimal_spells k in
    (ap₂ ◌&&◌ d a, ap₂ (λ (x : ℕ) (xs : List ℕ). x ∷ xs) v b)

words_spaced : (n : ℕ) (sizes : List ℕ) → words_of (spaced (n ∷ sizes)) ≡ map decimal (n ∷ sizes)
words_spaced n sizes = ap words_of (spaced-spread (n ∷ sizes)) ∙ words_decimal n sizes

pub first_shaped : FirstShaped
first_shaped = record {
  exactly = λ l. (
    λ e. of_words l (words_of l) (some_words l) refl e,
    λ (n, sizes, z). ap is_first_line z ∙ ap all_decimal (words_spaced n sizes) ∙ (values_of (n ∷ sizes)).0,
  );
  says = λ n sizes. ap (map value_of) (words_spaced n sizes) ∙ (values_of (n ∷ sizes)).1;
}
  where
    of_words : (l : List ℕ) (ws : List (List ℕ)) → 0 < length ws → words_of l ≡ ws → all_decimal (words_of l) ≡ true
        → (n : ℕ) × (sizes : List ℕ) × (l ≡ spaced (n ∷ sizes))
    of_words l [] h e a = absurd (not-suc-le-zero h)
    of_words l (w ∷ ws) h e a =
        (value_of w, map value_of ws, sym (spread_words l) ∙ ap spread (e ∙ sym (values_back (w ∷ ws) (ap all_decimal (sym e) ∙ a))) ∙ sym (spaced-spread (map value_of (w ∷ ws))))

-- ---- an event

letter_arrival : (b : ℕ) → is_letter b ≡ true → (a : Arrival) × (b ≡ letter_of a)
unfolding is_letter
letter_arrival b e = first (eqb b 70) refl (eqb b 86) refl (eqb b 102) refl (eqb b 118) refl e
  where
    first : (p : Bool) → eqb b 70 ≡ p → (q : Bool) → eqb b 86 ≡ q → (r : Bool) → eqb b 102 ≡ r → (s : Bool) → eqb b 118 ≡ s
        → (p || (q || (r || s))) ≡ true → (a : Arrival) × (b ≡ letter_of a)
    first true p q q' r r' s s' e = (file_added, eqb-true b 70 p)
    first false p true q' r r' s s' e = (volume_added, eqb-true b 86 q')
    first false p false q' true r' s s' e = (file_removed, eqb-true b 102 r')
    first false p false q' false r' true s' e = (volume_removed, eqb-true b 118 s')
    first false p false q' false r' false s' e = absurd (false≢true e)

arrival_letter : (a : Arrival) → (is_letter (letter_of a) ≡ true) × (change_of (letter_of a) ≡ change_by a)
unfolding is_letter change_of
arrival_letter file_added = (refl, refl)
arrival_letter volume_added = (refl, refl)
arrival_letter file_removed = (refl, refl)
arrival_letter volume_removed = (refl, refl)

event_text : (l : List ℕ) → is_event_line l ≡ true → (a : Arrival) × (k : ℕ) × (l ≡ letter_of a ∷ 32 ∷ decimal k)
unfolding is_event_line is_letter
event_text [] e = absurd (false≢true e)
event_text (b ∷ []) e = absurd (let z = (and_both (is_letter b) _ e).1 in false≢true z)
event_text (b ∷ c ∷ w) e = let (x, y) = and_both (is_letter b) (eqb c 32 && is_decimal w) e in
    let (s, d) = and_both (eqb c 32) (is_decimal w) y in
    let (a, z) = letter_arrival b x in
    (a, value_of w, ap₂ (λ (p : ℕ) (r : List ℕ). p ∷ r) z (ap₂ (λ (p : ℕ) (r : List ℕ). p ∷ r) (eqb-true c 32 s) (sym (decimal_only w d))))

text_event : (a : Arrival) (k : ℕ) → is_event_line (letter_of a ∷ 32 ∷ decimal k) ≡ true
unfolding is_event_line
text_event a k = ap₂ (λ (x y : Bool). x && (true && y)) (arrival_letter a).0 (decimal_spells k).1

pub event_shaped : EventShaped
event_shaped = record {
  exactly = λ l. (event_text l, λ (a, k, z). ap is_event_line z ∙ text_event a k);
  says = λ a k. ((arrival_letter a).1, (decimal_spells k).0);
}
