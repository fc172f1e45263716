-- Reading of text, from a position on: lines, words, decimal numbers.
--
--   rest_from            the rest of a text from a position on, as `get` gives it, or nothing
--   to_here              the search for a byte that stands here
--   to_position          the same, as the iterator's `position` finds it
--   to_most              it ends in the text
--   to_skip              it may start anywhere before the byte
--   to_found, to_joined  it ends at the byte, and at the first one
--   line_ended, line_unended, line_some     a line has its byte 10
--   line_most            it lies in its text
--   line_skip            the search may start anywhere in the line
--   line_joined          the line that a text begins with, its byte 10 written out
--   line_ends, line_inside     the last byte of a line is 10, and no other is
--   word_most            a word lies in its text
--   words_last, words_more     the words: the only one, or the first and those after its space
--   decimal-none, decimal_zero, decimal_by_digits     whether a word is decimal, by its first character
--   value_cut            the value of digits, cut to the greatest number of 64 bits on the way
-- Assumes nothing.
use mathlib.Core.Path.{◌≡◌, refl, sym, ap, ap₂, ◌∙◌}
use mathlib.Core.Logic.{◌≢◌}
use mathlib.Core.Bool.{Bool, true, false, not, cond, ◌&&◌, and-true}
use mathlib.Core.List.{List, [], ◌∷◌, ◌++◌, foldl}
use Prim.Native.Nat.{ℕ, zero, suc, ◌+◌, ◌-◌, ◌≤◌, ◌<◌, min}
use native.Mathlib.Numerals.{add-one, one-add}
use native.Mathlib.Decide.{dec_lt}
use native.Mathlib.Omega.{arith}
use borrow.Author.Tests.{eq-eqb, ne_eqb, eqb-true, ltb-false, lt-ltb, le-ltb}
use lib.Dec.{eqb, ltb}
use lib.ListN.{length, take, drop, get_or, drop_of_length-le, length-append, length-drop}
use lib.Seq.{take-suc}
use Rattle.std.proofs.lemmas.List.Recursion.{is_position_or_len}
use Rattle.std.specs.List.{fold, position_or_len, slice_range}
use denote.Ref.{Bor}
use Rattle.std.specs.Option.{unwrap_or, MatchOption}
use Rattle.std.specs.Prelude.{Option, Some, None, ◌⊎◌}
use Rattle.std.proofs.lemmas.List.{take_all}
use Rattle.lent_bytes.proofs.EachLaws.{drop_at}
use Rattle.text.specs.Buffer.{usize_max}
use Rattle.text.specs.Decimal.{is_digit, all_digits, is_decimal, with_digit}
use Rattle.text.specs.TextLines.{length_to, line_length, word_length, with_byte, words_of}

-- ---- the rest of a text

pub rest_from : (s : List ℕ) (at : ℕ) (o : Option (Bor (List ℕ))) (d : Bor (List ℕ))
    → MatchOption o ((length s < at) ⊎ (length s < length s)) (λ x. (at ≤ length s) × (length s ≤ length s) × (x.now ≡ slice_range s at (length s)) × (length x.now + at ≡ length s))
    → d.now ≡ [] → (unwrap_or o d).now ≡ drop at s
rest_from s at None d h e = e ∙ sym (drop_of_length-le s (omega (arith, h)))
rest_from s at (Some x) d h e = h.2 ∙ take_all _ (drop at s) (omega (arith, length-drop at s))

-- ---- the first byte of a kind

module _ (b : ℕ) where
  pub to_here : (s : List ℕ) (i : ℕ) → i < length s → get_or s i 0 ≡ b → length_to b (drop i s) ≡ 0
  to_here s i h e = ap (length_to b) (drop_at s i h) ∙ simp (eq-eqb (get_or s i 0) b e)

  pub to_most : (s : List ℕ) → length_to b s ≤ length s
  to_most [] = omega arith
  to_most (c ∷ s) = by (eqb c b) (to_most s)
    where
      by : (t : Bool) → length_to b s ≤ length s → cond t 0 (suc (length_to b s)) ≤ suc (length s)
      by true h = omega arith
      by false h = omega arith

  to_skip : (s : List ℕ) (i : ℕ) → i ≤ length_to b s → length_to b s ≡ i + length_to b (drop i s)
  to_skip s zero h = omega arith
  to_skip [] (suc i) h = absurd (omega arith)
  to_skip (c ∷ s) (suc i) h = by (eqb c b) (λ k. to_skip s i k) h
    where
      by : (t : Bool) → (i ≤ length_to b s → length_to b s ≡ i + length_to b (drop i s)) → suc i ≤ cond t 0 (suc (length_to b s))
          → cond t 0 (suc (length_to b s)) ≡ suc i + length_to b (drop i s)
      by true r h = absurd (omega arith)
      by false r h = omega (arith, r (omega arith))

  to_found : (s : List ℕ) → length_to b s < length s → get_or s (length_to b s) 0 ≡ b
  to_found [] h = absurd (omega arith)
  to_found (c ∷ s) h = by (eqb c b) refl (λ k. to_found s k) h
    where
      by : (t : Bool) → eqb c b ≡ t → (length_to b s < length s → get_or s (length_to b s) 0 ≡ b) → cond t 0 (suc (length_to b s)) < suc (length s)
          → get_or (c ∷ s) (cond t 0 (suc (length_to b s))) 0 ≡ b
      by true e r h = eqb-true c b e
      by false e r h = r (omega arith)

  to_joined : (l s : List ℕ) → ((i : ℕ) → i < length l → get_or l i 0 ≢ b) → length_to b (l ++ b ∷ s) ≡ length l
  to_joined [] s h = simp (eq-eqb b b refl)
  to_joined (c ∷ l) s h = simp (ne_eqb c b (h 0 (omega arith)), to_joined l s (λ i k. h (suc i) (omega arith)))

  to_position : (s : List ℕ) → length_to b s ≡ position_or_len (λ c. eqb c b) s
  to_position = is_position_or_len (length_to b) (λ c. eqb c b) refl (λ c s. ap (cond (eqb c b) 0) (sym (one-add (length_to b s))))

  pub to_first : (s : List ℕ) {r : Option ℕ}
      → r ≡ cond (ltb (position_or_len (λ c. eqb c b) s) (length s)) (Some (position_or_len (λ c. eqb c b) s)) None
      → unwrap_or r (length s) ≡ length_to b s
  to_first s {r} e = rw (e, ← to_position s) (by (ltb (length_to b s) (length s)) refl)
    where
      by : (t : Bool) → ltb (length_to b s) (length s) ≡ t → unwrap_or (cond t (Some (length_to b s)) None) (length s) ≡ length_to b s
      by true e = refl
      by false e = omega (arith, to_most s, ltb-false (length_to b s) (length s) e)

-- ---- lines

pub line_ended : (s : List ℕ) → length_to 10 s < length s → line_length s ≡ length_to 10 s + 1
unfolding line_length
line_ended s h = simp (lt-ltb (length_to 10 s) (length s) h)

pub line_unended : (s : List ℕ) → length s ≤ length_to 10 s → line_length s ≡ 0
unfolding line_length
line_unended s h = simp (le-ltb (length_to 10 s) (length s) h)

line_some : (s : List ℕ) → 0 < line_length s → (length_to 10 s < length s) × (line_length s ≡ length_to 10 s + 1)
line_some s some = elim (dec_lt (length_to 10 s) (length s)) [
  | yes h ↦ (h, line_ended s h)
  | no h ↦ absurd (omega (arith, line_unended s (omega arith)))
]

pub line_most : (s : List ℕ) → line_length s ≤ length s
line_most s = elim (dec_lt (length_to 10 s) (length s)) [
  | yes h ↦ omega (arith, line_ended s h)
  | no h ↦ omega (arith, line_unended s (omega arith))
]

pub line_skip : (s : List ℕ) (i : ℕ) → i < line_length s → line_length s ≡ i + line_length (drop i s)
line_skip s i h = let line = line_some s (omega arith) in
    let skip = to_skip 10 s i (omega (arith, line.1)) in
    omega (arith, line.1, line_ended (drop i s) (omega (arith, line.0, length-drop i s)))

-- a line: bytes but 10, and byte 10
pub line_joined : (l s : List ℕ) → ((i : ℕ) → i < length l → get_or l i 0 ≢ 10) → line_length (l ++ 10 ∷ s) ≡ length l + 1
line_joined l s h = let to = to_joined 10 l s h in line_ended (l ++ 10 ∷ s) (omega (arith, length-append l (10 ∷ s))) ∙ ap (λ (n : ℕ). n + 1) to

pub line_ends : (s : List ℕ) → 0 < line_length s → take (line_length s) s ≡ take (line_length s - 1) s ++ (10 ∷ [])
line_ends s some = let line = line_some s some in
    let n : ℕ = length_to 10 s in
    let less : line_length s - 1 ≡ n = omega (arith, line.1) in
    ap (λ (k : ℕ). take k s) (line.1 ∙ add-one n) ∙ take-suc s n 0 line.0
    ∙ ap₂ (λ (k c : ℕ). take k s ++ (c ∷ [])) (sym less) (to_found 10 s line.0)

pub line_inside : (s : List ℕ) (i : ℕ) → suc i < line_length s → get_or s i 0 ≢ 10
line_inside s i h e = let line = line_some s (omega arith) in
    omega (arith, line.1, to_skip 10 s i (omega (arith, line.1)), to_here 10 s i (omega (arith, line.0, line.1)) e)

-- ---- words

pub word_most : (s : List ℕ) → word_length s ≤ length s
unfolding word_length
word_most s = to_most 32 s

pub words_last : (s : List ℕ) → word_length s ≡ length s → words_of s ≡ take (word_length s) s ∷ []
unfolding word_length words_of
words_last [] e = refl
words_last (b ∷ s) e = by (eqb b 32) (words_last s) e
  where
    by : (t : Bool) → (word_length s ≡ length s → words_of s ≡ take (word_length s) s ∷ []) → cond t 0 (suc (word_length s)) ≡ suc (length s)
        → cond t ([] ∷ words_of s) (with_byte b (words_of s)) ≡ take (cond t 0 (suc (word_length s))) (b ∷ s) ∷ []
    by true r e = absurd (omega arith)
    by false r e = ap (with_byte b) (r (omega arith))

pub words_more : (s : List ℕ) → word_length s < length s → words_of s ≡ take (word_length s) s ∷ words_of (drop (suc (word_length s)) s)
unfolding word_length words_of
words_more [] h = absurd (omega arith)
words_more (b ∷ s) h = by (eqb b 32) (words_more s) h
  where
    by : (t : Bool) → (word_length s < length s → words_of s ≡ take (word_length s) s ∷ words_of (drop (suc (word_length s)) s))
        → cond t 0 (suc (word_length s)) < suc (length s)
        → cond t ([] ∷ words_of s) (with_byte b (words_of s))
        ≡ take (cond t 0 (suc (word_length s))) (b ∷ s) ∷ words_of (drop (suc (cond t 0 (suc (word_length s)))) (b ∷ s))
    by true r h = refl
    by false r h = ap (with_byte b) (r (omega arith))

-- ---- digits

pub decimal-none : (w : List ℕ) → length w ≡ 0 → is_decimal w ≡ false
unfolding is_decimal
decimal-none [] e = refl
decimal-none (c ∷ w) e = absurd (omega arith)

pub decimal_zero : (w : List ℕ) → 0 < length w → get_or w 0 0 ≡ 48 → is_decimal w ≡ eqb (length w) 1
unfolding is_decimal
decimal_zero [] h e = absurd (omega arith)
decimal_zero (c ∷ []) h e = ap is_digit e
decimal_zero (c ∷ d ∷ w) h e = ap (λ (b : Bool). not b && all_digits (c ∷ d ∷ w)) (eq-eqb c 48 e) ∙ sym (ne_eqb (suc (suc (length w))) 1 (λ z. omega arith))

pub decimal_by_digits : (w : List ℕ) → 0 < length w → get_or w 0 0 ≢ 48 → is_decimal w ≡ all_digits w
unfolding is_decimal all_digits
decimal_by_digits [] h f = absurd (omega arith)
decimal_by_digits (c ∷ []) h f = sym (and-true (is_digit c))
decimal_by_digits (c ∷ d ∷ w) h f = ap (λ (b : Bool). not b && all_digits (c ∷ d ∷ w)) (ne_eqb c 48 f)

-- ---- the value

-- the value so far is cut to the greatest number of 64 bits
abbrev pub cut_digit : ℕ → ℕ → ℕ
cut_digit v c = min (with_digit v c) usize_max

pub value_cut : (w : List ℕ) (v : ℕ) → fold cut_digit (min v usize_max) w ≡ min (foldl with_digit v w) usize_max
value_cut [] v = refl
value_cut (c ∷ w) v = let e : cut_digit (min v usize_max) c ≡ min (with_digit v c) usize_max = omega arith in
    ap (λ (x : ℕ). fold cut_digit x w) e ∙ value_cut w (with_digit v c)
