-- The first line of a log, word by word.
--
--   some_words, few_words   how many words a line has
--   words_split             they are what the line is split into
--   not_first               a line with a word that is no number
--   Reads ws count values, reads_none, reads_more     the loop of `read_numbers`, the words ws being read
--   Stored, stored, unstored     a number stored, or no room for it
--   reads_all               its end
-- Assumes nothing.
use mathlib.Core.Path.{◌≡◌, refl, sym, ap, ◌∙◌, subst}
use mathlib.Core.Bool.{Bool, true, false, cond, ◌&&◌, and-true, and-false, false≢true}
use mathlib.Core.List.{List, [], ◌∷◌, ◌++◌, map}
use Prim.Native.Nat.{ℕ, zero, suc, ◌+◌, ◌≤◌, ◌<◌, min}
use native.Mathlib.Nat.{not-suc-le-zero}
use native.Mathlib.Omega.{arith}
use native.Mathlib.Decide.{ℕ_discrete}
use lib.Dec.{eqb}
use lib.ListN.{length, get_or, set, replicate, length-append, length-set, length-replicate, get_or-append}
use lib.Seq.{get_or-set_same, get_or-set_other, get_or-append_seam}
use Rattle.std.specs.List.{slice_split, onto_first}
use Rattle.text.specs.Buffer.{usize_max}
use Rattle.text.specs.Decimal.{is_decimal, value_of}
use Rattle.text.specs.TextLines.{with_byte, words_of}
use Rattle.replay.specs.Log.{all_decimal, is_first_line, numbers_of}
use Rattle.replay.specs.FirstLine.{NumbersRead}

-- ---- the words of a line

pub some_words : (s : List ℕ) → 0 < length (words_of s)
unfolding words_of
some_words [] = omega arith
some_words (b ∷ s) = by (eqb b 32) (words_of s) (some_words s)
  where
    by : (t : Bool) (ws : List (List ℕ)) → 0 < length ws → 0 < length (cond t ([] ∷ ws) (with_byte b ws))
    by true ws h = omega arith
    by false [] h = h
    by false (w ∷ ws) h = omega arith

pub few_words : (s : List ℕ) → length (words_of s) ≤ length s + 1
unfolding words_of
few_words [] = omega arith
few_words (b ∷ s) = by (eqb b 32) (words_of s) (few_words s)
  where
    by : (t : Bool) (ws : List (List ℕ)) → length ws ≤ length s + 1 → length (cond t ([] ∷ ws) (with_byte b ws)) ≤ suc (length s) + 1
    by true ws h = omega arith
    by false [] h = omega arith
    by false (w ∷ ws) h = omega arith

pub words_split : (s : List ℕ) → slice_split (λ b. eqb b 32) s ≡ words_of s
unfolding words_of
words_split [] = refl
words_split (b ∷ s) = by (eqb b 32) (words_of s) (words_split s) (some_words s)
  where
    by : (t : Bool) (ws : List (List ℕ)) → slice_split (λ b. eqb b 32) s ≡ ws → 0 < length ws
        → cond t ([] ∷ slice_split (λ b. eqb b 32) s) (onto_first b (slice_split (λ b. eqb b 32) s)) ≡ cond t ([] ∷ ws) (with_byte b ws)
    by true ws e h = ap (λ (x : List (List ℕ)). [] ∷ x) e
    by false [] e h = absurd (omega arith)
    by false (w ∷ ws) e h = ap (onto_first b) e

not_all : (ws : List (List ℕ)) (i : ℕ) (w : List ℕ) → i < length ws → w ≡ get_or ws i w → is_decimal w ≡ false → all_decimal ws ≡ false
unfolding all_decimal
not_all [] i w h e n = absurd (omega arith)
not_all (v ∷ ws) zero w h e n = ap (λ (b : Bool). b && all_decimal ws) (sym (ap is_decimal e) ∙ n)
not_all (v ∷ ws) (suc i) w h e n = ap (λ (b : Bool). is_decimal v && b) (not_all ws i w (omega arith) e n) ∙ and-false (is_decimal v)

pub not_first : (line : List ℕ) (i : ℕ) (w : List ℕ) → i < length (slice_split (λ b. eqb b 32) line) → w ≡ get_or (slice_split (λ b. eqb b 32) line) i w
    → is_decimal w ≡ false → is_first_line line ≡ false
not_first line i w h e n = ap all_decimal (sym (words_split line)) ∙ not_all _ i w h e n

-- ---- the numbers so far

pub record Reads (ws : List (List ℕ)) (count : ℕ) (values : List ℕ) : Type 0 where
  pub shape : all_decimal ws ≡ true
  pub counted : count ≡ length (map value_of ws)
  pub long : length values ≡ 255
  pub each : (i : ℕ) → i < count → i < 255 → get_or values i 0 ≡ min (get_or (map value_of ws) i 0) usize_max

pub reads_none : Reads [] 0 (replicate 255 0)
unfolding all_decimal
reads_none = record { shape = refl; counted = refl; long = length-replicate {A = ℕ} 255 0; each = λ i l. absurd (not-suc-le-zero l) }

-- a number stored, or no room for it
pub record Stored (values : List ℕ) (count v : ℕ) (values' : List ℕ) : Type 0 where
  pub long : length values' ≡ 255
  pub same : (i : ℕ) → i < count → i < 255 → get_or values' i 0 ≡ get_or values i 0
  pub new : count < 255 → get_or values' count 0 ≡ v

pub stored : (values : List ℕ) (count v : ℕ) (values' : List ℕ) → length values ≡ 255 → count < 255 → values' ≡ set values count v → Stored values count v values'
stored values count v values' e l z =
    subst (Stored values count v) (sym z) record {
      long = length-set values count v ∙ e;
      same = λ i a b. get_or-set_other values count i v 0 (λ h. omega arith);
      new = λ _. get_or-set_same values count v 0 (omega arith);
    }

pub unstored : (values : List ℕ) (count v : ℕ) (values' : List ℕ) → length values ≡ 255 → 255 ≤ count → values' ≡ values → Stored values count v values'
unstored values count v values' e l z = subst (Stored values count v) (sym z) record { long = e; same = λ i a b. refl; new = λ b. absurd (omega arith) }

all_more : (ws : List (List ℕ)) (w : List ℕ) → all_decimal ws ≡ true → is_decimal w ≡ true → all_decimal (ws ++ (w ∷ [])) ≡ true
unfolding all_decimal
all_more [] w h e = and-true (is_decimal w) ∙ e
all_more (v ∷ ws) w h e = by (is_decimal v) (λ k. all_more ws w k e) h
  where
    by : (b : Bool) → (all_decimal ws ≡ true → all_decimal (ws ++ (w ∷ [])) ≡ true) → (b && all_decimal ws) ≡ true
        → (b && all_decimal (ws ++ (w ∷ []))) ≡ true
    by true more h = more h
    by false more h = absurd (false≢true h)

map_more : (ws : List (List ℕ)) (w : List ℕ) → map value_of (ws ++ (w ∷ [])) ≡ map value_of ws ++ (value_of w ∷ [])
map_more [] w = refl
map_more (v ∷ ws) w = ap (λ (x : List ℕ). value_of v ∷ x) (map_more ws w)

pub reads_more : (ws : List (List ℕ)) (count : ℕ) (values : List ℕ) → Reads ws count values → (w : List ℕ) → is_decimal w ≡ true
    → (values' : List ℕ) → Stored values count (min (value_of w) usize_max) values' → Reads (ws ++ (w ∷ [])) (count + 1) values'
reads_more ws count values R w ok values' S = record {
  shape = all_more ws w R.shape ok;
  counted = ap (λ (k : ℕ). k + 1) R.counted ∙ sym (ap length (map_more ws w) ∙ length-append (map value_of ws) (value_of w ∷ []));
  long = S.long;
  each = λ i l b. more i l b ∙ ap (λ (ns : List ℕ). min (get_or ns i 0) usize_max) (sym (map_more ws w));
}
  where
    more : (i : ℕ) → i < count + 1 → i < 255 → get_or values' i 0 ≡ min (get_or (map value_of ws ++ (value_of w ∷ [])) i 0) usize_max
    more i l b =
        elim (ℕ_discrete i count) [
          | yes e ↦
              ap (λ (k : ℕ). get_or values' k 0) e ∙ S.new (omega arith)
              ∙ sym (ap (λ (x : ℕ). min x usize_max)
              (ap (λ (k : ℕ). get_or (map value_of ws ++ (value_of w ∷ [])) k 0) (e ∙ R.counted) ∙ get_or-append_seam (map value_of ws) (value_of w) [] 0))
          | no q ↦
              let c = R.counted in
              S.same i (omega arith) b ∙ R.each i (omega arith) b
              ∙ sym (ap (λ (x : ℕ). min x usize_max) (get_or-append (map value_of ws) (value_of w ∷ []) 0 i (omega arith)))
        ]

pub reads_all : (line : List ℕ) (ws : List (List ℕ)) (count : ℕ) (values : List ℕ) → ws ≡ slice_split (λ b. eqb b 32) line → Reads ws count values
    → NumbersRead line record { count = count; values = values }
reads_all line ws count values e R = let z = e ∙ words_split line in
    let c : count ≡ length (numbers_of line) = R.counted ∙ ap (λ (vs : List (List ℕ)). length (map value_of vs)) z in
    record {
      shape = sym (ap all_decimal z) ∙ R.shape;
      full = R.long;
      counted = c;
      each = λ i l b. R.each i (omega arith) b ∙ ap (λ (vs : List (List ℕ)). min (get_or (map value_of vs) i 0) usize_max) z;
    }
