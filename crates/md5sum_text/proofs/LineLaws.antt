-- The lines of a text, from a position on.
--
--   Shaped, shaped       what the test of the shape tells
--   HasLine, has_line    what a text tells that begins with a line of the right shape
--   past_sum             the search for its end may start at its name
--   lines_stop, lines_more    the lines from a position on: none, or one and those after it
--   IsLine, line_at, line_of, line_long      a line at its place
-- Assumes nothing.
use mathlib.Core.Path.{◌≡◌, refl, sym, ap, ◌∙◌}
use mathlib.Core.Bool.{Bool, true, false, cond, ◌&&◌}
use mathlib.Core.List.{List, [], ◌∷◌}
use Prim.Native.Nat.{ℕ, zero, suc, ◌+◌, ◌≤◌, ◌<◌}
use native.Mathlib.Numerals.{add-one}
use native.Mathlib.Omega.{arith}
use borrow.Author.Tests.{leb-true}
use lib.Dec.{leb}
use lib.ListN.{length, take, drop, get_or, length-drop}
use lib.Seq.{drop-cons, drop-drop, length-take-le}
use Rattle.computed_tests.proofs.Tests.{and_both}
use Rattle.cut_lists.specs.Pieces.{Cut, none, before}
use Rattle.cut_lists.proofs.CutLaws.{cut_stop, cut_more}
use Rattle.lent_bytes.specs.Equal.{equal}
use Rattle.lent_bytes.proofs.EqualLaws.{equal_true}
use Rattle.text.specs.Ascii.{ascii}
use Rattle.text.specs.Hex.{all_hex_digits}
use Rattle.text.specs.TextLines.{line_length}
use Rattle.text.proofs.ScanLaws.{line_most, line_skip}
use Rattle.md5sum_text.specs.Lines.{is_shaped, shaped_length, lines_of}
use Rattle.md5sum_text.specs.Walks.{Stands}
use Rattle.md5sum_text.specs.declared.lines.Place.{Place}

-- ---- the shape

pub record Shaped (l : List ℕ) : Type 0 where
  pub long : 36 ≤ length l
  pub digits : all_hex_digits (take 32 l) ≡ true
  pub spaces : take 2 (drop 32 l) ≡ ascii "  "

pub shaped : (l : List ℕ) → is_shaped l ≡ true → Shaped l
unfolding is_shaped
shaped l e = let both = and_both (leb 36 (length l) && all_hex_digits (take 32 l)) (equal (take 2 (drop 32 l)) (ascii "  ")) e in
    let two = and_both (leb 36 (length l)) (all_hex_digits (take 32 l)) both.0 in
    record { long = leb-true 36 (length l) two.0; digits = two.1; spaces = equal_true _ _ both.1 }

-- s begins with a line of the right shape
pub record HasLine (s : List ℕ) : Type 0 where
  pub length_is : shaped_length s ≡ line_length s
  pub low : 36 ≤ shaped_length s
  pub high : shaped_length s ≤ length s
  pub shape : Shaped (take (shaped_length s) s)

pub has_line : (s : List ℕ) → 0 < shaped_length s → HasLine s
unfolding shaped_length
has_line s some = by (is_shaped (take (line_length s) s)) refl some
  where
    by : (t : Bool) → is_shaped (take (line_length s) s) ≡ t → 0 < cond t (line_length s) 0 → HasLine s
    by true e h = let is : shaped_length s ≡ line_length s = simp e in
        let shape = shaped (take (line_length s) s) e in
        record {
          length_is = is;
          low = omega (arith, shape.long, length-take-le (line_length s) s (line_most s));
          high = omega (arith, line_most s);
          shape = rw is shape;
        }
    by false e h = absurd (omega arith)

-- no byte of the sum or of the spaces ends a line
pub past_sum : (s : List ℕ) (at : ℕ) → 0 < shaped_length (drop at s)
    → (at + 36 ≤ length s) × (34 + line_length (drop (at + 34) s) ≡ shaped_length (drop at s))
past_sum s at h = let has = has_line (drop at s) h in
    let skip = line_skip (drop at s) 34 (omega (arith, has.length_is, has.low)) in
    let there = ap line_length (drop-drop 34 at s) in
    (omega (arith, has.low, has.high, length-drop at s), omega (arith, has.length_is))

-- ---- the lines from a position on

module _ (s : List ℕ) (at : ℕ) where
  pub lines_stop : shaped_length (drop at s) ≡ 0 → lines_of (drop at s) ≡ none (drop at s)
  lines_stop e = cut_stop shaped_length (drop at s) e

  pub lines_more : 0 < shaped_length (drop at s)
      → lines_of (drop at s) ≡ before (take (shaped_length (drop at s)) (drop at s)) (lines_of (drop (at + shaped_length (drop at s)) s))
  lines_more h = let n : ℕ = shaped_length (drop at s) in
      cut_more shaped_length (drop at s) (omega (arith, (has_line (drop at s) h).low, (has_line (drop at s) h).high)) h
      ∙ ap (λ (t : List ℕ). before (take n (drop at s)) (lines_of t)) (drop-drop n at s)

abbrev pub place : ℕ → ℕ → Place
place number at = record { number = number; at = at }

-- line p .number of s has n bytes
pub record IsLine (s : List ℕ) (p : Place) (n : ℕ) : Type 0 where
  pub some : 0 < shaped_length (drop p.at s)
  pub low : 36 ≤ n
  pub fits : p.at + n ≤ length s
  pub line_is : take n (drop p.at s) ≡ get_or (lines_of s).pieces p.number []
  pub next : Stands s (place (p.number + 1) (p.at + n))

pub line_at : (s : List ℕ) (p : Place) → Stands s p → p.number < length (lines_of s).pieces → IsLine s p (shaped_length (drop p.at s))
line_at s p stands h = by (shaped_length (drop p.at s)) refl
  where
    ls : List (List ℕ)
    ls = (lines_of s).pieces

    by : (n : ℕ) → n ≡ shaped_length (drop p.at s) → IsLine s p (shaped_length (drop p.at s))
    by zero e = let stopped = ap (λ (c : Cut). length c.pieces) (lines_stop s p.at (sym e)) in
        absurd (omega (arith, ap length stands, length-drop p.number ls))
    by (suc m) e = let some : 0 < shaped_length (drop p.at s) = omega arith in
        let has = has_line (drop p.at s) some in
        let more = ap (λ (c : Cut). c.pieces) (lines_more s p.at some) in
        let here = drop-cons ls p.number [] h ∙ ap (λ (k : ℕ). get_or ls p.number [] ∷ drop k ls) (sym (add-one p.number)) in
        record {
          some = some;
          low = has.low;
          fits = omega (arith, has.low, has.high, length-drop p.at s);
          line_is = cc;
          next = cc;
        }

-- the line, where its length and its bytes are known under other names
module _ {s l : List ℕ} {p : Place} {n m : ℕ} (i : IsLine s p n) (size : m ≡ n) (e : l ≡ take m (drop p.at s)) where
  pub line_of : l ≡ get_or (lines_of s).pieces p.number []
  line_of = e ∙ ap (λ (k : ℕ). take k (drop p.at s)) size ∙ i.line_is

  pub line_long : 36 ≤ length l
  line_long = omega (arith, ap length e, i.low, i.fits, length-take-le m (drop p.at s) (omega (arith, i.fits, length-drop p.at s)))
