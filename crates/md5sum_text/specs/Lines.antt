-- The lines of md5sum text (document 02, 2026-07: "32 lower-case hex digits, two spaces, name, byte 10").
--
--   is_shaped l       whether the line l has the shape
--   shaped_length s   the length of the line of that shape that s begins with; 0 where s begins with none
--   lines_of s        the lines of s up to the first that is of another shape or unended, and the rest of s
--   sum_in l, name_in l     the sum and the name in a line
-- Assumes nothing.
use Rattle.std.specs.Prelude.{ℕ, ◌-◌, Bool, cond, ◌&&◌, List, leb, length, take, drop}
use Rattle.cut_lists.specs.Pieces.{Cut, cut}
use Rattle.lent_bytes.specs.Equal.{equal}
use Rattle.text.specs.Ascii.{ascii}
use Rattle.text.specs.Hex.{all_hex_digits}
use Rattle.text.specs.TextLines.{line_length}

-- "32 lower-case hex digits, two spaces, name, byte 10"; "a name is one or more bytes but 10"
unfoldable pub is_shaped : List ℕ → Bool
is_shaped l = leb 36 (length l) && all_hex_digits (take 32 l) && equal (take 2 (drop 32 l)) (ascii "  ")

unfoldable pub shaped_length : List ℕ → ℕ
shaped_length s = cond (is_shaped (take (line_length s) s)) (line_length s) 0

abbrev pub lines_of : List ℕ → Cut
lines_of s = cut shaped_length s

abbrev pub sum_in : List ℕ → List ℕ
sum_in l = take 32 l

abbrev pub name_in : List ℕ → List ℕ
name_in l = take (length l - 35) (drop 34 l)
