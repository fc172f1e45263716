-- The lines of a log (document 02, 2026-11: "a first line with the number of files and their sizes, then one line per event .. decimal without
-- leading zeros, single spaces, byte 10 after each").
--
--   body_of l           the line l without its byte 10
--   all_decimal ws      whether each word is a number
--   is_first_line l, numbers_of l      whether a first line has its shape, and its numbers
--   is_letter b, change_of b          whether a letter is one of an event, and its change
--   is_event_line l, number_in l       whether the line of an event has its shape, and its number
-- A number is what its digits spell, however many they are.
-- Assumes nothing.
use Rattle.std.specs.Prelude.{ℕ, ◌-◌, Bool, true, cond, ◌&&◌, ◌||◌, List, [], ◌∷◌, map, eqb, length, get_or, take, drop}
use Prim.Native.Char.{code}
use Rattle.codes.specs.declared.Code.TheVariants.{Powers}
use Rattle.inventory.specs.Model.{Change, add_file, remove_file, add_volume, remove_volume}
use Rattle.text.specs.Decimal.{is_decimal, value_of}
use Rattle.text.specs.TextLines.{words_of}

abbrev pub body_of : List ℕ → List ℕ
body_of l = take (length l - 1) l

-- ---- the first line

unfoldable pub all_decimal : List (List ℕ) → Bool
all_decimal [] = true
all_decimal (w ∷ ws) = is_decimal w && all_decimal ws

-- "the number of files and their sizes"
abbrev pub is_first_line : List ℕ → Bool
is_first_line l = all_decimal (words_of l)

abbrev pub numbers_of : List ℕ → List ℕ
numbers_of l = map value_of (words_of l)

-- ---- an event

-- ""F 7" and "V 4" for noted, "f 7" and "v 4" for withdrawn"
unfoldable pub is_letter : ℕ → Bool
is_letter b = eqb b (code "F") || (eqb b (code "V") || (eqb b (code "f") || eqb b (code "v")))

-- 2026-13: "noting a volume names its code"; "(the replay keeps the old one)"
unfoldable pub change_of : ℕ → Change
change_of b = cond (eqb b (code "F")) add_file (cond (eqb b (code "V")) (add_volume Powers) (cond (eqb b (code "f")) remove_file remove_volume))

unfoldable pub is_event_line : List ℕ → Bool
is_event_line l = is_letter (get_or l 0 0) && (eqb (get_or l 1 0) (code " ") && is_decimal (drop 2 l))

abbrev pub number_in : List ℕ → ℕ
number_in l = value_of (drop 2 l)
