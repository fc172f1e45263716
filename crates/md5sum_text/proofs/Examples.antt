-- The definitions, computed on a few lines and an entry. A text is written as its characters, with the byte 10 after each line.
-- Assumes nothing.
use mathlib.Core.Path.{◌≡◌, refl}
use mathlib.Core.Bool.{true, false}
use mathlib.Core.List.{List, [], ◌∷◌, ◌++◌, flatten}
use Prim.Native.Nat.{ℕ}
use Prim.Native.String.{String}
use lib.ListN.{replicate}
use Rattle.computed_tests.specs.Lists.{first_below}
use Rattle.cut_lists.specs.Pieces.{cut, cut_in}
use Rattle.lent_bytes.specs.Equal.{equal}
use Rattle.little_endian.specs.Bytes.{from_le, le_at}
use Rattle.entries.specs.Entry.{units_of}
use Rattle.refusals.specs.Tests.{bare}
use Rattle.text.specs.Ascii.{ascii}
use Rattle.text.specs.Hex.{hex_digit, hex_bytes, is_hex_digit, all_hex_digits}
use Rattle.text.specs.TextLines.{line_length}
use Rattle.md5sum_text.specs.Lines.{is_shaped, shaped_length, lines_of}
use Rattle.md5sum_text.specs.Names.{is_fitting, is_named}
use Rattle.md5sum_text.specs.Export.{line_for}
use Rattle.md5sum_text.specs.Import.{any, is_again, again_in, text_refusal, answer_for}

abbrev line : String → List ℕ
line s = ascii s ++ (10 ∷ [])

-- an entry with an MD5 of bytes 255 and the name "a b", and one with the unit 127 in its name
abbrev entry : ℕ → List ℕ
entry u = replicate 24 0 ++ (replicate 16 255 ++ (replicate 16 0 ++ (97 ∷ 0 ∷ u ∷ 0 ∷ 98 ∷ 0 ∷ [])))

its_line : line_for (entry 32) ≡ line "ffffffffffffffffffffffffffffffff  a b"
unfolding line_for flatten hex_bytes hex_digit units_of le_at from_le
its_line = refl

not_fitting : is_fitting (entry 127) ≡ false
unfolding units_of le_at from_le
not_fitting = refl

-- ---- shapes

right : is_shaped (line "0123456789abcdef0123456789abcdef  *a") ≡ true
unfolding is_shaped all_hex_digits is_hex_digit equal
right = refl

upper_case : is_shaped (line "0123456789ABCDEF0123456789abcdef  a") ≡ false
unfolding is_shaped all_hex_digits is_hex_digit equal
upper_case = refl

one_space : is_shaped (line "0123456789abcdef0123456789abcdef ab") ≡ false
unfolding is_shaped all_hex_digits is_hex_digit equal
one_space = refl

no_name : is_shaped (line "0123456789abcdef0123456789abcdef  ") ≡ false
unfolding is_shaped all_hex_digits is_hex_digit equal
no_name = refl

unended : shaped_length (ascii "0123456789abcdef0123456789abcdef  a") ≡ 0
unfolding shaped_length line_length is_shaped
unended = refl

-- ---- texts

abbrev full : List ℕ
full = line "ffffffffffffffffffffffffffffffff  a b"

abbrev other : List ℕ
other = line "00000000000000000000000000000000  a b"

-- the listed name "a b" again with another sum, in line 2
again : text_refusal (entry 32 ∷ []) (lines_of (full ++ other)) ≡ record { number = 23; place = 2 }
unfolding text_refusal again_in first_below is_again any is_named units_of le_at from_le equal cut cut_in shaped_length line_length is_shaped all_hex_digits
    is_hex_digit
again = refl

-- where no entry has that name, it is passed over
unlisted : text_refusal (entry 33 ∷ []) (lines_of (full ++ other)) ≡ bare 0
unfolding text_refusal again_in first_below is_again any is_named units_of le_at from_le equal cut cut_in shaped_length line_length is_shaped all_hex_digits
    is_hex_digit
unlisted = refl

-- ---- bytes

same : answer_for (full ∷ []) (entry 32) ≡ 1
unfolding answer_for is_named units_of le_at from_le equal hex_bytes hex_digit
same = refl

different : answer_for (other ∷ []) (entry 32) ≡ 2
unfolding answer_for is_named units_of le_at from_le equal hex_bytes hex_digit
different = refl

none : answer_for (full ∷ []) (entry 33) ≡ 0
unfolding answer_for is_named units_of le_at from_le equal hex_bytes hex_digit
none = refl
