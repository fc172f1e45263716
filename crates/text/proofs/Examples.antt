-- The definitions, computed on a few values. A text is written as its bytes.
-- Assumes nothing.
use mathlib.Core.Path.{◌≡◌, refl}
use mathlib.Core.Bool.{true, false}
use mathlib.Core.List.{[], ◌∷◌}
use Rattle.text.specs.Buffer.{buffer, put}
use Rattle.text.specs.Decimal.{decimal, decimal_in}
use Rattle.text.specs.Ascii.{ascii}
use Rattle.text.specs.Hex.{hex_byte, hex_bytes, hex_digit, is_hex_digit, all_hex_digits}
use Rattle.text.specs.TextLines.{line_length, words_of}

-- "0", "9", "10", "18446744073709551615"
zero_text : decimal 0 ≡ 48 ∷ []
unfolding decimal decimal_in
zero_text = refl

nine_text : decimal 9 ≡ 57 ∷ []
unfolding decimal decimal_in
nine_text = refl

ten_text : decimal 10 ≡ 49 ∷ 48 ∷ []
unfolding decimal decimal_in
ten_text = refl

greatest_text : decimal 18446744073709551615
    ≡ 49 ∷ 56 ∷ 52 ∷ 52 ∷ 54 ∷ 55 ∷ 52 ∷ 52 ∷ 48 ∷ 55 ∷ 51 ∷ 55 ∷ 48 ∷ 57 ∷ 53 ∷ 53 ∷ 49 ∷ 54 ∷ 49 ∷ 53 ∷ []
unfolding decimal decimal_in
greatest_text = refl

-- "0a", "ff"
low_text : hex_byte 10 ≡ 48 ∷ 97 ∷ []
unfolding hex_digit
low_text = refl

high_text : hex_byte 255 ≡ 102 ∷ 102 ∷ []
unfolding hex_digit
high_text = refl

-- "0aff"
bytes_text : hex_bytes (10 ∷ 255 ∷ []) ≡ 48 ∷ 97 ∷ 102 ∷ 102 ∷ []
unfolding hex_bytes hex_digit
bytes_text = refl

-- "0aff" in lower case, and "0A"
lower_case : all_hex_digits (48 ∷ 97 ∷ 102 ∷ 102 ∷ []) ≡ true
unfolding all_hex_digits is_hex_digit
lower_case = refl

upper_case : all_hex_digits (48 ∷ 65 ∷ []) ≡ false
unfolding all_hex_digits is_hex_digit
upper_case = refl

-- two bytes are written and the third only counted
cut_off : put (buffer (7 ∷ 7 ∷ 7 ∷ []) 1) (1 ∷ 2 ∷ 3 ∷ []) ≡ buffer (7 ∷ 1 ∷ 2 ∷ []) 4
unfolding put
cut_off = refl

-- past the greatest position nothing is counted either
at_the_end : put (buffer (7 ∷ []) 18446744073709551614) (1 ∷ 2 ∷ 3 ∷ []) ≡ buffer (7 ∷ []) 18446744073709551615
unfolding put
at_the_end = refl

-- ---- lines and words

a_line : line_length (ascii "F 7\nV") ≡ 4
unfolding line_length
a_line = refl

no_line : line_length (ascii "F 7") ≡ 0
unfolding line_length
no_line = refl

-- a space more is a word of nothing
four_words : words_of (ascii "2 10  ") ≡ ascii "2" ∷ ascii "10" ∷ [] ∷ [] ∷ []
unfolding words_of
four_words = refl
