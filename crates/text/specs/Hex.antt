-- Bytes in hexadecimal, in lower case.
--
--   hex_digit d     the character of the digit d
--   hex_byte b      the two digits of the byte b
--   hex_bytes s     the digits of the bytes s, two each
--   is_hex_digit c, all_hex_digits w     whether a character is a hexadecimal digit in lower case, whether all of them are
--   hex_digit_value c     the digit of the character c
--   hex_value w     the number that the digits w spell
-- Assumes nothing.
use Rattle.std.specs.Prelude.{Bool, cond, ◌&&◌, ◌||◌, ℕ, ◌+◌, ◌-◌, ◌*◌, ◌/◌, ◌%◌, leb, ltb}
use mathlib.Core.List.{List, [], ◌∷◌, ◌++◌, foldl}
use Rattle.lent_bytes.specs.Each.{each}

-- the character of the digit d: 0 to 9, then a to f
unfoldable pub hex_digit : ℕ → ℕ
hex_digit d = cond (ltb d 10) (48 + d) (87 + d)

abbrev pub hex_byte : ℕ → List ℕ
hex_byte b = hex_digit (b / 16) ∷ hex_digit (b % 16) ∷ []

unfoldable pub hex_bytes : List ℕ → List ℕ
hex_bytes [] = []
hex_bytes (b ∷ s) = hex_byte b ++ hex_bytes s

-- c is one of the characters 0 to 9 and a to f
unfoldable pub is_hex_digit : ℕ → Bool
is_hex_digit c = (leb 48 c && leb c 57) || (leb 97 c && leb c 102)

unfoldable pub all_hex_digits : List ℕ → Bool
all_hex_digits w = each is_hex_digit w

-- the digit of the character c
unfoldable pub hex_digit_value : ℕ → ℕ
hex_digit_value c = cond (ltb c 97) (c - 48) (c - 87)

unfoldable pub hex_value : List ℕ → ℕ
hex_value w = foldl (λ v c. v * 16 + hex_digit_value c) 0 w
