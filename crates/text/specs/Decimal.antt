-- Numbers in decimal.
--
--   digit d        the character of the digit d
--   digits_by b n front, decimal_in k n     the digits of n, where b says whether it is one digit; at most k of them
--   decimal n      the digits of n, the greatest place first, with no leading zero; 0 is "0"
--   field s n      the bytes s, then the digits of n
--   with_digit v c  the number v with one digit more
--   value_of w      the number that the digits w spell
--   is_digit c, all_digits w     whether a character is a decimal digit, whether all of them are
--   is_decimal w    whether w is one or more decimal digits, with no leading zero but in "0" itself
-- Assumes nothing.
use Rattle.std.specs.Prelude.{Bool, true, false, not, ◌&&◌, ℕ, zero, suc, ◌+◌, ◌-◌, ◌*◌, ◌/◌, ◌%◌, leb, ltb, eqb}
use mathlib.Core.List.{List, [], ◌∷◌, ◌++◌, foldl}
use Rattle.lent_bytes.specs.Each.{each}

-- ---- the digits of a number

abbrev pub digit : ℕ → ℕ
digit d = 48 + d

-- below 10 the digit n; else the digits of n / 10, which `front` gives, and the last digit
abbrev pub digits_by : Bool → ℕ → (ℕ → List ℕ) → List ℕ
digits_by true n front = digit n ∷ []
digits_by false n front = front (n / 10) ++ (digit (n % 10) ∷ [])

-- at most k digits
unfoldable pub decimal_in : ℕ → ℕ → List ℕ
decimal_in zero n = []
decimal_in (suc k) n = digits_by (ltb n 10) n (λ m. decimal_in k m)

-- n has no more than n + 1 digits
unfoldable pub decimal : ℕ → List ℕ
decimal n = decimal_in (suc n) n

-- the bytes s, then the number n
abbrev pub field : List ℕ → ℕ → List ℕ
field s n = s ++ decimal n

-- ---- what digits spell

-- v, and after its digits the digit c
abbrev pub with_digit : ℕ → ℕ → ℕ
with_digit v c = v * 10 + (c - 48)

unfoldable pub value_of : List ℕ → ℕ
value_of w = foldl with_digit 0 w

-- c is one of the characters 0 to 9
abbrev pub is_digit : ℕ → Bool
is_digit c = leb 48 c && leb c 57

unfoldable pub all_digits : List ℕ → Bool
all_digits w = each is_digit w

-- one digit, or more of which the first is not 0
unfoldable pub is_decimal : List ℕ → Bool
is_decimal [] = false
is_decimal (c ∷ []) = is_digit c
is_decimal (c ∷ d ∷ w) = not (eqb c 48) && all_digits (c ∷ d ∷ w)
