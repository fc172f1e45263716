-- What hexadecimal digits are.
--
--   hex_spells     the two digits of a byte spell the byte
--   hex_none, hex_more     the digits of the bytes from a position on: none at the end, else those of the byte there and those of the others
--   hex_length     two digits for each byte
--   hex_lower      they are digits in lower case
--   hex_spelled    and spell the bytes
-- Assumes nothing.
use mathlib.Core.Path.{◌≡◌, refl, ap, ◌∙◌}
use mathlib.Core.Bool.{Bool, true, false}
use mathlib.Core.List.{List, [], ◌∷◌, ◌++◌}
use Prim.Native.Nat.{ℕ, zero, suc, ◌+◌, ◌*◌, ◌/◌, ◌%◌, ◌≤◌, ◌<◌}
use native.Mathlib.Numerals.{add-one}
use native.Mathlib.Omega.{arith}
use borrow.Author.Tests.{ltb-true, ltb-false, lt-ltb, le-ltb, le-leb, lt-leb}
use lib.Dec.{ltb}
use lib.ListN.{length, take, drop, get_or, drop_of_length-le}
use lib.Seq.{drop-cons}
use Rattle.little_endian.specs.Bytes.{Bytes}
use Rattle.text.specs.Hex.{hex_digit, hex_byte, hex_bytes, is_hex_digit, all_hex_digits, hex_digit_value, hex_value}
use Rattle.text.specs.Claim.{HexSpells}

digit_value : (d : ℕ) → d < 16 → hex_digit_value (hex_digit d) ≡ d
unfolding hex_digit hex_digit_value
digit_value d h = by (ltb d 10) refl
  where
    by : (b : Bool) → ltb d 10 ≡ b → hex_digit_value (hex_digit d) ≡ d
    by true e = let g = ltb-true d 10 e in simp (e, lt-ltb (48 + d) 97 (omega arith)) (omega arith)
    by false e = let g = ltb-false d 10 e in simp (e, le-ltb (87 + d) 97 (omega arith)) (omega arith)

pub hex_spells : HexSpells
unfolding hex_value
hex_spells b h = simp (digit_value (b / 16) (omega arith), digit_value (b % 16) (omega arith)) (omega arith)

-- ---- the digits of bytes

pub hex_more : (s : List ℕ) (i : ℕ) → i < length s → hex_bytes (drop i s) ≡ hex_byte (get_or s i 0) ++ hex_bytes (drop (i + 1) s)
unfolding hex_bytes
hex_more s i h = simp (drop-cons s i 0 h, add-one)

pub hex_none : (s : List ℕ) (i : ℕ) → length s ≤ i → hex_bytes (drop i s) ≡ []
unfolding hex_bytes
hex_none s i h = ap hex_bytes (drop_of_length-le s h)

pub hex_length : (s : List ℕ) → length (hex_bytes s) ≡ 2 * length s
unfolding hex_bytes
hex_length [] = refl
hex_length (b ∷ s) = omega (arith, hex_length s)

lower_digit : (d : ℕ) → d < 16 → is_hex_digit (hex_digit d) ≡ true
unfolding hex_digit is_hex_digit
lower_digit d h = by (ltb d 10) refl
  where
    by : (b : Bool) → ltb d 10 ≡ b → is_hex_digit (hex_digit d) ≡ true
    by true e = let g = ltb-true d 10 e in simp (e, le-leb 48 (48 + d) (omega arith), le-leb (48 + d) 57 (omega arith))
    by false e = let g = ltb-false d 10 e in
        simp (e, lt-leb (87 + d) 57 (omega arith), le-leb 48 (87 + d) (omega arith), le-leb 97 (87 + d) (omega arith), le-leb (87 + d) 102 (omega arith))

pub hex_lower : (s : List ℕ) → Bytes s → all_hex_digits (hex_bytes s) ≡ true
unfolding hex_bytes all_hex_digits
hex_lower [] h = refl
hex_lower (b ∷ s) h = let small : b < 256 = h 0 in
    simp (lower_digit (b / 16) (omega arith), lower_digit (b % 16) (omega arith), hex_lower s (λ i. h (suc i)))

-- ---- what the digits of bytes spell

pub hex_spelled : (s : List ℕ) → Bytes s → (k : ℕ) → k < length s → hex_value (take 2 (drop (k + k) (hex_bytes s))) ≡ get_or s k 0
unfolding hex_bytes
hex_spelled [] h k l = absurd (omega arith)
hex_spelled (b ∷ s) h zero l = hex_spells b (h 0)
hex_spelled (b ∷ s) h (suc k) l = let twice : suc k + suc k ≡ suc (suc (k + k)) = omega arith in
    ap (λ (n : ℕ). hex_value (take 2 (drop n (hex_bytes (b ∷ s))))) twice ∙ hex_spelled s (λ i. h (suc i)) k (omega arith)
