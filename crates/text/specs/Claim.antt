-- What is promised of numbers as text.
--
--   DecimalSpells   a number's decimal digits spell it, with no leading zero
--   DecimalOnly     no other digits do both
--   HexSpells       the two hexadecimal digits of a byte spell it
-- Assumes nothing.
use Rattle.std.specs.Prelude.{◌≡◌, true, List, ℕ, ◌<◌}
use Rattle.text.specs.Decimal.{decimal, value_of, is_decimal}
use Rattle.text.specs.Hex.{hex_byte, hex_value}

-- proved: proofs/DecimalLaws.antt, `decimal_spells`
abbrev pub DecimalSpells : Type 0
DecimalSpells = (n : ℕ) → (value_of (decimal n) ≡ n) × (is_decimal (decimal n) ≡ true)

-- proved: proofs/DecimalLaws.antt, `decimal_only`
abbrev pub DecimalOnly : Type 0
DecimalOnly = (w : List ℕ) → is_decimal w ≡ true → decimal (value_of w) ≡ w

-- proved: proofs/HexLaws.antt, `hex_spells`
abbrev pub HexSpells : Type 0
HexSpells = (b : ℕ) → b < 256 → hex_value (hex_byte b) ≡ b
