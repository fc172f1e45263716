-- The padding of a message (RFC 1321, 3.1 and 3.2), on lists of bytes.
--
--   zeros n     how many zero bytes the padding of n bytes has
--   padding n   what is appended to a message of n bytes
--   padded m    the message m with its padding
-- Assumes nothing.
use Rattle.std.specs.Prelude.{ℕ, ◌-◌, ◌*◌, ◌%◌, List, ◌∷◌, ◌++◌, length, replicate}
use Rattle.little_endian.specs.Bytes.{to_le}

-- 3.1: "a single '1' bit is appended to the message, and then '0' bits are appended so that the length in bits of the padded
-- message becomes congruent to 448, modulo 512". In bytes: a byte 128, then zeros until the length is 56, modulo 64 (specs/Claim.antt,
-- `PaddingAligns`)
unfoldable pub zeros : ℕ → ℕ
zeros n = (119 - n % 64) % 64

-- 3.2: "A 64-bit representation of b (the length of the message before the padding bits were added) is appended", in bits, lowest byte
-- first; "only the low-order 64 bits of b are used"
unfoldable pub padding : ℕ → List ℕ
padding n = 128 ∷ replicate (zeros n) 0 ++ to_le 8 (8 * n)

unfoldable pub padded : List ℕ → List ℕ
padded m = m ++ padding (length m)
