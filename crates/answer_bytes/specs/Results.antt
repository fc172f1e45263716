-- What calls that answer a byte, the parts of a file or the first entry of a list give, as C sees them.
--
--   byte_into r out       the number of the answer r, or 14, and what `out` then holds: the byte over its first
--   parts_bytes p         the parts of an accepted file: eight numbers
--   read_into r out       the refusal that the reading r is, or 14, and what `out` then holds: the parts over its first bytes
--   entry_numbers l st n    an entry's length, status and file size: three numbers
--   entry_into i out      the number of a fault, or 14, and what `out` then holds: the numbers of the entry over its first bytes
-- Assumes nothing.
use Rattle.std.specs.Prelude.{List, [], ◌∷◌, ℕ, Some, None, Ok, Err}
use Rattle.codes.specs.Codes.{code_number}
use Rattle.refusals.specs.Tests.{bare}
use Rattle.refusals.specs.declared.Refusal.{Refusal}
use Rattle.lent_bytes.specs.Writing.{refused, written, with_refusal, with_number}
use Rattle.entries.specs.Walk.{Item, fault_number}
use Rattle.gf256.specs.Answer.{ByteAnswer}
use Rattle.little_endian.specs.Bytes.{numbers}
use Rattle.par1_read.specs.declared.reading.Parts.{Parts}
use Rattle.par1_read.specs.Reading.{Reading}

unfoldable pub byte_into : ByteAnswer → List ℕ → ℕ × List ℕ
byte_into (Err n) out = with_number (refused (bare n) out)
byte_into (Ok b) out = with_number (written (b ∷ []) out)

-- program identifier, volume number, entries, saved entries, list size, data start, data size, code
unfoldable pub parts_bytes : Parts → List ℕ
parts_bytes p =
    numbers
    (p.program
    ∷ p.number
    ∷ p.entries
    ∷ p.saved
    ∷ p.list_size
    ∷ p.data_start
    ∷ p.data_size
    ∷ code_number p.code
    ∷ [])

unfoldable pub read_into : Reading → List ℕ → Refusal × List ℕ
read_into (Err r) out = with_refusal (refused r out)
read_into (Ok p) out = with_refusal (written (parts_bytes p) out)

unfoldable pub entry_numbers : ℕ → ℕ → ℕ → List ℕ
entry_numbers l status size = numbers (l ∷ status ∷ size ∷ [])

-- an entry has 58 bytes or more, so three zeros say that the list is over
unfoldable pub entry_into : Item → List ℕ → ℕ × List ℕ
entry_into (Ok (Some e)) out = with_number (written (entry_numbers e.length e.status e.size) out)
entry_into (Ok None) out = with_number (written (entry_numbers 0 0 0) out)
entry_into (Err f) out = with_number (refused (bare (fault_number f)) out)
