-- Where the numbers stand that C is handed of a file and of an entry, 64 bits each (include/par1.h: PAR1_PARTS_.., PAR1_ENTRY_..).
--
--   PartsFit p             the numbers of the parts p fit their types: 32 bits the program identifier, 64 the others
--   PartsAt p out          the parts p stand in out, from the program identifier at 0 to the number of the code at 56
--   EntryAt l st n out     the length, the status and the file size of an entry stand in out at 0, 8 and 16
--   PartsPlaced            so do those that a file which is read gives
--   EntryPlaced            so do those of an entry, and three zeros where the list is over
-- The contracts of put_reading and put_entry cite read_into and entry_into.
-- Assumes nothing.
use Rattle.std.specs.Prelude.{◌≡◌, List, ℕ, ◌^◌, ◌<◌, Some, None, Ok}
use Rattle.codes.specs.Codes.{code_number}
use Rattle.little_endian.specs.Bytes.{le_at}
use Rattle.par1_read.specs.declared.reading.Parts.{Parts}
use Rattle.refusals.specs.Tests.{bare}
use Rattle.answer_bytes.specs.Results.{read_into, entry_into}

pub record PartsFit (p : Parts) : Type 0 where
  pub program_fits : p.program < 2 ^ 32
  pub number_fits : p.number < 2 ^ 64
  pub entries_fit : p.entries < 2 ^ 64
  pub saved_fit : p.saved < 2 ^ 64
  pub list_size_fits : p.list_size < 2 ^ 64
  pub data_start_fits : p.data_start < 2 ^ 64
  pub data_size_fits : p.data_size < 2 ^ 64

-- "program identifier, volume number, counts (entries and saved), and where list and data lie"; document 02, 2026-13, of the code: "reading
-- returns it"
pub record PartsAt (p : Parts) (out : List ℕ) : Type 0 where
  pub program_at : le_at 8 out 0 ≡ p.program
  pub number_at : le_at 8 out 8 ≡ p.number
  pub entries_at : le_at 8 out 16 ≡ p.entries
  pub saved_at : le_at 8 out 24 ≡ p.saved
  pub list_size_at : le_at 8 out 32 ≡ p.list_size
  pub data_start_at : le_at 8 out 40 ≡ p.data_start
  pub data_size_at : le_at 8 out 48 ≡ p.data_size
  pub code_at : le_at 8 out 56 ≡ code_number p.code

-- proved: proofs/Places.antt, `parts_placed`
abbrev pub PartsPlaced : Type 0
PartsPlaced = (p : Parts) → PartsFit p → (out out' : List ℕ) → read_into (Ok p) out ≡ (bare 0, out') → PartsAt p out'

pub record EntryAt (l status size : ℕ) (out : List ℕ) : Type 0 where
  pub length_at : le_at 8 out 0 ≡ l
  pub status_at : le_at 8 out 8 ≡ status
  pub size_at : le_at 8 out 16 ≡ size

-- proved: proofs/Places.antt, `entry_placed`
pub record EntryPlaced : Type 0 where
  pub of_entry : (l status size : ℕ) → l < 2 ^ 64 → status < 2 ^ 64 → size < 2 ^ 64
      → (out out' : List ℕ) → entry_into (Ok (Some (record { length = l; status = status; size = size }))) out ≡ (0, out') → EntryAt l status size out'
  pub of_end : (out out' : List ℕ) → entry_into (Ok None) out ≡ (0, out') → EntryAt 0 0 0 out'
