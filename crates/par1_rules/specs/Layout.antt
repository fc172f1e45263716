-- The header and the areas of a Par 1.0 file (document 000, "Format specification for a .PAR/.Pxx file"; document 01, "Byte layout").
-- A file is the list of all its bytes.
--
--   signature          what a file begins with
--   version_for c       the version of a file of the code c
--   signature_of f, version_of f, program_of f, control_hash_of f, set_hash_of f, volume_number_of f, count_of f, list_start_of f, list_size_of f,
--   data_start_of f, data_size_of f     the fields of the header of f
--   hashed_of f         the bytes that the control hash covers
--   list_of f, data_of f   the list area and the data area of f
-- Assumes nothing.
use Rattle.std.specs.Prelude.{ℕ, ◌+◌, List, [], ◌∷◌, take, drop}
use Rattle.codes.specs.declared.Code.{Code}
use Rattle.codes.specs.declared.Code.TheVariants.{Powers, Cauchy}
use Rattle.little_endian.specs.Bytes.{from_le, le_at}

-- ""PAR" and five zero bytes", as a number: lowest byte first
unfoldable pub signature : ℕ
signature = from_le (80 ∷ 65 ∷ 82 ∷ 0 ∷ 0 ∷ 0 ∷ 0 ∷ 0 ∷ [])

-- "At 8: 32-bit version, 65,536."; document 02, 2026-13, of the other code: "The layout is that of 01 with version 131,328"
abbrev pub version_for : Code → ℕ
version_for Powers = 65536
version_for Cauchy = 131328

-- ---- "At 0: "PAR" and five zero bytes. At 8: 32-bit version, 65,536. At 12: 32-bit program identifier, any. At 16: control hash,
-- ---- the MD5 of all bytes from 32 to the end. At 32: set hash."

abbrev pub signature_of : List ℕ → ℕ
signature_of f = le_at 8 f 0

abbrev pub version_of : List ℕ → ℕ
version_of f = le_at 4 f 8

abbrev pub program_of : List ℕ → ℕ
program_of f = le_at 4 f 12

abbrev pub control_hash_of : List ℕ → List ℕ
control_hash_of f = take 16 (drop 16 f)

abbrev pub hashed_of : List ℕ → List ℕ
hashed_of f = drop 32 f

abbrev pub set_hash_of : List ℕ → List ℕ
set_hash_of f = take 16 (drop 32 f)

-- ---- "Then six 64-bit numbers: at 48 volume number (0 for the index), at 56 number of entries, at 64 list start, at 72 list size,
-- ---- at 80 data start, at 88 data size."

abbrev pub volume_number_of : List ℕ → ℕ
volume_number_of f = le_at 8 f 48

abbrev pub count_of : List ℕ → ℕ
count_of f = le_at 8 f 56

abbrev pub list_start_of : List ℕ → ℕ
list_start_of f = le_at 8 f 64

abbrev pub list_size_of : List ℕ → ℕ
list_size_of f = le_at 8 f 72

abbrev pub data_start_of : List ℕ → ℕ
data_start_of f = le_at 8 f 80

abbrev pub data_size_of : List ℕ → ℕ
data_size_of f = le_at 8 f 88

-- ---- "List start is 96, data start is 96 plus list size, and the data runs to the end of the file."

abbrev pub list_of : List ℕ → List ℕ
list_of f = take (list_size_of f) (drop 96 f)

abbrev pub data_of : List ℕ → List ℕ
data_of f = drop (96 + list_size_of f) f
