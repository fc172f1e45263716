-- The entry of a file in a Par 1.0 list (document 000, "A file entry has the following format"; document 01, "Byte layout").
-- An entry is the list of all its bytes.
--
--   entry_size s         the entry size that s begins with
--   status_of e, file_size_of e, md5_of e, md5_of_16k e, name_of e     the fields of the entry e; the name in bytes
--   units_of n           the 16-bit units of the bytes n
--   is_saved st, is_counted st   whether an entry with the status st is saved in the parity, and whether it counts for the data size
--   saved_count st       how many saved entries an entry with the status st is: 1, or 0
--   unit_allowed u, is_dot u     whether a unit may stand in a name, and whether it is a dot
--   units_allowed us, only_dots us    whether each of the units us may stand in a name, and whether each is a dot
--   is_dots us           whether the units us are "." or ".."
--   name_allowed n       whether the bytes n are a name
--   entry_size_allowed n m     whether an entry of n bytes may stand at the front of m bytes
--   file_size_allowed n   whether a listed file may have n bytes
--   body_allowed e       whether what the entry e says, but for its size, keeps the rules
--   entry_allowed s      whether s begins with an entry that keeps every rule
--   length_of s          the length of the entry that s begins with, 0 where there is none that keeps every rule
-- Assumes nothing.
use Rattle.std.specs.Prelude.{ℕ, ◌%◌, Bool, cond, not, ◌&&◌, ◌||◌, List, [], ◌∷◌, leb, eqb, length, take, drop}
use Rattle.refusals.specs.Limits.{max_file_size}
use Rattle.lent_bytes.specs.Each.{each}
use Rattle.lent_bytes.specs.Equal.{equal}
use Rattle.little_endian.specs.Bytes.{le_at}

-- ---- the fields: "64-bit entry size (itself included), 64-bit status, 64-bit file size, MD5 of the whole file, MD5 of its first
-- ---- 16,384 bytes (of all of it when shorter), then the name in 16-bit units"

abbrev pub entry_size : List ℕ → ℕ
entry_size s = le_at 8 s 0

abbrev pub status_of : List ℕ → ℕ
status_of e = le_at 8 e 8

abbrev pub file_size_of : List ℕ → ℕ
file_size_of e = le_at 8 e 16

abbrev pub md5_of : List ℕ → List ℕ
md5_of e = take 16 (drop 24 e)

abbrev pub md5_of_16k : List ℕ → List ℕ
md5_of_16k e = take 16 (drop 40 e)

abbrev pub name_of : List ℕ → List ℕ
name_of e = drop 56 e

unfoldable pub units_of : List ℕ → List ℕ
units_of [] = []
units_of (a ∷ []) = []
units_of (a ∷ b ∷ s) = le_at 2 (a ∷ b ∷ s) 0 ∷ units_of s

-- "Bit 0 of the status: saved in the parity"
abbrev pub is_saved : ℕ → Bool
is_saved status = eqb (status % 2) 1

abbrev pub saved_count : ℕ → ℕ
saved_count status = cond (is_saved status) 1 0

-- document 02, 2026-02: "As document 000 has it, data size is the greatest size among saved entries."
unfoldable pub is_counted : ℕ → Bool
is_counted status = is_saved status

-- ---- the rules

-- "no unit is 47 ("/") or 92 ("\\"), for 000 allows no paths"; document 02, 2026-14: "Units 0 and 58 (":") are now not allowed anywhere"
unfoldable pub unit_allowed : ℕ → Bool
unit_allowed u = not (eqb u 0) && not (eqb u 47) && not (eqb u 58) && not (eqb u 92)

abbrev pub is_dot : ℕ → Bool
is_dot u = eqb u 46

abbrev pub units_allowed : List ℕ → Bool
units_allowed us = each unit_allowed us

abbrev pub only_dots : List ℕ → Bool
only_dots us = each is_dot us

-- document 02, 2026-14: "nor the whole names "." and "..""
unfoldable pub is_dots : List ℕ → Bool
is_dots us = equal us (46 ∷ []) || equal us (46 ∷ 46 ∷ [])

-- "a name has one unit or more", and whole units
unfoldable pub name_allowed : List ℕ → Bool
name_allowed name =
    leb 2 (length name) && eqb (length name % 2) 0 && (units_allowed (units_of name) && not (is_dots (units_of name)))

-- "A listed file: 0 to 16,777,216 bytes"
abbrev pub file_size_allowed : ℕ → Bool
file_size_allowed n = leb n max_file_size

-- "An entry size is even and at least 58, so a name has one unit or more", and the entry lies within the list
unfoldable pub entry_size_allowed : ℕ → ℕ → Bool
entry_size_allowed n m = eqb (n % 2) 0 && leb 58 n && leb n m

-- the rules on what an entry says
unfoldable pub body_allowed : List ℕ → Bool
body_allowed e = file_size_allowed (file_size_of e) && name_allowed (name_of e)

unfoldable pub entry_allowed : List ℕ → Bool
entry_allowed s = entry_size_allowed (entry_size s) (length s) && body_allowed (take (entry_size s) s)

unfoldable pub length_of : List ℕ → ℕ
length_of s = cond (entry_allowed s) (entry_size s) 0
