-- The rows of a catalog, and its bytes (document 02, 2026-08: "A haul index"). A row is the list of its 28 bytes.
--
--   row n m h         the row with the number n, the size m and the hash h
--   number_of r, size_of r, hash_of r     the fields of the row r
--   file_number_after k st    the file number of an entry with the status st, where k saved ones stand before it; 0 where it is not saved
--   entry_row n e      the row of the entry e, whose file number is n
--   rows_after k es    the rows of the entries es, where k saved ones stand before them
--   rows_for es        the rows of the entries es of a list
--   volume_row vol     the row of the volume vol
--   catalog_head n v   the four numbers of a catalog with n entry rows and v volume rows
--   catalog_bytes es vs    the catalog with the entry rows es and the volume rows vs
-- Assumes nothing.
use Rattle.std.specs.Prelude.{cond, ℕ, ◌+◌, ◌*◌, length, take, drop}
use mathlib.Core.List.{List, [], ◌∷◌, ◌++◌, flatten}
use Rattle.little_endian.specs.Bytes.{to_le, le_at}
use Rattle.entries.specs.Entry.{status_of, file_size_of, md5_of, is_saved, saved_count}
use Rattle.par1_rules.specs.Layout.{volume_number_of, data_size_of, control_hash_of}

-- "An entry row has file number (0 if not saved) as 4 bytes, size as 8, MD5 as 16; a volume row has number as 4 bytes, data size as 8, control
-- hash as 16.", "all little-endian"
unfoldable pub row : ℕ → ℕ → List ℕ → List ℕ
row number size hash = flatten (to_le 4 number ∷ to_le 8 size ∷ hash ∷ [])

abbrev pub number_of : List ℕ → ℕ
number_of r = le_at 4 r 0

abbrev pub size_of : List ℕ → ℕ
size_of r = le_at 8 r 4

abbrev pub hash_of : List ℕ → List ℕ
hash_of r = take 16 (drop 12 r)

-- "file number (0 if not saved)"; document 01: "Files are numbered 1 to n over the saved entries only, in list order"
abbrev pub file_number_after : ℕ → ℕ → ℕ
file_number_after k status = cond (is_saved status) (k + 1) 0

abbrev pub entry_row : ℕ → List ℕ → List ℕ
entry_row number e = row number (file_size_of e) (md5_of e)

unfoldable pub rows_after : ℕ → List (List ℕ) → List (List ℕ)
rows_after k [] = []
rows_after k (e ∷ es) = entry_row (file_number_after k (status_of e)) e ∷ rows_after (k + saved_count (status_of e)) es

abbrev pub rows_for : List (List ℕ) → List (List ℕ)
rows_for es = rows_after 0 es

abbrev pub volume_row : List ℕ → List ℕ
volume_row vol = row (volume_number_of vol) (data_size_of vol) (control_hash_of vol)

-- "four 32-bit numbers (entries, volumes, start of the entry rows, which is 16, start of the volume rows)"
unfoldable pub catalog_head : ℕ → ℕ → List ℕ
catalog_head entries volumes = flatten (to_le 4 entries ∷ to_le 4 volumes ∷ to_le 4 16 ∷ to_le 4 (16 + 28 * entries) ∷ [])

-- "then the rows"
unfoldable pub catalog_bytes : List (List ℕ) → List (List ℕ) → List ℕ
catalog_bytes es vs = catalog_head (length es) (length vs) ++ (flatten es ++ flatten vs)
