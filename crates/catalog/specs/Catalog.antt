-- What the bytes of a catalog say, and whether they are one (document 02, 2026-08: "30 index bytes that, hashes apart, no list and volumes
-- give, or that end early").
--
--   entry_count b, volume_count b, entry_start b, volume_start b     the four numbers that b begins with
--   catalog_length b         the length that they tell
--   rows_in n s              the first n rows of s
--   entry_rows b, volume_rows b     the rows of b
--   is_saved_row r, saved_rows rs    whether an entry row is that of a saved file, and those of rs that are
--   greatest_size rs         the greatest size of a saved file, by the entry rows rs
--   in_turn k n              whether n is a file number, where k saved files stand before: 0, or the next
--   entry_rows_allowed k rs   whether the entry rows rs may stand in a catalog, after those of k saved files
--   volume_rows_allowed n g v rs    whether the volume rows rs may, of n saved files of at most g bytes, after that of volume v
--   is_catalog b             whether b begins with a catalog
--   holds v rs              whether a row of volume v is among the volume rows rs
--   insert_row r rs, remove_row v rs     rs with the row r, and without that of volume v
-- Assumes nothing.
use Rattle.std.specs.Prelude.{Bool, true, false, cond, not, ◌&&◌, ◌||◌, ℕ, zero, suc, ◌+◌, ◌*◌, max, ltb, leb, eqb, length, take, drop}
use mathlib.Core.List.{List, [], ◌∷◌, map, foldr}
use Rattle.refusals.specs.Limits.{max_files, max_entries}
use Rattle.little_endian.specs.Bytes.{le_at}
use Rattle.entries.specs.Entry.{file_size_allowed}
use Rattle.entries.specs.Numbering.{keep}
use Rattle.par1_rules.specs.Rules.{number_allowed}
use Rattle.catalog.specs.Rows.{number_of, size_of}

-- ---- "four 32-bit numbers (entries, volumes, start of the entry rows, which is 16, start of the volume rows), then the rows"

abbrev pub entry_count : List ℕ → ℕ
entry_count b = le_at 4 b 0

abbrev pub volume_count : List ℕ → ℕ
volume_count b = le_at 4 b 4

abbrev pub entry_start : List ℕ → ℕ
entry_start b = le_at 4 b 8

abbrev pub volume_start : List ℕ → ℕ
volume_start b = le_at 4 b 12

abbrev pub catalog_length : List ℕ → ℕ
catalog_length b = 16 + 28 * (entry_count b + volume_count b)

unfoldable pub rows_in : ℕ → List ℕ → List (List ℕ)
rows_in zero s = []
rows_in (suc n) s = take 28 s ∷ rows_in n (drop 28 s)

abbrev pub entry_rows : List ℕ → List (List ℕ)
entry_rows b = rows_in (entry_count b) (drop 16 b)

abbrev pub volume_rows : List ℕ → List (List ℕ)
volume_rows b = rows_in (volume_count b) (drop (16 + 28 * entry_count b) b)

-- ---- "30 index bytes that, hashes apart, no list and volumes give": the hashes are not looked at

-- "file number (0 if not saved)"
abbrev pub is_saved_row : List ℕ → Bool
is_saved_row r = not (eqb (number_of r) 0)

abbrev pub saved_rows : List (List ℕ) → List (List ℕ)
saved_rows rs = keep (λ r. is_saved_row r) rs

-- 2026-02: "data size is the greatest size among saved entries"
abbrev pub greatest_size : List (List ℕ) → ℕ
greatest_size rs = foldr max 0 (map (λ r. size_of r) (saved_rows rs))

-- document 01: "Files are numbered 1 to n over the saved entries only, in list order"
abbrev pub in_turn : ℕ → ℕ → Bool
in_turn k n = eqb n 0 || eqb n (k + 1)

-- document 01: "Saved files n: at most 254", "A listed file: 0 to 16,777,216 bytes"
unfoldable pub entry_rows_allowed : ℕ → List (List ℕ) → Bool
entry_rows_allowed k [] = leb k max_files
entry_rows_allowed k (r ∷ rs) =
    in_turn k (number_of r) && file_size_allowed (size_of r) && entry_rows_allowed (cond (is_saved_row r) (k + 1) k) rs

-- "volume rows ascend by number"; document 01: "volume number 1 or more with n = 0 or number + n above 255" is refused, and the data size of a
-- volume is the greatest
unfoldable pub volume_rows_allowed : ℕ → ℕ → ℕ → List (List ℕ) → Bool
volume_rows_allowed n greatest v [] = true
volume_rows_allowed n greatest v (r ∷ rs) =
    ltb v (number_of r) && number_allowed (number_of r) n && eqb (size_of r) greatest && volume_rows_allowed n greatest (number_of r) rs

-- "or that end early"; "start of the entry rows, which is 16"; "At most 1,024 entries."
unfoldable pub is_catalog : List ℕ → Bool
is_catalog b =
    leb (catalog_length b) (length b) && leb (entry_count b) max_entries && eqb (entry_start b) 16 && eqb (volume_start b) (16 + 28 * entry_count b)
    && entry_rows_allowed 0 (entry_rows b)
    && volume_rows_allowed (length (saved_rows (entry_rows b))) (greatest_size (entry_rows b)) 0 (volume_rows b)

-- ---- "Adding or dropping a volume changes only its row, the count and what must move; volume rows ascend by number."

unfoldable pub holds : ℕ → List (List ℕ) → Bool
holds v [] = false
holds v (r ∷ rs) = eqb (number_of r) v || holds v rs

-- before the first row that has no lower number
unfoldable pub insert_row : List ℕ → List (List ℕ) → List (List ℕ)
insert_row r [] = r ∷ []
insert_row r (x ∷ rs) = cond (ltb (number_of x) (number_of r)) (x ∷ insert_row r rs) (r ∷ x ∷ rs)

abbrev pub remove_row : ℕ → List (List ℕ) → List (List ℕ)
remove_row v rs = keep (λ r. not (eqb (number_of r) v)) rs
