-- What the calls on a catalog give (document 02, 2026-08: "Refusals, after those of reading, in this order: 30 ..; 10 ..; 25 ..; 26 ..; 11 ..; 14").
-- A catalog stands in the first bytes of its room.
--
--   open_refusal f r      the refusal of an opening from the file f, which reads as r, before 14; its number is 0 where there is none
--   open_of f out         what opening gives
--   volume_in_range v b    whether v may be the number of a volume of the catalog b
--   add_number b vol      the number of the refusal of adding the volume vol, which is read, to b, before 14; 0 where there is none
--   add_refusal b vol r   that with those of reading, which gives r
--   added_bytes b vol     the catalog b with the volume
--   add_of b vol          what adding gives
--   drop_number b v       the number of the refusal of dropping volume v from b; 0 where there is none
--   dropped_bytes b v     the catalog b without the volume
--   drop_of b v           what dropping gives
--   record_of r           the record of the entry row r
--   row_at b i            the record of row i of b, from 0; zeros where b ends before it
--   loading_of b n        what loading into n records answers
--   filled_by w b rows    the records after loading, which answers w
--   load_of b rows        what loading gives
-- Assumes nothing.
use Rattle.std.specs.Prelude.{Bool, cond, not, ℕ, ◌+◌, ◌-◌, ◌*◌, leb, length, take, drop, replicate, Ok, Err}
use mathlib.Core.List.{List, [], ◌++◌, map, flatten}
use Rattle.computed_tests.specs.Numbers.{one_to}
use Rattle.refusals.specs.Limits.{max_entries}
use Rattle.refusals.specs.Tests.{bare, test}
use Rattle.refusals.specs.declared.Refusal.{Refusal}
use Rattle.lent_bytes.specs.Equal.{equal}
use Rattle.lent_bytes.specs.Writing.{written_unless}
use Rattle.lent_bytes.specs.Writing.{Writing}
use Rattle.par1_read.specs.Reading.{entries_in, read_of}
use Rattle.par1_read.specs.Reading.{Reading}
use Rattle.par1_rules.specs.Layout.{volume_number_of}
use Rattle.catalog.specs.Rows.{number_of, size_of, hash_of, rows_for, volume_row, catalog_bytes}
use Rattle.catalog.specs.Catalog.{entry_count, entry_rows, volume_rows, saved_rows, is_catalog, holds, insert_row, remove_row}
use Rattle.catalog.specs.declared.records.Row.{Row}

-- ---- "It is opened from one accepted file's list, with no volumes."

-- "26 more entries"
abbrev pub open_refusal : List ℕ → Reading → Refusal
open_refusal f (Ok p) = bare (test 26 (leb (length (entries_in f)) max_entries) 0)
open_refusal f (Err r) = r

unfoldable pub open_of : List ℕ → List ℕ → Writing × List ℕ
open_of f out = written_unless (open_refusal f (read_of f)) (catalog_bytes (rows_for (entries_in f)) []) out

-- ---- adding

-- "10 volume number 0 or above 255 - n"
abbrev pub volume_in_range : ℕ → List ℕ → Bool
volume_in_range v b = one_to (255 - length (saved_rows (entry_rows b))) v

-- "30 ..; 10 ..; 25 the volume's list gives other entry rows; 26 more entries; 11 for a number added twice"
unfoldable pub add_number : List ℕ → List ℕ → ℕ
add_number b vol =
    test 30 (is_catalog b)
    (test 10 (volume_in_range (volume_number_of vol) b)
    (test 25 (equal (flatten (rows_for (entries_in vol))) (flatten (entry_rows b)))
    (test 26 (leb (length (entries_in vol)) max_entries)
    (test 11 (not (holds (volume_number_of vol) (volume_rows b))) 0))))

-- "Refusals, after those of reading"
abbrev pub add_refusal : List ℕ → List ℕ → Reading → Refusal
add_refusal b vol (Ok p) = bare (add_number b vol)
add_refusal b vol (Err r) = r

abbrev pub added_bytes : List ℕ → List ℕ → List ℕ
added_bytes b vol = catalog_bytes (entry_rows b) (insert_row (volume_row vol) (volume_rows b))

-- "Room past the resulting index .. stay[s]"
unfoldable pub add_of : List ℕ → List ℕ → Writing × List ℕ
add_of b vol = written_unless (add_refusal b vol (read_of vol)) (added_bytes b vol) b

-- ---- dropping

-- "30 ..; 10 ..; 11 for a number .. dropped when absent"
unfoldable pub drop_number : List ℕ → ℕ → ℕ
drop_number b v = test 30 (is_catalog b) (test 10 (volume_in_range v b) (test 11 (holds v (volume_rows b)) 0))

abbrev pub dropped_bytes : List ℕ → ℕ → List ℕ
dropped_bytes b v = catalog_bytes (entry_rows b) (remove_row v (volume_rows b))

-- the bytes of the last row stay where they were
unfoldable pub drop_of : List ℕ → ℕ → Writing × List ℕ
drop_of b v = written_unless (bare (drop_number b v)) (dropped_bytes b v) b

-- ---- "To load it, the caller lends one row record for each listed entry, filled in order."

abbrev pub record_of : List ℕ → Row
record_of r = record { file = number_of r; size = size_of r; md5 = hash_of r }

unfoldable pub row_at : List ℕ → ℕ → Row
row_at b i =
    cond (leb (16 + 28 * (i + 1)) (length b)) (record_of (take 28 (drop (16 + 28 * i) b))) (record { file = 0; size = 0; md5 = replicate 16 0 })

unfoldable pub loading_of : List ℕ → ℕ → Writing
loading_of b n = cond (is_catalog b) (cond (leb (entry_count b) n) (Ok (entry_count b)) (Err (bare 14))) (Err (bare 30))

-- "records past the entries, stay"
abbrev pub filled_by : Writing → List ℕ → List Row → List Row
filled_by (Ok n) b rows = map (λ r. record_of r) (entry_rows b) ++ drop n rows
filled_by (Err r) b rows = rows

abbrev pub load_of : List ℕ → List Row → Writing × List Row
load_of b rows = let w : Writing = loading_of b (length rows) in (w, filled_by w b rows)
