-- Which fields of two headers and of two lists differ (document 02, 2026-06; where a field lies: document 01, "Byte layout").
--
--   Row A, row          a row of a table: a field, and how its bytes are taken out of the whole
--   bytes_at i n f       n bytes of f from byte i on
--   bytes_from i f       the bytes of f from byte i on
--   head_table           the fields of the header, in layout order
--   entry_table          the fields of an entry, in layout order
--   differing t f g     the fields of the table t whose bytes differ in f and g
--   head_lines f g       the lines on the headers of the files f and g
--   all_lines k es       the lines on the entries es, from place k on, which one side lacks
--   entry_lines k es ds  the lines on the entries es and ds of the two sides, from place k on
-- Assumes nothing.
use Rattle.std.specs.Prelude.{ℕ, suc, cond, List, [], ◌∷◌, ◌++◌, map, take, drop}
use Rattle.lent_bytes.specs.Equal.{equal}
use Rattle.comparing.specs.Lines.{HeadField, version_field, program_field, control_field, set-field, number_field}
use Rattle.comparing.specs.Lines.{files_field, list_field, start-field, data_field}
use Rattle.comparing.specs.Lines.{EntryField, length-field, status_field, size_field, md5-field, md5_16k_field, name_field}
use Rattle.comparing.specs.Lines.{Line, head, entry, all}

pub record Row (A : Type 0) : Type 0 where
  pub field : A
  pub bytes : List ℕ → List ℕ

abbrev pub row : {A : Type 0} → A → (List ℕ → List ℕ) → Row A
row field bytes = record { field = field; bytes = bytes }

abbrev pub bytes_at : ℕ → ℕ → List ℕ → List ℕ
bytes_at i n f = take n (drop i f)

abbrev pub bytes_from : ℕ → List ℕ → List ℕ
bytes_from i f = drop i f

-- "in layout order": version, program, control hash, set hash, volume number, number of entries, list size, data start, data size. The
-- signature and the list start are the same in all files that are read.
abbrev pub head_table : List (Row HeadField)
head_table =
    row version_field (bytes_at 8 4)
    ∷ row program_field (bytes_at 12 4)
    ∷ row control_field (bytes_at 16 16)
    ∷ row set-field (bytes_at 32 16)
    ∷ row number_field (bytes_at 48 8)
    ∷ row files_field (bytes_at 56 8)
    ∷ row list_field (bytes_at 72 8)
    ∷ row start-field (bytes_at 80 8)
    ∷ row data_field (bytes_at 88 8)
    ∷ []

-- entry size, status, file size, MD5, MD5 of the first 16,384 bytes, name
abbrev pub entry_table : List (Row EntryField)
entry_table =
    row length-field (bytes_at 0 8)
    ∷ row status_field (bytes_at 8 8)
    ∷ row size_field (bytes_at 16 8)
    ∷ row md5-field (bytes_at 24 16)
    ∷ row md5_16k_field (bytes_at 40 16)
    ∷ row name_field (bytes_from 56)
    ∷ []

-- "Nothing differing is left out and nothing equal is listed"
unfoldable pub differing : {A : Type 0} → List (Row A) → List ℕ → List ℕ → List A
differing [] f g = []
differing (r ∷ t) f g = cond (equal (r.bytes f) (r.bytes g)) (differing t f g) (r.field ∷ differing t f g)

-- "`head NAME`"
unfoldable pub head_lines : List ℕ → List ℕ → List Line
head_lines f g = map head (differing head_table f g)

-- "only `all` if one side lacks it"
unfoldable pub all_lines : ℕ → List (List ℕ) → List Line
all_lines k [] = []
all_lines k (e ∷ es) = all k ∷ all_lines (suc k) es

-- "`entry P NAME`"
unfoldable pub entry_lines : ℕ → List (List ℕ) → List (List ℕ) → List Line
entry_lines k [] ds = all_lines k ds
entry_lines k (e ∷ es) [] = all_lines k (e ∷ es)
entry_lines k (e ∷ es) (d ∷ ds) = map (entry k) (differing entry_table e d) ++ entry_lines (suc k) es ds
