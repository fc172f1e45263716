-- The lines of a comparison (document 02, 2026-06: "writes each difference as a line ended by byte 10").
--
--   HeadField, head_name h     a field of the header, and its name in a line
--   EntryField, entry_name e   a field of an entry, and its name in a line
--   Line                a line
--   head_text n, entry_text p n     the text of a line on a field of the header, and of one on entry p, with the name n
--   run_text a b, refused_text s n  the text of a line on a run of data bytes, and on a refused file
--   line_text l          the text of the line l
--   text_of ls           the text of the lines ls
-- Assumes nothing.
use Rattle.std.specs.Prelude.{ℕ}
use mathlib.Core.List.{List, [], ◌∷◌, map, flatten}
use Rattle.text.specs.Ascii.{ascii}
use Rattle.text.specs.Decimal.{field}

-- "`head NAME` (version, program, control, set, number, files, list, start, data)"
pub data HeadField : Type 0 where
  version_field : HeadField
  program_field : HeadField
  control_field : HeadField
  set-field : HeadField
  number_field : HeadField
  files_field : HeadField
  list_field : HeadField
  start-field : HeadField
  data_field : HeadField

abbrev pub head_name : HeadField → List ℕ
head_name version_field = ascii "version"
head_name program_field = ascii "program"
head_name control_field = ascii "control"
head_name set-field = ascii "set"
head_name number_field = ascii "number"
head_name files_field = ascii "files"
head_name list_field = ascii "list"
head_name start-field = ascii "start"
head_name data_field = ascii "data"

-- "`entry P NAME` (length, status, size, md5, 16k, name; only `all` if one side lacks it)"
pub data EntryField : Type 0 where
  length-field : EntryField
  status_field : EntryField
  size_field : EntryField
  md5-field : EntryField
  md5_16k_field : EntryField
  name_field : EntryField

abbrev pub entry_name : EntryField → List ℕ
entry_name length-field = ascii "length"
entry_name status_field = ascii "status"
entry_name size_field = ascii "size"
entry_name md5-field = ascii "md5"
entry_name md5_16k_field = ascii "16k"
entry_name name_field = ascii "name"

-- "`data A B` for runs of data bytes, first and last place"; "Each refused file gives a line `refused S N`"
pub data Line : Type 0 where
  head : HeadField → Line
  entry : ℕ → EntryField → Line
  all : ℕ → Line
  run : ℕ → ℕ → Line
  refused : ℕ → ℕ → Line

unfoldable pub head_text : List ℕ → List ℕ
head_text name = flatten (ascii "head " ∷ name ∷ (10 ∷ []) ∷ [])

unfoldable pub entry_text : ℕ → List ℕ → List ℕ
entry_text p name = flatten (field (ascii "entry ") p ∷ ascii " " ∷ name ∷ (10 ∷ []) ∷ [])

unfoldable pub run_text : ℕ → ℕ → List ℕ
run_text a b = flatten (field (ascii "data ") a ∷ field (ascii " ") b ∷ (10 ∷ []) ∷ [])

unfoldable pub refused_text : ℕ → ℕ → List ℕ
refused_text side number = flatten (field (ascii "refused ") side ∷ field (ascii " ") number ∷ (10 ∷ []) ∷ [])

abbrev pub line_text : Line → List ℕ
line_text (head h) = head_text (head_name h)
line_text (entry p e) = entry_text p (entry_name e)
line_text (all p) = entry_text p (ascii "all")
line_text (run a b) = run_text a b
line_text (refused side number) = refused_text side number

abbrev pub text_of : List Line → List ℕ
text_of ls = flatten (map line_text ls)
