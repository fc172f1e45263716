-- What an export gives (document 02, 2026-07: "Export each listed file, in list order, as a line"; "Refusals, after those of reading: ..; 24, in an
-- export, a name that does not fit. ..; 14 last").
--
--   line_for e            the line of the entry e
--   export_text es        the lines of the entries es
--   all_fitting es        whether the names of the entries es fit
--   export_refusal r f    the refusal of an export of the file f, which reads as r, before 14; its number is 0 where there is none
--   export_into f out     what the call gives
-- Assumes nothing.
use Rattle.std.specs.Prelude.{ℕ, Bool, Ok, Err}
use mathlib.Core.List.{List, [], ◌∷◌, ◌++◌, flatten}
use Rattle.refusals.specs.Tests.{bare, test}
use Rattle.refusals.specs.declared.Refusal.{Refusal}
use Rattle.lent_bytes.specs.Each.{each}
use Rattle.lent_bytes.specs.Writing.{written_unless}
use Rattle.lent_bytes.specs.Writing.{Writing}
use Rattle.par1_read.specs.Reading.{entries_in, read_of}
use Rattle.par1_read.specs.Reading.{Reading}
use Rattle.text.specs.Ascii.{ascii}
use Rattle.md5sum_text.specs.Names.{text_of, is_fitting, sum_of}

-- "32 lower-case hex digits, two spaces, name, byte 10"
unfoldable pub line_for : List ℕ → List ℕ
line_for e = flatten (sum_of e ∷ ascii "  " ∷ text_of e ∷ (10 ∷ []) ∷ [])

unfoldable pub export_text : List (List ℕ) → List ℕ
export_text [] = []
export_text (e ∷ es) = line_for e ++ export_text es

abbrev pub all_fitting : List (List ℕ) → Bool
all_fitting es = each is_fitting es

abbrev pub export_refusal : Reading → List ℕ → Refusal
export_refusal (Ok p) f = bare (test 24 (all_fitting (entries_in f)) 0)
export_refusal (Err r) f = r

unfoldable pub export_into : List ℕ → List ℕ → Writing × List ℕ
export_into f out = written_unless (export_refusal (read_of f) f) (export_text (entries_in f)) out
