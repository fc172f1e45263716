-- The lines of a listing (document 01, "What comes back"; document 02, 2026-01).
--
--   shown u             the character that a name unit u is printed as
--   is_placed n          whether a refusal with the number n is listed with its place
--   place_field r        the place of the refusal r, where it is listed
--   refused_line r       the line of a file that is refused with r
--   head_line v f s      the first line of an accepted file: volume number, entries, saved entries
--   label st n          the label of an entry with the status st: the file number n, or "-"
--   line_of st n k name  the line of an entry with this status, file number, file size and name
--   entry_line n e       the line of the entry e, whose file number is n if it is saved
--   entry_lines k es     the lines of the entries es, where k saved ones stand before them
-- Assumes nothing.
use Rattle.std.specs.Prelude.{ℕ, ◌+◌, Bool, cond, ◌&&◌, leb}
use Prim.Native.Char.{code}
use mathlib.Core.List.{List, [], ◌∷◌, ◌++◌, map, flatten}
use Rattle.entries.specs.Entry.{status_of, file_size_of, name_of, units_of, is_saved, saved_count}
use Rattle.refusals.specs.declared.Refusal.{Refusal}
use Rattle.text.specs.Ascii.{ascii}
use Rattle.text.specs.Decimal.{decimal, field}

-- "Name units 32 to 126 are printed, others as "?""
unfoldable pub shown : ℕ → ℕ
shown u = cond (leb 32 u && leb u 126) u (code "?")

-- 16 to 19: "For these the listing writes `refused N P`"
unfoldable pub is_placed : ℕ → Bool
is_placed n = leb 16 n && leb n 19

unfoldable pub place_field : Refusal → List ℕ
place_field r = cond (is_placed r.number) (field (ascii " ") r.place) []

-- "the line `refused N`", "ended by byte 10"
unfoldable pub refused_line : Refusal → List ℕ
refused_line r = flatten (field (ascii "refused ") r.number ∷ place_field r ∷ (10 ∷ []) ∷ [])

-- "volume 0 files 2 saved 1"
unfoldable pub head_line : ℕ → ℕ → ℕ → List ℕ
head_line volume files saved =
    flatten
    (field (ascii "volume ") volume
    ∷ field (ascii " files ") files
    ∷ field (ascii " saved ") saved
    ∷ (10 ∷ [])
    ∷ [])

-- the file's number, or "-" where the entry is not saved: "entries not saved have no number"
unfoldable pub label : ℕ → ℕ → List ℕ
label status number = cond (is_saved status) (decimal number) (ascii "-")

-- "1 5 A.LOG" for a saved entry, "- 12 NOTE.TXT" for another
unfoldable pub line_of : ℕ → ℕ → ℕ → List ℕ → List ℕ
line_of status number size name =
    flatten (label status number ∷ field (ascii " ") size ∷ ascii " " ∷ map shown (units_of name) ∷ (10 ∷ []) ∷ [])

abbrev pub entry_line : ℕ → List ℕ → List ℕ
entry_line number e = line_of (status_of e) number (file_size_of e) (name_of e)

-- "Files are numbered 1 to n over the saved entries only, in list order"
unfoldable pub entry_lines : ℕ → List (List ℕ) → List ℕ
entry_lines k [] = []
entry_lines k (e ∷ es) =
    let number : ℕ = k + saved_count (status_of e) in entry_line number e ++ entry_lines number es
