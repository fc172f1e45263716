-- The definitions, computed on a few values. A text is written as its bytes, here by `ascii` and the byte 10.
-- Assumes nothing.
use mathlib.Core.Path.{◌≡◌, refl}
use mathlib.Core.List.{List, [], ◌∷◌, ◌++◌, map, flatten}
use Rattle.text.specs.Ascii.{ascii}
use Rattle.text.specs.Decimal.{decimal, decimal_in}
use Rattle.lent_bytes.specs.Equal.{equal}
use Rattle.comparing.specs.Lines.{version_field, program_field, control_field, set-field, number_field, files_field, list_field, start-field, data_field}
use Rattle.comparing.specs.Lines.{length-field, status_field, size_field, md5-field, md5_16k_field, name_field}
use Rattle.comparing.specs.Lines.{Line, head, entry, all, run, refused, head_text, entry_text, run_text, refused_text, line_text}
use Rattle.comparing.specs.Differences.{differing, all_lines, entry_lines}
use Rattle.comparing.specs.Runs.{run_of, differs, with_place, runs_from, runs_of}

-- ---- the text of each line

heads : List Line
heads =
    map head
    (version_field ∷ program_field ∷ control_field ∷ set-field ∷ number_field ∷ files_field ∷ list_field ∷ start-field ∷ data_field ∷ [])

entries : List Line
entries = map (entry 12) (length-field ∷ status_field ∷ size_field ∷ md5-field ∷ md5_16k_field ∷ name_field ∷ [])

head_texts : map line_text heads
    ≡ (ascii "head version" ++ (10 ∷ []))
    ∷ (ascii "head program" ++ (10 ∷ []))
    ∷ (ascii "head control" ++ (10 ∷ []))
    ∷ (ascii "head set" ++ (10 ∷ []))
    ∷ (ascii "head number" ++ (10 ∷ []))
    ∷ (ascii "head files" ++ (10 ∷ []))
    ∷ (ascii "head list" ++ (10 ∷ []))
    ∷ (ascii "head start" ++ (10 ∷ []))
    ∷ (ascii "head data" ++ (10 ∷ []))
    ∷ []
unfolding heads head_text flatten
head_texts = refl

entry_texts : map line_text entries
    ≡ (ascii "entry 12 length" ++ (10 ∷ []))
    ∷ (ascii "entry 12 status" ++ (10 ∷ []))
    ∷ (ascii "entry 12 size" ++ (10 ∷ []))
    ∷ (ascii "entry 12 md5" ++ (10 ∷ []))
    ∷ (ascii "entry 12 16k" ++ (10 ∷ []))
    ∷ (ascii "entry 12 name" ++ (10 ∷ []))
    ∷ []
unfolding entries entry_text flatten decimal decimal_in
entry_texts = refl

other_texts : map line_text (all 3 ∷ run 0 12 ∷ refused 2 18 ∷ [])
    ≡ (ascii "entry 3 all" ++ (10 ∷ [])) ∷ (ascii "data 0 12" ++ (10 ∷ [])) ∷ (ascii "refused 2 18" ++ (10 ∷ [])) ∷ []
unfolding entry_text run_text refused_text flatten decimal decimal_in
other_texts = refl

-- ---- runs

-- places 1 and 2 touch; 6 differs because one side alone has it, and joins 5
two_runs : runs_of (0 ∷ 1 ∷ 2 ∷ 3 ∷ 4 ∷ 5 ∷ 6 ∷ []) (0 ∷ 9 ∷ 9 ∷ 3 ∷ 4 ∷ 9 ∷ []) ≡ run_of 1 2 ∷ run_of 5 6 ∷ []
unfolding runs_of runs_from with_place differs
two_runs = refl

-- the same data has none, and what one side alone has is one
no_runs : runs_of (7 ∷ 8 ∷ []) (7 ∷ 8 ∷ []) ≡ []
unfolding runs_of runs_from with_place differs
no_runs = refl

one_side : runs_of [] (7 ∷ 8 ∷ 9 ∷ []) ≡ run_of 0 2 ∷ []
unfolding runs_of runs_from with_place differs
one_side = refl

-- ---- entries, of which the second side has one more

lines : entry_lines 1 ((1 ∷ 2 ∷ []) ∷ []) ((1 ∷ 3 ∷ []) ∷ (4 ∷ []) ∷ []) ≡ entry 1 length-field ∷ all 2 ∷ []
unfolding entry_lines all_lines differing equal
lines = refl
