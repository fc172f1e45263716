-- The comparison of two index files or volumes (document 02, 2026-06).
--
--   refusal_lines s r    the line on the file of side s, which reads as r, where it is refused
--   lines_by r q f g     the lines on the files f and g, which read as r and q
--   lines_of f g         the lines on the files f and g
--   comparison_of f g    their text
-- Assumes nothing.
use Rattle.std.specs.Prelude.{ℕ, List, [], ◌∷◌, ◌++◌, Ok, Err}
use Rattle.par1_rules.specs.Layout.{data_of}
use Rattle.par1_read.specs.Reading.{entries_in, read_of}
use Rattle.par1_read.specs.Reading.{Reading}
use Rattle.comparing.specs.Lines.{Line, refused, text_of}
use Rattle.comparing.specs.Differences.{head_lines, entry_lines}
use Rattle.comparing.specs.Runs.{run_lines}

-- "Each refused file gives a line `refused S N`"
abbrev pub refusal_lines : ℕ → Reading → List Line
refusal_lines side (Ok p) = []
refusal_lines side (Err r) = refused side r.number ∷ []

-- "in layout order"; "side 1 before 2, and then nothing else is written"
abbrev pub lines_by : Reading → Reading → List ℕ → List ℕ → List Line
lines_by (Ok p) (Ok q) f g = head_lines f g ++ (entry_lines 1 (entries_in f) (entries_in g) ++ run_lines (data_of f) (data_of g))
lines_by (Ok p) (Err r) f g = refusal_lines 2 (Err r)
lines_by (Err r) q f g = refusal_lines 1 (Err r) ++ refusal_lines 2 q

unfoldable pub lines_of : List ℕ → List ℕ → List Line
lines_of f g = lines_by (read_of f) (read_of g) f g

unfoldable pub comparison_of : List ℕ → List ℕ → List ℕ
comparison_of f g = text_of (lines_of f g)
