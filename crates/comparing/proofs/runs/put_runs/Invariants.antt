-- `comparing::runs::put_runs` meets its contract. The loop's invariant: the lines on the runs from the position on are to be put.
-- Assumes nothing.
use mathlib.Core.Path.{◌≡◌}
use Prim.Native.Nat.{◌-◌, max}
use lib.ListN.{length}
use Rattle.text.proofs.WriterLaws.{Remains}
use mathlib.Core.List.{map}
use Rattle.comparing.specs.Lines.{text_of}
use Rattle.comparing.specs.Runs.{run_line, run_lines, runs_from, differs}
use Rattle.comparing.proofs.runs.put_runs.Given as goal

abbrev pub invariant-loop-n : goal.invariant-loop-n
invariant-loop-n l =
    (l.n ≡ max (length l.a) (length l.b))
    × Remains l.initial.writer l.writer (text_of (map (λ r. run_line r) (runs_from (differs l.a l.b) (l.n - l.from) l.from))) (text_of (run_lines l.a l.b))

abbrev pub decreases-loop-n : goal.decreases-loop-n
decreases-loop-n l = l.n - l.from
