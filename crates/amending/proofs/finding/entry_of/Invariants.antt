-- `amending::finding::entry_of` meets its contract. The loop's invariant: the entry lies where it lies in what remains, after the bytes so far.
-- Assumes nothing.
use mathlib.Core.Path.{◌≡◌}
use mathlib.Core.List.{flatten}
use Prim.Native.Nat.{◌+◌, ◌-◌, ◌≤◌}
use lib.ListN.{length}
use Rattle.entries.specs.Walk.{entries_of}
use Rattle.amending.specs.Plan.{span_in}
use Rattle.amending.proofs.SpanLaws.{past}
use Rattle.amending.proofs.finding.entry_of.Given as goal

abbrev pub invariant-loop-entry : goal.invariant-loop-entry
invariant-loop-entry l = (l.from + length (flatten l.entry-iterator) ≤ length l.list)
    × (past l.from (span_in l.entry-iterator l.saved_before) ≡ span_in (entries_of l.list).pieces (l.file - 1))
