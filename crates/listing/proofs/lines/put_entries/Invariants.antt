-- `listing::lines::put_entries` meets its contract. The loop's invariant: the lines of the entries that remain are to be put.
-- Assumes nothing.
use Prim.Native.Nat.{◌≤◌, ◌+◌}
use lib.ListN.{length}
use Rattle.entries.specs.Walk.{entries_of}
use Rattle.text.proofs.WriterLaws.{Remains}
use Rattle.listing.specs.Lines.{entry_lines}
use Rattle.listing.proofs.lines.put_entries.Given as goal

abbrev pub invariant-loop-entry : goal.invariant-loop-entry
invariant-loop-entry l =
    (l.saved + length l.entry-iterator ≤ length l.list)
    × Remains l.initial.writer l.writer (entry_lines l.saved l.entry-iterator) (entry_lines 0 (entries_of l.list).pieces)
