-- `catalog::entry_rows::put_rows` meets its contract. The loop's invariant: the rows of the entries that remain are still to be stored.
-- Assumes nothing.
use mathlib.Core.Path.{◌≡◌}
use Prim.Native.Nat.{◌≤◌, ◌+◌, ◌*◌}
use lib.ListN.{length}
use mathlib.Core.List.{flatten}
use lib.Seq.{sets}
use Rattle.entries.specs.Walk.{entries_of}
use Rattle.catalog.specs.Rows.{rows_after, rows_for}
use Rattle.catalog.proofs.ListLaws.{Left}
use Rattle.catalog.proofs.entry_rows.put_rows.Given as goal

abbrev pub invariant-loop-entry : goal.invariant-loop-entry
invariant-loop-entry l = Left (length l.list) l.saved l.entry-iterator × (l.at + 28 * length l.entry-iterator ≤ length l.out)
    × (sets l.out l.at (flatten (rows_after l.saved l.entry-iterator)) ≡ sets l.initial.out 16 (flatten (rows_for (entries_of l.list).pieces)))
