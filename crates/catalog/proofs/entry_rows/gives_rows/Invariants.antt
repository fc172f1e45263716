-- `catalog::entry_rows::gives_rows` meets its contract. The loop's invariant: the rows of the entries that remain are to be the rest.
-- Assumes nothing.
use mathlib.Core.Path.{◌≡◌}
use lib.ListN.{length}
use mathlib.Core.List.{flatten}
use Rattle.lent_bytes.specs.Equal.{equal}
use Rattle.entries.specs.Walk.{entries_of}
use Rattle.catalog.specs.Rows.{rows_after, rows_for}
use Rattle.catalog.proofs.ListLaws.{Left}
use Rattle.catalog.proofs.entry_rows.gives_rows.Given as goal

abbrev pub invariant-loop-entry : goal.invariant-loop-entry
invariant-loop-entry l = Left (length l.list) l.saved l.entry-iterator
    × (equal (flatten (rows_after l.saved l.entry-iterator)) l.rest ≡ equal (flatten (rows_for (entries_of l.list).pieces)) l.rows)
