-- `catalog::checking::read_entries` meets its contract.
-- Assumes nothing.
use mathlib.Core.Path.{◌≡◌}
use Prim.Native.Nat.{◌≤◌}
use lib.ListN.{drop}
use Rattle.catalog.specs.Plan.{entered_of}
use Rattle.catalog.proofs.CheckLaws.{entered_from}
use Rattle.catalog.proofs.checking.read_entries.Given as goal

abbrev pub invariant-loop-row : goal.invariant-loop-row
invariant-loop-row l = (l.saved ≤ l.row-index) × (entered_from l.saved l.greatest (drop l.row-index l.rows) ≡ entered_of l.rows)
