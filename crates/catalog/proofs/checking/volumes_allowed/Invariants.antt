-- `catalog::checking::volumes_allowed` meets its contract.
-- Assumes nothing.
use mathlib.Core.Path.{◌≡◌}
use lib.ListN.{drop}
use Rattle.catalog.specs.Catalog.{volume_rows_allowed}
use Rattle.catalog.proofs.checking.volumes_allowed.Given as goal

abbrev pub invariant-loop-row : goal.invariant-loop-row
invariant-loop-row l = volume_rows_allowed l.saved l.greatest l.last (drop l.row-index l.rows) ≡ volume_rows_allowed l.saved l.greatest 0 l.rows
