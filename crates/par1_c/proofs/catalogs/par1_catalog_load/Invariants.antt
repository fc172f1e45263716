-- `par1_c::catalogs::par1_catalog_load` meets its contract. The invariant: the records are those after a load of the rows so far.
-- Assumes nothing.
use Rattle.std.proofs.Common.{◌≡◌}
use Rattle.catalog.proofs.RecordLaws.{filled_to}
use Rattle.par1_c.proofs.catalogs.par1_catalog_load.Given as goal

abbrev pub invariant-loop-i : goal.invariant-loop-i
invariant-loop-i l = l.rows ≡ filled_to l.catalog l.i l.initial.rows
