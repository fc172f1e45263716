-- `catalog::checking::volumes_allowed` meets its contract.
-- Assumes nothing.
use mathlib.Core.Path.{sym, ap, ◌∙◌}
use native.Mathlib.Omega.{arith}
use lib.ListN.{drop_of_length-le}
use Rattle.catalog.specs.Catalog.{volume_rows_allowed}
use Rattle.catalog.proofs.CheckLaws.{volumes_more}
use Rattle.catalog.proofs.checking.volumes_allowed.Goals as goal

pub returns-then-not-volume_allowed : goal.returns-then-not-volume_allowed
returns-then-not-volume_allowed c =
    sym (volumes_more _ _ c.loop-row.last _ _ c.loop-row-test.true c.number_of-number.ensures c.size_of.ensures c.if-not-volume_allowed.ensures)
    ∙ c.loop-row.invariant

pub loop-row-preserved : goal.loop-row-preserved
loop-row-preserved c =
    sym (volumes_more _ _ c.loop-row.last _ _ c.loop-row-test.true c.number_of-number.ensures c.size_of.ensures c.if-not-volume_allowed.ensures)
    ∙ c.loop-row.invariant

pub returns : goal.returns
unfolding volume_rows_allowed
returns c =
    sym (ap (volume_rows_allowed c.args.saved c.args.greatest c.loop-row.last) (drop_of_length-le c.args.rows.now (omega arith))) ∙ c.loop-row.invariant
