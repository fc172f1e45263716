-- `list_scan::next_run` meets its contract: each kind of run.
-- Assumes nothing.
use Rattle.std.proofs.Common.{sym, arith, length-take-le}
use Rattle.list_scan.proofs.RunLaws.{run_head, run_high, run_low, run_units}
use Rattle.list_scan.proofs.next_run.Goals as goal

pub returns-then-at : goal.returns-then-at
returns-then-at c = let a = c.args in run_head a.scan.now.head a.scan.now.at a.scan.now.low a.scan.now.named a.rest.now c.requires.0 c.if-at.true c.min.ensures

pub returns-then-at-eq1 : goal.returns-then-at-eq1
returns-then-at-eq1 c = let a = c.args in run_high a.scan.now.head a.scan.now.at a.scan.now.low a.scan.now.named a.rest.now c.requires.0 c.if-at.false
    c.if-at-eq1.true c.with_unit.ensures

pub returns-then-rest-eq1 : goal.returns-then-rest-eq1
returns-then-rest-eq1 c = let a = c.args in run_low a.scan.now.head a.scan.now.at a.scan.now.low a.scan.now.named a.rest.now c.requires.0 c.if-at-eq1.false

pub units_to_end-length-requires : goal.units_to_end-length-requires
units_to_end-length-requires c = omega (arith, c.if-rest-eq1.false, c.requires.0)

pub slice_bounds-with_units-end : goal.slice_bounds-with_units-end
slice_bounds-with_units-end c = sym (length-take-le _ _ c.units_to_end-length.ensures.1)

pub returns : goal.returns
returns c = let a = c.args in let n = c.units_to_end-length.ensures in run_units a.scan.now.head a.scan.now.at a.scan.now.low a.scan.now.named a.rest.now c.requires.0 c.requires.1
    c.if-at.false c.if-at-eq1.false n.0 n.1 n.2 c.read64.ensures n.3
    c.with_units.ensures
