-- `elimination::sweep` meets its contract.
-- Assumes nothing.
use Rattle.std.proofs.Common.{◌≡◌, arith, rules}
use Rattle.elimination.proofs.Steps.{swept_more, swept_all}
use Rattle.elimination.proofs.sweep.Goals as goal

pub loop-r-preserved : goal.loop-r-preserved
loop-r-preserved c = let l = c.loop-r in let a = c.args in
    swept_more a.width l.r a.y.now a.k a.scale a.matrix.now l.matrix (omega arith) (omega arith) (omega arith) (search rules) l.invariant a.tables.now c.requires.tables
    (search rules) (search rules) _ c.product-weight.ensures _ c.mul_add_by.ensures

pub returns : goal.returns
returns c = let l = c.loop-r in let a = c.args in let e : l.r ≡ a.width = omega arith in
    swept_all a.width a.y.now a.k a.scale a.matrix.now l.matrix (search rules) (rw e at l.invariant)
