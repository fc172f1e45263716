-- `elimination::row_times` meets its contract.
-- Assumes nothing.
use Rattle.std.proofs.Common.{◌≡◌, arith, rules}
use lib.ListN.{get_or-replicate}
use Rattle.gf256.specs.Polynomial.{sum_below}
use Rattle.elimination.specs.Reduction.{row_product_within}
use Rattle.elimination.proofs.Steps.{product_more}
use Rattle.elimination.proofs.row_times.Goals as goal

pub loop-i-init : goal.loop-i-init
unfolding sum_below
loop-i-init c = λ j l. get_or-replicate 256 j 0 0 (omega arith)

pub loop-i-preserved : goal.loop-i-preserved
loop-i-preserved c = let l = c.loop-i in let a = c.args in
    product_more a.tables.now c.requires.tables a.width a.row.now a.matrix.now l.sum l.i (omega arith) (search rules) (search rules) l.invariant _ c.mul_add_by.ensures

pub returns : goal.returns
unfolding row_product_within
returns c = let e : c.loop-i.i ≡ c.args.width = omega arith in rw e at c.loop-i.invariant
