-- `elimination::Elimination::weights` meets its contract.
-- Assumes nothing.
use Rattle.std.proofs.Common.{◌≡◌, ℕ, arith, refl, ap, ◌∙◌, get_or, set, bit_xor, length-set}
use lib.ListN.{get_or-replicate}
use Rattle.computed_tests.proofs.Lists.{list_below_is}
use Rattle.gf256.specs.Polynomial.{sum_below}
use Rattle.elimination.specs.Reduction.{weight_of}
use Rattle.elimination.proofs.Steps.{weight_more}
use Rattle.elimination.proofs.Elimination.weights.Goals as goal

pub loop-k-init : goal.loop-k-init
unfolding sum_below
loop-k-init c = (refl, λ v l. get_or-replicate 256 v 0 0 l)

pub loop-k-preserved : goal.loop-k-preserved
loop-k-preserved c = let l = c.loop-k in let s = c.args.self.now in let o = c.from.result in (
  simp length-set l.invariant.0,
  λ v h. ap (λ (x : ℕ). get_or (set l.weights o (bit_xor (get_or l.weights o 0) x)) v 0) (c.row-row.ensures.entries l.k (omega arith))
      ∙ weight_more s.matrix s.owners l.weights c.args.column l.k l.invariant.0 l.invariant.1 o c.from.ensures v h,
)

pub returns : goal.returns
unfolding weight_of
returns c = let l = c.loop-k in let e : l.k ≡ 256 = omega arith in list_below_is 256 _ l.weights l.invariant.0 (rw e at l.invariant.1)
