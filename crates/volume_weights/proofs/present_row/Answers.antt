-- `volume_weights::present_row` meets its contract.
-- Assumes nothing.
use Rattle.std.proofs.Common.{◌≡◌, arith, ap, sym, ◌∙◌, ◌+◌}
use Rattle.number_sets.specs.Sets.{member}
use Rattle.parity.specs.Coefficient.{rule_of}
use Rattle.parity.proofs.Coefficients.{rule_by_tables}
use Rattle.volume_weights.proofs.CoefficientRows.{front_none, front_more, front_zero, row_filled, present_in, present_out}
use Rattle.volume_weights.proofs.present_row.Goals as goal
use Rattle.volume_weights.proofs.present_row.Goals.{then-has, else-has}

pub loop-i-init : goal.loop-i-init
loop-i-init c = front_none _

pub loop-i-preserved : goal.loop-i-preserved
loop-i-preserved c = let l = c.loop-i in let a = c.args in let is : c.has.result ≡ member a.present (l.i + 1) = c.has.ensures ∙ ap (member a.present) c.from.ensures in
    elim c.if-has.branch [
      | then-has w ↦ rw (w.row-is, w.from-then-has.ensures)
          (front_more _ l.i l.row _ l.invariant (omega arith)
          (w.coefficient_by.ensures ∙ rule_by_tables a.code _ c.new-tables.ensures (l.i + 1) a.volume (omega arith)
          ∙ present_in (rule_of a.code) a.present a.volume l.i (omega arith) (sym is ∙ w.if-has.true)))
      | else-has w ↦ rw w.row-is
          (front_zero _ l.i l.row l.invariant (omega arith) (present_out (rule_of a.code) a.present a.volume l.i (omega arith) (sym is ∙ w.if-has.false)))
    ]

pub returns : goal.returns
returns c = let l = c.loop-i in let a = c.args in let e : l.i ≡ 255 = omega arith in row_filled (rule_of a.code) a.present _ a.volume l.row (rw e at l.invariant)
