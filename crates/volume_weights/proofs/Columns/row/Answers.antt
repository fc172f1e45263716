-- `volume_weights::Columns::row` meets its contract.
-- Assumes nothing.
use Rattle.std.proofs.Common.{◌≡◌, ℕ, List, arith, rules, ap, ◌∙◌, get_or}
use lib.Seq.{get_or-take}
use Rattle.parity.specs.Coefficient.{rule_of}
use Rattle.parity.proofs.Coefficients.{rule_by_tables}
use Rattle.volume_weights.proofs.CoefficientRows.{front_none, front_more}
use Rattle.volume_weights.proofs.Renumbered.{packed_row}
use Rattle.volume_weights.proofs.Columns.row.Goals as goal

pub loop-p-init : goal.loop-p-init
loop-p-init c = front_none _

pub loop-p-preserved : goal.loop-p-preserved
loop-p-preserved c = let l = c.loop-p in let a = c.args in let s = a.self.now in let items = c.files-file-items in
    let file : get_or items.result.now l.p 0 ≡ get_or s.files l.p 0 = ap (λ (fs : List ℕ). get_or fs l.p 0) items.ensures.is ∙ get_or-take s.width s.files l.p 0 (omega arith) in
    front_more _ l.p l.row _ l.invariant (omega arith)
    (c.coefficient_by.ensures ∙ rule_by_tables a.code _ c.new-tables.ensures _ a.volume (c.type_inv.file-items l.p).fits
    ∙ ap (λ (f : ℕ). rule_of a.code f a.volume) file)

pub returns : goal.returns
returns c = let l = c.loop-p in let a = c.args in let s = a.self.now in let e : l.p ≡ s.width = omega arith in
    packed_row (rule_of a.code) s.files s.width a.volume l.row (search rules) (rw e at l.invariant)
