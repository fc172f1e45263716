-- `volume_weights::Columns::eliminate` meets its contract.
-- Assumes nothing.
use Rattle.std.proofs.Common.{◌≡◌, ◌+◌, rules, ap, sym, ◌∙◌}
use Rattle.number_sets.specs.Sets.{member}
use Rattle.parity.specs.Coefficient.{rule_of}
use Rattle.volume_weights.proofs.Steps.{added_start, added_taken, added_left}
use Rattle.volume_weights.proofs.Columns.eliminate.Goals as goal
use Rattle.volume_weights.proofs.Columns.eliminate.Goals.{then-has, else-has}

pub loop-v-init : goal.loop-v-init
loop-v-init c = let s = c.args.self.now in let d = c.set_diagonal.ensures in
    added_start (rule_of c.args.code) s.files c.args.volumes s.width _ _ _ _ c.requires.matrix c.requires.owners d.matrix d.owners

pub loop-v-preserved : goal.loop-v-preserved
loop-v-preserved c = let l = c.loop-v in let a = c.args in let s = a.self.now in
    let is : c.has.result ≡ member a.volumes (l.v + 1) = c.has.ensures ∙ ap (member a.volumes) c.from.ensures in
    elim c.if-has.branch [
      | then-has w ↦ rw w.elimination-is
          (added_taken (rule_of a.code) s.files a.volumes s.width (search rules) l.v _ _ _ _ _ _ l.invariant w.row-row.ensures w.add_row.ensures (sym is ∙ w.if-has.true))
      | else-has w ↦ rw w.elimination-is (added_left (rule_of a.code) s.files a.volumes s.width l.v _ _ _ l.invariant (sym is ∙ w.if-has.false))
    ]
