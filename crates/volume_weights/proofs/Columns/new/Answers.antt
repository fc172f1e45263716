-- `volume_weights::Columns::new` meets its contract.
-- Assumes nothing.
use Rattle.std.proofs.Common.{◌≡◌, ◌≤◌, Bool, true, false, cond, refl, ap, ◌∙◌, add-one, arith}
use mir.Val.{bool_byte}
use Rattle.volume_weights.specs.Weights.{column_in}
use Rattle.volume_weights.proofs.SideBySide.{filled_none, filled_more}
use Rattle.volume_weights.proofs.Columns.new.Goals as goal

one_if : (b : Bool) → bool_byte b ≡ cond b 1 0
one_if true = refl
one_if false = refl

one_at_most : (b : Bool) → bool_byte b ≤ 1
one_at_most true = omega arith
one_at_most false = omega arith

pub loop-i-init : goal.loop-i-init
loop-i-init c = (omega arith, filled_none _)

pub loop-i-preserved : goal.loop-i-preserved
loop-i-preserved c = let l = c.loop-i in let a = c.args in let b = c.is_column.result in (
  omega (arith, one_at_most b),
  rw c.from.ensures
      (filled_more _ l.i l.width l.files c.from-width.result l.invariant.1 (omega arith)
      (c.from-width.ensures ∙ one_if b ∙ ap (λ (t : Bool). cond t 1 0) (c.is_column.ensures ∙ ap (column_in a.nonempty a.present) (add-one l.i)))),
)
