-- `volume_weights::solve` meets its contract.
-- Assumes nothing.
use Rattle.std.proofs.Common.{rules, sym, refl, ◌∙◌}
use Rattle.parity.specs.Coefficient.{rule_of}
use Rattle.parity.proofs.Coefficients.{rule_byte}
use Rattle.volume_weights.proofs.Steps.{column_solved, column_unsolved}
use Rattle.volume_weights.proofs.Renumbered.{placed, outside_solved}
use Rattle.volume_weights.proofs.solve.Goals as goal

pub returns-in_err-at : goal.returns-in_err-at
returns-in_err-at c = let a = c.args in let r = c.from_residual.ensures in let i = c.in_err-at.was in let e = c.new-columns.ensures in
    rw c.from_residual.ensures
    (outside_solved (rule_of a.code) a.nonempty a.present a.volumes a.rows a.column (search rules)
    (placed a.nonempty a.present _ _ e (search rules) a.column _ (sym i ∙ c.place.ensures.searched)))

pub returns-then-solvable : goal.returns-then-solvable
returns-then-solvable c = let a = c.args in let e = c.new-columns.ensures in
    let at = placed a.nonempty a.present _ _ e (search rules) a.column _ (sym c.in_ok-at.was ∙ c.place.ensures.searched) in
    column_solved (rule_of a.code) (rule_byte a.code) a.nonempty a.present a.volumes _ _ e a.column _ (search rules) at.1 at.2 a.rows _ _ _ refl c.eliminate.ensures _
    (sym c.solvable.ensures ∙ c.if-solvable.true) c.weights.ensures

pub returns-else-solvable : goal.returns-else-solvable
returns-else-solvable c = let a = c.args in let e = c.new-columns.ensures in
    let at = placed a.nonempty a.present _ _ e (search rules) a.column _ (sym c.in_ok-at.was ∙ c.place.ensures.searched) in
    column_unsolved (rule_of a.code) (rule_byte a.code) a.nonempty a.present a.volumes _ _ e a.column _ (search rules) at.1 at.2 a.rows _ _ _ refl c.eliminate.ensures
    (sym c.solvable.ensures ∙ c.if-solvable.false)
