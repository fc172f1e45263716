-- `elimination::Elimination::add_row` meets its contract.
-- Assumes nothing.
use Rattle.std.proofs.Common.{ℕ, rules, sym, ap, ◌∙◌}
use Rattle.elimination.specs.Reduction.{row_added_within}
use Rattle.elimination.proofs.AddedRow.{row_dependent, row_independent}
use Rattle.elimination.proofs.Elimination.add_row.Goals as goal

pub returns-in-Some : goal.returns-in-Some
returns-in-Some c = let y = c.row_times-y in let w = c.in_blocks-width in let a = c.args in let s = a.self.now in
    row_independent w.result a.row.now a.number s.matrix s.owners y.result w.ensures.most (search rules) (search rules) y.ensures c.in-Some.k _ _ _ c.new-tables.ensures
    (search rules) (sym c.in-Some.is ∙ c.pivot.ensures.searched) c.power-scale.ensures c.sweep.ensures
    ∙ ap (λ (n : ℕ). row_added_within n a.row.now a.number s.matrix s.owners) w.ensures.is

pub returns-in_default : goal.returns-in_default
returns-in_default c = let y = c.row_times-y in let w = c.in_blocks-width in let a = c.args in let s = a.self.now in
    row_dependent w.result a.row.now a.number s.matrix s.owners y.result w.ensures.most (search rules) (search rules) y.ensures
    (sym c.in_default.is ∙ c.pivot.ensures.searched)
    ∙ ap (λ (n : ℕ). row_added_within n a.row.now a.number s.matrix s.owners) w.ensures.is
