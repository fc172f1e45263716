-- `amending::planning::plan_for` meets its contract, by what reading gave.
-- Assumes nothing.
use mathlib.Core.Path.{sym, ◌∙◌}
use Rattle.std.proofs.lemmas.Result.{err_from_is_err_and}
use Rattle.parity.specs.Coefficient.{rule_of}
use Rattle.amending.proofs.PlanLaws.{plan_unread}
use Rattle.amending.proofs.planning.plan_for.Goals as goal

pub returns-in_err-parts : goal.returns-in_err-parts
returns-in_err-parts c =
    let p = err_from_is_err_and c.from_residual.result c.from_residual.ensures.1 in
    rw (p.1, p.2) (plan_unread rule_of _ _ _ (sym c.read.ensures ∙ c.in_err-parts.was))
