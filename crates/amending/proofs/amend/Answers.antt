-- `amending::amend` meets its contract: refused for its length, by the tests, for the room, and amended.
-- Assumes nothing.
use Rattle.std.specs.Prelude.{Err}
use mathlib.Core.Path.{sym, ap, ◌∙◌}
use Rattle.std.proofs.lemmas.Result.{err_from_is_err_and}
use Rattle.parity.specs.Coefficient.{rule_of}
use Rattle.refusals.specs.declared.Refusal.{Refusal}
use Rattle.amending.specs.Call.{change_of}
use Rattle.amending.proofs.PatchLaws.{amend_refuses, amend_short, plan_right, amend_over}
use Rattle.amending.proofs.Refusals.{amend_past}
use Rattle.amending.proofs.amend.Goals as goal

pub returns-then-volume-length : goal.returns-then-volume-length
returns-then-volume-length c = let a = c.args in ap (λ (r : Refusal). (Err r, a.volume.now)) c.bare.ensures
    ∙ sym (amend_past rule_of a.length (change_of a.file a.place a.old.now a.new.now) a.entry.now a.volume.now
    c.if-volume-length.true)

pub returns-in_err-plan : goal.returns-in_err-plan
returns-in_err-plan c =
    let p = err_from_is_err_and c.from_residual.result c.from_residual.ensures.1 in
    rw (p.1, p.2) (amend_refuses rule_of _ _ _ _ c.if-volume-length.false (sym c.plan_for.ensures ∙ c.in_err-plan.was))

pub returns-then-volume-plan : goal.returns-then-volume-plan
returns-then-volume-plan c =
    amend_short rule_of _ _ _ _ c.if-volume-length.false (sym c.plan_for.ensures ∙ c.in_ok-plan.was) c.bare-then-volume-plan.ensures
    c.if-volume-plan.true

pub patch-requires : goal.patch-requires
patch-requires c =
    let right = plan_right rule_of _ _ _ _ c.if-volume-length.false (sym c.plan_for.ensures ∙ c.in_ok-plan.was) in
    (right.0, right.1, c.if-volume-plan.false, right.2)

pub returns : goal.returns
returns c =
    amend_over rule_of _ _ _ _ c.if-volume-length.false (sym c.plan_for.ensures ∙ c.in_ok-plan.was) c.if-volume-plan.false c.patch.ensures
