-- `running_mul_add::push` meets its contract.
-- Assumes nothing.
use mathlib.Core.Path.{sym, ap, ◌∙◌}
use Rattle.running_mul_add.proofs.PushLaws.{push_over, push_going}
use Rattle.running_mul_add.specs.declared.Outcome.{Outcome}
use Rattle.running_mul_add.proofs.push.Goals as goal

pub returns-then-job : goal.returns-then-job
returns-then-job c =
    ap (λ (o : Outcome). (o, c.args.buffer.now)) c.refused.ensures
    ∙ sym (push_over _ _ _ c.if-job.true)

pub returns : goal.returns
returns c = let a = c.args in push_going a.job a.fragment.now a.buffer.now c.if-job.false c.position_after.ensures
    c.mul_add_at.ensures
