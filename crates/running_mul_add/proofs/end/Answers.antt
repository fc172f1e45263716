-- `running_mul_add::end` meets its contract.
-- Assumes nothing.
use mathlib.Core.Path.{sym, ◌∙◌}
use Rattle.running_mul_add.proofs.PushLaws.{end_over, end_going}
use Rattle.running_mul_add.proofs.end.Goals as goal

pub returns-then-job : goal.returns-then-job
returns-then-job c = c.refused.ensures ∙ sym (end_over _ c.if-job.true)

pub returns : goal.returns
returns c = sym (end_going _ c.if-job.false)
