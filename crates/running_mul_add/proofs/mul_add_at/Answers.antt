-- `running_mul_add::mul_add_at` meets its contract.
-- Assumes nothing.
use mathlib.Core.Path.{sym}
use Rattle.running_mul_add.proofs.PushLaws.{at_past, at_part}
use Rattle.running_mul_add.proofs.mul_add_at.Goals as goal

pub returns-then-buffer-at : goal.returns-then-buffer-at
returns-then-buffer-at c = sym (at_past _ _ _ _ c.if-buffer-at.true)

pub returns : goal.returns
returns c = let a = c.args in at_part a.weight a.at a.fragment.now a.buffer.now c.mul_add.ensures
