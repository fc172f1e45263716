-- `comparing::fields::put_entry_field` meets its contract.
-- Assumes nothing.
use mathlib.Core.Path.{sym, ◌∙◌}
use native.Mathlib.Omega.{arith}
use Rattle.text.proofs.WriterLaws.{puts_nil}
use Rattle.comparing.proofs.fields.put_entry_field.Goals as goal

pub returns-then-not-same_part : goal.returns-then-not-same_part
returns-then-not-same_part c = simp (sym c.same_part.ensures ∙ c.if-not-same_part.true) c.put_entry.ensures

pub returns-else-not-same_part : goal.returns-else-not-same_part
returns-else-not-same_part c = simp (sym c.same_part.ensures ∙ c.if-not-same_part.false) (puts_nil _ (omega arith))
