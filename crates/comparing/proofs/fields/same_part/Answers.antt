-- `comparing::fields::same_part` meets its contract.
-- Assumes nothing.
use mathlib.Core.Path.{ap₂, ◌∙◌}
use Rattle.lent_bytes.specs.Equal.{equal}
use Rattle.comparing.proofs.fields.same_part.Goals as goal

pub returns : goal.returns
returns c = c.same.ensures ∙ ap₂ equal c.part.ensures c.part-2.ensures
