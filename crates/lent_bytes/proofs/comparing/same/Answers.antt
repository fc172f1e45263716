-- `lent_bytes::same` meets its contract.
-- Assumes nothing.
use mathlib.Core.Path.{◌∙◌}
use Rattle.lent_bytes.proofs.EqualLaws.{equal_slices}
use Rattle.lent_bytes.proofs.comparing.same.Goals as goal

pub returns : goal.returns
returns c = c.eq.ensures ∙ equal_slices c.args.a.now c.args.b.now
