-- `par1_c::par1_check` meets its contract.
-- Assumes nothing.
use mathlib.Core.Path.{ap, ◌∙◌}
use Rattle.refusals.specs.Tests.{number_of}
use Rattle.refusals.proofs.TestLaws.{number_told}
use Rattle.par1_c.proofs.par1_check.Goals as goal

pub returns : goal.returns
returns c = c.number_of.ensures ∙ ap number_of c.check.ensures ∙ number_told _
