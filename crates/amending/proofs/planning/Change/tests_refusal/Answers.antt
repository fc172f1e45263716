-- `amending::planning::Change::tests_refusal` meets its contract.
-- Assumes nothing.
use mathlib.Core.Path.{ap, ◌∙◌}
use Rattle.refusals.specs.Tests.{number_of}
use Rattle.refusals.proofs.TestLaws.{number_told}
use Rattle.amending.specs.Plan.{tests_refusal}
use Rattle.amending.proofs.planning.Change.tests_refusal.Goals as goal

pub returns : goal.returns
unfolding tests_refusal
returns c = let lone = c.number_of.ensures ∙ ap number_of c.check_lone.ensures ∙ number_told _ in cc lone
