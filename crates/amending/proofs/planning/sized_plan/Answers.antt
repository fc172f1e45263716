-- `amending::planning::sized_plan` meets its contract, whatever the sizes are.
-- Assumes nothing.
use native.Mathlib.Omega.{arith}
use Rattle.parity.specs.Coefficient.{rule_of}
use Rattle.amending.proofs.PlanLaws.{sized_short, sized_over}
use Rattle.amending.proofs.planning.sized_plan.Goals as goal

pub returns-then-data_start-data_size : goal.returns-then-data_start-data_size
returns-then-data_start-data_size c = let a = c.args in sized_short rule_of a.parts a.from a.file a.place a.size c.max-data_size.ensures c.bare.ensures (omega arith)

pub returns : goal.returns
returns c = let a = c.args in sized_over rule_of a.parts a.from a.file a.place a.size c.max-data_size.ensures
    c.coefficient_of.ensures (omega arith)
