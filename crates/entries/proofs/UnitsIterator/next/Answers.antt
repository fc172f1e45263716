-- The iterator gives the units of the name one after another.
-- Assumes nothing.
use mathlib.Core.Path.{sym, ap, ◌∙◌}
use native.Mathlib.Omega.{arith}
use lib.ListN.{length}
use Rattle.lent_bytes.proofs.PartLaws.{part_to_end}
use Rattle.entries.proofs.NameLaws.{units_short, unit_first}
use Rattle.entries.proofs.UnitsIterator.next.Goals as goal

pub returns-then-self-lt2-clause-steps : goal.returns-then-self-lt2-clause-steps
returns-then-self-lt2-clause-steps c = let none = sym c.self.view_is ∙ units_short _ (omega arith) in (none, none)

pub returns-clause-steps : goal.returns-clause-steps
returns-clause-steps c = sym c.self.view_is ∙ unit_first _ (omega arith) c.read16-unit.ensures (part_to_end _ 2)

pub returns-clause-goes : goal.returns-clause-goes
returns-clause-goes c = record { on = λ _. (tt, tt, omega (arith, ap length (returns-clause-steps c))); keeps = tt; rests = λ _. tt }
