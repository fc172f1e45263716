-- The iterator gives the entries of the list one after another: each step is a step of the cut.
-- Assumes nothing.
use mathlib.Core.Path.{sym, ap, ◌∙◌}
use native.Mathlib.Omega.{arith}
use lib.ListN.{length}
use Rattle.entries.proofs.WalkLaws.{first_fits, entry_first, no_first}
use Rattle.entries.proofs.EntriesIterator.next.Goals as goal

pub split_at-requires : goal.split_at-requires
split_at-requires c = first_fits _ c.first_length-length.ensures c.if-length-eq0.false

pub returns-then-length-eq0-clause-steps : goal.returns-then-length-eq0-clause-steps
returns-then-length-eq0-clause-steps c = let none = sym c.self.view_is ∙ no_first _ c.first_length-length.ensures c.if-length-eq0.true in (none, none)

pub returns-clause-steps : goal.returns-clause-steps
returns-clause-steps c = sym c.self.view_is ∙ entry_first _ c.first_length-length.ensures c.if-length-eq0.false c.split_at.ensures.front c.split_at.ensures.back

pub returns-clause-goes : goal.returns-clause-goes
returns-clause-goes c = record { on = λ _. (tt, tt, omega (arith, ap length (returns-clause-steps c))); keeps = tt; rests = λ _. tt }
