-- `replay::events::changed_by` meets its contract.
-- Assumes nothing.
use mathlib.Core.Path.{sym, ap, ◌∙◌}
use mathlib.Core.Logic.{◌≢◌}
use native.Mathlib.Omega.{arith}
use Rattle.inventory.specs.Model.{Change}
use Rattle.inventory.specs.Steps.{change_step, handed_back}
use Rattle.replay.specs.Log.{change_of}
use Rattle.replay.proofs.EventLaws.{change_other}
use Rattle.replay.proofs.events.changed_by.Goals as goal

pub returns-in-70 : goal.returns-in-70
unfolding change_of
returns-in-70 c = let a = c.args in c.add_file.ensures ∙ ap (λ (x : Change). handed_back (change_step x a.inventory a.number)) (sym (ap change_of c.in-70.is))

pub returns-in-86 : goal.returns-in-86
unfolding change_of
returns-in-86 c = let a = c.args in c.add_volume.ensures ∙ ap (λ (x : Change). handed_back (change_step x a.inventory a.number)) (sym (ap change_of c.in-86.is))

pub returns-in-102 : goal.returns-in-102
unfolding change_of
returns-in-102 c = let a = c.args in c.remove_file.ensures ∙ ap (λ (x : Change). handed_back (change_step x a.inventory a.number)) (sym (ap change_of c.in-102.is))

pub returns-in_default : goal.returns-in_default
returns-in_default c = let a = c.args in
    let q : (a.letter ≢ 70) × (a.letter ≢ 86) × (a.letter ≢ 102) = (λ e. omega arith, λ e. omega arith, λ e. omega arith) in
    c.remove_volume.ensures ∙ ap (λ (x : Change). handed_back (change_step x a.inventory a.number)) (sym (change_other a.letter q.0 q.1 q.2))
