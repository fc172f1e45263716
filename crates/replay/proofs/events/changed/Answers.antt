-- `replay::events::changed` meets its contract.
-- Assumes nothing.
use mathlib.Core.Path.{ap, ◌∙◌}
use Prim.Native.Nat.{ℕ, min}
use native.Mathlib.Omega.{arith}
use lib.ListN.{get_or}
use mathlib.Core.List.{List}
use Rattle.lent_bytes.proofs.PartLaws.{part_to_end}
use Rattle.inventory.specs.Steps.{change_step, handed_back}
use Rattle.text.specs.Buffer.{usize_max}
use Rattle.text.specs.Decimal.{value_of}
use Rattle.replay.specs.Log.{change_of, number_in}
use Rattle.replay.proofs.EventLaws.{event_long}
use Rattle.replay.proofs.CutNumbers.{change_cut}
use Rattle.replay.proofs.events.changed.Goals as goal

pub bounds-line-0 : goal.bounds-line-0
bounds-line-0 c = omega (arith, event_long _ c.requires)

pub slice_bounds-value_of-count : goal.slice_bounds-value_of-count
slice_bounds-value_of-count c = omega (arith, event_long _ c.requires)

pub slice_bounds-value_of-start : goal.slice_bounds-value_of-start
slice_bounds-value_of-start c = omega (arith, event_long _ c.requires)

pub returns : goal.returns
returns c = let a = c.args in let l = a.line.now in
    c.changed_by.ensures
    ∙ ap handed_back (ap (change_step (change_of (get_or l 0 0)) a.inventory) (c.value_of.ensures ∙ ap (λ (w : List ℕ). min (value_of w) usize_max) (part_to_end l 2))
    ∙ change_cut (change_of (get_or l 0 0)) a.inventory (number_in l))
