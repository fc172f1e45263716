-- `entries::walk` meets its contract. The loop's invariant: the walk over what remains, from the totals so far, is the whole walk.
-- Assumes nothing.
use mathlib.Core.Path.{◌≡◌}
use Prim.Native.Nat.{◌+◌, ◌≤◌}
use lib.ListN.{length}
use Rattle.entries.specs.Walk.{entries_of, walk_of}
use Rattle.entries.proofs.WalkLaws.{walk_from}
use Rattle.entries.proofs.walk.Given as goal

abbrev pub invariant-loop-entry : goal.invariant-loop-entry
invariant-loop-entry l =
    (l.totals.entries + length l.rest ≤ length l.list) × (l.totals.saved + length l.rest ≤ length l.list)
    × (walk_from l.totals (entries_of l.rest) ≡ walk_of l.list)

abbrev pub decreases-loop-entry : goal.decreases-loop-entry
decreases-loop-entry l = length l.rest
