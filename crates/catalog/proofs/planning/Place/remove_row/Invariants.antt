-- `catalog::planning::Place::remove_row` meets its contract. The loop's invariant: the rows so far are moved down.
-- Assumes nothing.
use mathlib.Core.Path.{◌≡◌}
use Prim.Native.Nat.{◌-◌, ◌+◌}
use lib.ListN.{take, drop}
use lib.Seq.{sets}
use Rattle.catalog.proofs.planning.Place.remove_row.Given as goal

abbrev pub invariant-loop-i : goal.invariant-loop-i
invariant-loop-i l = l.bytes ≡ sets l.initial.bytes l.fn.self.at (take (l.i - l.fn.self.at) (drop (l.fn.self.at + 28) l.initial.bytes))
