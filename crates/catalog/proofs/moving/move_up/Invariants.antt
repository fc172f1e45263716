-- `catalog::moving::move_up` meets its contract. The loop's invariant: the bytes from the last place on are moved up.
-- Assumes nothing.
use mathlib.Core.Path.{◌≡◌}
use Prim.Native.Nat.{◌≤◌, ◌-◌, ◌+◌}
use lib.ListN.{take, drop}
use lib.Seq.{sets}
use Rattle.catalog.proofs.moving.move_up.Given as goal

abbrev pub invariant-loop-i : goal.invariant-loop-i
invariant-loop-i l = (l.at ≤ l.i) × (l.bytes ≡ sets l.initial.bytes (l.i + 28) (take (l.to - l.i) (drop l.i l.initial.bytes)))
