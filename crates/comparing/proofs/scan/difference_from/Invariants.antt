-- `comparing::scan::difference_from` meets its contract. The loop's invariant: the places passed agree.
-- Assumes nothing.
use mathlib.Core.Path.{◌≡◌}
use Prim.Native.Nat.{ℕ, ◌≤◌, ◌<◌, max}
use Rattle.comparing.specs.Runs.{differs}
use mathlib.Core.Bool.{false}
use Rattle.comparing.proofs.scan.difference_from.Given as goal

abbrev pub invariant-loop-p : goal.invariant-loop-p
invariant-loop-p l = (l.from ≤ l.p) × (l.p ≤ max l.start l.common) × ((q : ℕ) → q < l.p → l.from ≤ q → differs l.a l.b q ≡ false)
