-- `comparing::scan::agreement_from` meets its contract. The loop's invariant: the places passed differ.
-- Assumes nothing.
use mathlib.Core.Path.{◌≡◌}
use Prim.Native.Nat.{ℕ, ◌≤◌, ◌<◌, max}
use lib.ListN.{length}
use Rattle.comparing.specs.Runs.{differs}
use mathlib.Core.Bool.{true}
use Rattle.comparing.proofs.scan.agreement_from.Given as goal

abbrev pub invariant-loop-p : goal.invariant-loop-p
invariant-loop-p l = (l.p ≤ max (length l.a) (length l.b)) × (l.from ≤ l.p) × ((q : ℕ) → q < l.p → l.from ≤ q → differs l.a l.b q ≡ true)
