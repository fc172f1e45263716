-- `comparing::scan::equal_blocks` meets its contract. The loop's invariant: the blocks passed agree.
-- Assumes nothing.
use mathlib.Core.Path.{◌≡◌}
use Prim.Native.Nat.{ℕ, ◌≤◌, ◌<◌, ◌-◌}
use Rattle.comparing.specs.Runs.{differs}
use mathlib.Core.Bool.{false}
use Rattle.comparing.proofs.scan.equal_blocks.Given as goal

abbrev pub invariant-loop-at : goal.invariant-loop-at
invariant-loop-at l = (l.from ≤ l.at) × ((p : ℕ) → p < l.at → l.from ≤ p → differs l.a l.b p ≡ false)

abbrev pub decreases-loop-at : goal.decreases-loop-at
decreases-loop-at l = l.common - l.at
