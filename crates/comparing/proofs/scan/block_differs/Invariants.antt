-- `comparing::scan::block_differs` meets its contract. The loop's invariant: while nothing was found, the bytes passed agree.
-- Assumes nothing.
use mathlib.Core.Path.{◌≡◌}
use Prim.Native.Nat.{ℕ, ◌≤◌, ◌<◌, ◌+◌}
use lib.ListN.{get_or}
use Rattle.comparing.proofs.scan.block_differs.Given as goal

abbrev pub invariant-loop-i : goal.invariant-loop-i
invariant-loop-i l = l.found ≡ 0 → (p : ℕ) → p < l.at + l.i → l.at ≤ p → get_or l.a p 0 ≡ get_or l.b p 0
