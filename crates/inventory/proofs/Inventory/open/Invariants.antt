-- `inventory::Inventory::open` meets its contract.
-- Assumes nothing.
use mathlib.Core.Path.{◌≡◌}
use Prim.Native.Nat.{ℕ, ◌≤◌, ◌<◌}
use lib.ListN.{get_or}
use Rattle.inventory.specs.Steps.{nonempty_of}
use Rattle.inventory.proofs.Inventory.open.Given as goal

abbrev pub invariant-loop-k : goal.invariant-loop-k
invariant-loop-k l = (l.nonempty ≡ nonempty_of l.sizes l.k) × ((j : ℕ) → j < l.k → get_or l.sizes j 0 ≤ 16777216)
