-- The numbers that openings and events are refused with where a number of their lines is one that 64 bits do not hold.
--
--   large_in_event      an event
--   large_numbers       an opening, and an event
-- Assumes nothing.
use mathlib.Core.Path.{◌≡◌}
use mathlib.Core.Logic.{inr}
use Prim.Native.Nat.{ℕ, ◌^◌, ◌≤◌}
use native.Mathlib.Omega.{arith}
use Rattle.codes.specs.declared.Code.TheVariants.{Powers}
use Rattle.recovery.specs.Recoverable.{State}
use Rattle.inventory.specs.Model.{add_file, remove_file, add_volume, remove_volume, number_of}
use Rattle.inventory.specs.Claim.{OutOfRange}
use Rattle.inventory.proofs.Openings.{opening-numbers}
use Rattle.inventory.proofs.RangeRefusals.{change_10}
use Rattle.replay.specs.Claim.{Arrival, file_added, volume_added, file_removed, volume_removed, change_by, LargeNumbers}

large_in_event : (t : State) → t.n ≤ 254 → (a : Arrival) (k : ℕ) → 2 ^ 64 ≤ k → number_of t (change_by a) k ≡ 10
unfolding OutOfRange
large_in_event t l file_added k h = (change_10 t add_file k).1 (inr (omega arith))
large_in_event t l volume_added k h = (change_10 t (add_volume Powers) k).1 (inr (omega arith))
large_in_event t l file_removed k h = (change_10 t remove_file k).1 (inr (omega arith))
large_in_event t l volume_removed k h = (change_10 t remove_volume k).1 (inr (omega arith))

pub large_numbers : LargeNumbers
large_numbers = record {
  as_size = λ n sizes a b c i l h. opening-numbers.too_large Powers n sizes a b c i l (omega arith);
  as_first = λ n sizes h. opening-numbers.out_of_range Powers n sizes (inr (omega arith));
  in_event = large_in_event;
}
