-- `little_endian::read_numbers` meets its contract.
-- Assumes nothing.
use mathlib.Core.Path.{◌≡◌}
use Prim.Native.Nat.{◌≤◌, ◌-◌}
use mathlib.Core.List.{◌++◌}
use lib.ListN.{length, take}
use Rattle.little_endian.specs.Bytes.{numbers_at}
use Rattle.little_endian.proofs.read_numbers.Given as goal

abbrev pub invariant-loop-number : goal.invariant-loop-number
invariant-loop-number l =
    (l.number-index ≤ length l.initial.numbers) × (length l.numbers ≡ length l.initial.numbers)
    × (take l.number-index l.numbers ++ numbers_at (length l.initial.numbers - l.number-index) l.s l.place ≡ numbers_at (length l.initial.numbers) l.s l.at)
