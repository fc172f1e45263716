-- `little_endian::write_numbers` meets its contract.
-- Assumes nothing.
use mathlib.Core.Path.{◌≡◌}
use Prim.Native.Nat.{◌≤◌}
use lib.ListN.{length, drop}
use lib.Seq.{sets}
use Rattle.little_endian.specs.Bytes.{numbers as numbers_of}
use Rattle.little_endian.proofs.write_numbers.Given as goal

abbrev pub invariant-loop-number : goal.invariant-loop-number
invariant-loop-number l =
    (l.number-index ≤ length l.numbers) × (length l.out ≡ length l.initial.out) × (sets l.out l.place (numbers_of (drop l.number-index l.numbers)) ≡ sets l.initial.out l.at (numbers_of l.numbers))
