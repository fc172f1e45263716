-- A number written into a list of bytes from any place on: `sets s i (to_le k n)`. The list keeps its length (lib.Seq's `length-sets`).
--
--   read_written    reading what was written gives the number modulo 256 ^ k
--   write_read      writing what was read changes nothing
-- Assumes nothing.
use mathlib.Core.Path.{◌≡◌, refl, sym, ap, ◌∙◌}
use Prim.Native.Nat.{ℕ, zero, suc, ◌/◌, ◌%◌}
use native.Mathlib.Omega.{arith}
use lib.ListN.{take, drop, get_or}
use lib.Seq.{sets, set-get_or}
use Rattle.little_endian.specs.Bytes.{from_le, to_le, le_at}
use Rattle.little_endian.specs.Claim.{ReadWritten, WriteRead}
use Rattle.little_endian.proofs.Numbers.{length-to_le, from_to}
use Rattle.little_endian.proofs.Reading.{le_at_suc}
use Rattle.little_endian.proofs.Stores.{part_sets}

-- ---- there and back

pub read_written : ReadWritten
unfolding le_at
read_written k n s i h = let v = to_le k n in
    ap (λ (m : ℕ). from_le (take m (drop i (sets s i v)))) (sym (length-to_le k n))
    ∙ ap from_le (part_sets s i v (omega (arith, length-to_le k n)))
    ∙ from_to k n

pub write_read : WriteRead
unfolding to_le
write_read zero s i h = refl
write_read (suc k) s i h = let low : le_at (suc k) s i % 256 ≡ get_or s i 0 = omega (arith, le_at_suc k s i, h i) in
    let rest : le_at (suc k) s i / 256 ≡ le_at k s (suc i) = omega (arith, le_at_suc k s i, h i) in
    rw (low, rest, set-get_or, write_read k s (suc i) h)
