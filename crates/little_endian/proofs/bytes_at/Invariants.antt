-- `little_endian::bytes_at` meets its contract. The loop's invariant: the bytes so far are those there.
-- Assumes nothing.
use Rattle.std.proofs.Common.{◌≡◌, ℕ, ◌+◌, ◌<◌, length, slice_index}
use Rattle.little_endian.proofs.bytes_at.Given as goal

abbrev pub invariant-loop-k : goal.invariant-loop-k
invariant-loop-k g l = (length l.byte-items ≡ g.row.N) × ((j : ℕ) → j < l.k → slice_index l.byte-items j ≡ slice_index l.s (l.at + j))
