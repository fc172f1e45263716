-- What is promised of numbers in lists of bytes, at any width and from any place on.
--
--   ReadWritten   reading what was written gives the number, as far as the width holds it
--   WriteRead     writing what was read changes nothing
-- Assumes nothing.
use Rattle.std.specs.Prelude.{◌≡◌, List, ℕ, ◌+◌, ◌%◌, ◌^◌, ◌≤◌, length}
use Rattle.std.proofs.lemmas.List.Edits.{sets}
use Rattle.little_endian.specs.Bytes.{Bytes, to_le, le_at}

-- proved: proofs/Writing.antt, `read_written`
abbrev pub ReadWritten : Type 0
ReadWritten = (k n : ℕ) (s : List ℕ) (i : ℕ) → i + k ≤ length s → le_at k (sets s i (to_le k n)) i ≡ n % 256 ^ k

-- proved: proofs/Writing.antt, `write_read`
abbrev pub WriteRead : Type 0
WriteRead = (k : ℕ) (s : List ℕ) (i : ℕ) → Bytes s → sets s i (to_le k (le_at k s i)) ≡ s
