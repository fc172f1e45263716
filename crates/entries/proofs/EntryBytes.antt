-- The entries of a list of bytes.
--
--   IsEntryBytes e    the bytes e are those of an entry
--   entries_bytes     so are those of each entry of a list
-- Assumes nothing.
use mathlib.Core.List.{List}
use Prim.Native.Nat.{ℕ, ◌≤◌}
use native.Mathlib.Omega.{arith}
use lib.ListN.{length}
use lib.Seq.{length-take-le}
use Rattle.cut_lists.specs.All.{All, all_none, all_more}
use Rattle.cut_lists.proofs.CutLaws.{cut_induct}
use Rattle.little_endian.specs.Bytes.{Bytes}
use Rattle.little_endian.proofs.Numbers.{bytes_take, bytes_drop}
use Rattle.entries.specs.Entry.{length_of}
use Rattle.entries.specs.Walk.{entries_of}
use Rattle.entries.proofs.EntryLaws.{length_sized}

pub record IsEntryBytes (e : List ℕ) : Type 0 where
  pub bytes : Bytes e
  pub low : 58 ≤ length e

pub entries_bytes : (s : List ℕ) → Bytes s → All IsEntryBytes (entries_of s).pieces
entries_bytes =
    cut_induct length_of (λ s c. Bytes s → All IsEntryBytes c.pieces) (λ b. all_none) (λ s e b. all_none)
    (λ s h k more b.
    let sized = length_sized s k in
    all_more
    (record { bytes = bytes_take (length_of s) s b; low = omega (arith, sized.1, length-take-le (length_of s) s sized.2) })
    (more (bytes_drop (length_of s) s b)))
