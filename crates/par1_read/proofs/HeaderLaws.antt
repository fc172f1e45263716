-- What reading gives depends on the first 96 bytes of the file, and no more of it.
--
--   header_alone    reading from the header alone
-- Assumes nothing.
use Rattle.std.specs.Prelude.{Ok, Err}
use mathlib.Core.Path.{◌≡◌, refl}
use mathlib.Core.List.{List}
use Prim.Native.Nat.{ℕ, ◌+◌, ◌≤◌}
use native.Mathlib.Omega.{arith}
use lib.ListN.{take}
use Rattle.little_endian.specs.Bytes.{le_at}
use Rattle.lent_bytes.proofs.PartLaws.{part_take, number_take}
use Rattle.entries.specs.Walk.{Walked}
use Rattle.par1_rules.specs.Layout.{list_size_of, data_start_of, data_size_of}
use Rattle.par1_rules.specs.Rules.{layout_allowed}
use Rattle.par1_read.specs.Claim.{HeaderAlone}
use Rattle.par1_read.specs.Reading.{header_refusal, control_refusal, totals_refusal, list_refusal, refusal_from}
use Rattle.par1_read.specs.Reading.{saved_in, parts_from, read_from}

module _ (f : List ℕ) where
  field : (k i : ℕ) → i + k ≤ 96 → le_at k (take 96 f) i ≡ le_at k f i
  field k i h = number_take k i 96 f h

  layout_alone : (n : ℕ) → layout_allowed (take 96 f) n ≡ layout_allowed f n
  unfolding layout_allowed
  layout_alone n = simp (field 8 64 (omega arith), field 8 72 (omega arith), field 8 80 (omega arith), field 8 88 (omega arith))

  header_refusal_lem : (n : ℕ) → header_refusal (take 96 f) n ≡ header_refusal f n
  unfolding header_refusal
  header_refusal_lem n = simp (field 8 0 (omega arith), field 4 8 (omega arith), layout_alone n)

  control_refusal_lem : (digest : List ℕ) → control_refusal (take 96 f) digest ≡ control_refusal f digest
  unfolding control_refusal
  control_refusal_lem digest = simp (part_take 16 16 96 f (omega arith))

  list_refusal_lem : (set : List ℕ) (w : Walked) → list_refusal (take 96 f) set w ≡ list_refusal f set w
  unfolding totals_refusal
  list_refusal_lem set (Ok t) =
      simp (part_take 32 16 96 f (omega arith), field 8 48 (omega arith), field 8 56 (omega arith), field 8 88 (omega arith))
  list_refusal_lem set (Err r) = refl

  parts_alone : (saved : ℕ) → parts_from (take 96 f) saved ≡ parts_from f saved
  parts_alone saved = let list_size_lem : list_size_of (take 96 f) ≡ list_size_of f = field 8 72 (omega arith) in
      let data_start_lem : data_start_of (take 96 f) ≡ data_start_of f = field 8 80 (omega arith) in
      let data_size_lem : data_size_of (take 96 f) ≡ data_size_of f = field 8 88 (omega arith) in
      simp (field 4 8 (omega arith), field 4 12 (omega arith), field 8 48 (omega arith), field 8 56 (omega arith), list_size_lem, data_start_lem, data_size_lem)

pub header_alone : HeaderAlone
unfolding read_from refusal_from
header_alone f n digest set w = simp (header_refusal_lem f n, control_refusal_lem f digest, list_refusal_lem f set w, parts_alone f (saved_in w))
