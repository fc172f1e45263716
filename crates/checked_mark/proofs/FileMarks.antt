-- Files that differ in marks and control hashes only: the calls that read them give the same.
--
--   part_first, part_later     the same part of both headers
--   read_same       reading
--   volume_number, data_size_lem     the numbers that a catalog has of a volume
--   listing_same, input_same     the listing
--   chunks_read     reading in chunks is reading, however a file is cut
-- Assumes nothing.
use Rattle.std.specs.Prelude.{Ok, Err}
use mathlib.Core.Path.{◌≡◌, refl, sym, ap, ap₂, ◌∙◌}
use mathlib.Core.Bool.{Bool, true, false, cond}
use mathlib.Core.List.{List, ◌++◌, map, flatten, map-id}
use Prim.Native.Nat.{ℕ, ◌+◌, ◌≤◌}
use native.Mathlib.Omega.{arith}
use lib.Dec.{leb}
use lib.ListN.{length, take, drop}
use lib.Seq.{drop-drop}
use Rattle.entries.specs.Walk.{Walked}
use Rattle.entries.specs.Walk.{walk_of}
use Rattle.lent_bytes.specs.Equal.{equal}
use Rattle.lent_bytes.proofs.EqualLaws.{equal-same, equal_true}
use Rattle.lent_bytes.proofs.PartLaws.{part_take}
use Rattle.listing.specs.Lines.{refused_line, head_line}
use Rattle.listing.specs.Listing.{listing_by, listing_of, input_listing}
use Rattle.little_endian.specs.Bytes.{from_le, le_at}
use Rattle.par1_read.specs.Reading.{header_refusal, control_refusal, totals_refusal, list_refusal, refusal_from, saved_in, parts_from, read_from, entries_in, read_of}
use Rattle.par1_read.specs.Reading.{Reading}
use Rattle.par1_rules.specs.Hashes.{set_hash, control_hash}
use Rattle.par1_rules.specs.Layout.{control_hash_of, volume_number_of, list_size_of, data_start_of, data_size_of, list_of}
use Rattle.par1_rules.specs.Rules.{layout_allowed}
use Rattle.refusals.specs.Limits.{max_listed_length}
use Rattle.refusals.specs.Tests.{bare, test}
use Rattle.running_read.specs.Claim.{reading}
use Rattle.running_read.proofs.Chunks.{read_chunked}
use Rattle.checked_mark.specs.Claim.{read_in_chunks}
use Rattle.checked_mark.specs.Marks.{Pairs, EntryAlike, AlikeButMarks}
use Rattle.checked_mark.proofs.EntryMarks.{set_hash_same, lines_same}
use Rattle.checked_mark.proofs.ListMarks.{walked_alike, walk_same}

module _ {f g : List ℕ} (a : AlikeButMarks f g) where
  -- ---- the header

  part_first : (i k : ℕ) → i + k ≤ 16 → take k (drop i f) ≡ take k (drop i g)
  part_first i k h = sym (part_take i k 16 f h) ∙ ap (λ (s : List ℕ). take k (drop i s)) a.first_same ∙ part_take i k 16 g h

  part_later : (i k : ℕ) → i + k ≤ 64 → take k (drop (32 + i) f) ≡ take k (drop (32 + i) g)
  part_later i k h = cc (drop-drop i 32 f, part_take i k 64 (drop 32 f) h, a.header_same, part_take i k 64 (drop 32 g) h, drop-drop i 32 g)

  first : (k i : ℕ) → i + k ≤ 16 → le_at k f i ≡ le_at k g i
  unfolding le_at
  first k i h = ap from_le (part_first i k h)

  later : (k i : ℕ) → i + k ≤ 64 → le_at k f (32 + i) ≡ le_at k g (32 + i)
  unfolding le_at
  later k i h = ap from_le (part_later i k h)

  pub volume_number : volume_number_of f ≡ volume_number_of g
  volume_number = later 8 16 (omega arith)

  pub data_size_lem : data_size_of f ≡ data_size_of g
  data_size_lem = later 8 56 (omega arith)

  -- ---- reading

  layout_same : (n : ℕ) → layout_allowed f n ≡ layout_allowed g n
  unfolding layout_allowed
  layout_same n = simp (later 8 32 (omega arith), later 8 40 (omega arith), later 8 48 (omega arith), later 8 56 (omega arith))

  header_same : (n : ℕ) → header_refusal f n ≡ header_refusal g n
  unfolding header_refusal
  header_same n = simp (first 8 0 (omega arith), first 4 8 (omega arith), layout_same n)

  control_same : control_refusal f (control_hash f) ≡ control_refusal g (control_hash g)
  unfolding control_refusal
  control_same = ap (λ (b : Bool). test 5 b 0) (by (equal (control_hash_of f) (control_hash f)) (equal (control_hash_of g) (control_hash g)) refl refl)
    where
      by : (b c : Bool) → equal (control_hash_of f) (control_hash f) ≡ b → equal (control_hash_of g) (control_hash g) ≡ c → b ≡ c
      by true c p q = sym (sym q ∙ equal-same (a.controls_alike.0 (equal_true _ _ p)))
      by false true p q = sym p ∙ equal-same (a.controls_alike.1 (equal_true _ _ q))
      by false false p q = refl

  list_same : (set : List ℕ) (w : Walked) → list_refusal f set w ≡ list_refusal g set w
  unfolding totals_refusal
  list_same set (Ok t) =
      simp (part_later 0 16 (omega arith), later 8 16 (omega arith), later 8 24 (omega arith), later 8 56 (omega arith))
  list_same set (Err r) = refl

  parts_same : (saved : ℕ) → parts_from f saved ≡ parts_from g saved
  parts_same saved = let list_size_lem : list_size_of f ≡ list_size_of g = later 8 40 (omega arith) in
      let data_start_lem : data_start_of f ≡ data_start_of g = later 8 48 (omega arith) in
      simp (first 4 8 (omega arith), first 4 12 (omega arith), later 8 16 (omega arith), later 8 24 (omega arith), list_size_lem, data_start_lem, data_size_lem)

  from_same : (n : ℕ) (set : List ℕ) (w : Walked) → read_from f n (control_hash f) set w ≡ read_from g n (control_hash g) set w
  unfolding read_from refusal_from
  from_same n set w = simp (header_same n, control_same, list_same set w, parts_same (saved_in w))

  pub entries_alike : Pairs EntryAlike (entries_in f) (entries_in g)
  entries_alike = (walked_alike a.lists_alike).entries_alike

  pub read_same : read_of f ≡ read_of g
  unfolding read_of
  read_same =
      from_same (length f) (set_hash (entries_in f)) (walk_of (list_of f))
      ∙ ap (λ (n : ℕ). read_from g n (control_hash g) (set_hash (entries_in f)) (walk_of (list_of f))) a.length-same
      ∙ ap₂ (λ (set : List ℕ) (w : Walked). read_from g (length g) (control_hash g) set w) (set_hash_same entries_alike) (walk_same a.lists_alike)

  -- ---- the listing

  by_same : (r : Reading) → listing_by r f ≡ listing_by r g
  by_same (Ok p) = ap (λ (t : List ℕ). head_line p.number p.entries p.saved ++ t) (lines_same 0 entries_alike)
  by_same (Err r) = refl

  pub listing_same : listing_of f ≡ listing_of g
  unfolding listing_of
  listing_same = ap (λ (r : Reading). listing_by r f) read_same ∙ by_same (read_of g)

  pub input_same : input_listing f ≡ input_listing g
  unfolding input_listing
  input_same = ap₂ (λ (n : ℕ) (t : List ℕ). cond (leb n max_listed_length) t (refused_line (bare 1))) a.length-same listing_same

-- ---- reading in chunks

pub chunks_read : (cs : List (List ℕ)) → read_in_chunks cs ≡ read_of (flatten cs)
chunks_read cs =
    let e : reading (read_in_chunks cs) ≡ reading (read_of (flatten (map (λ c. c) cs))) = read_chunked.cut_anyhow (record {}) cs (record {}) in
    let f : read_in_chunks cs ≡ read_of (flatten (map (λ c. c) cs)) = cc in
    f ∙ ap (λ (ds : List (List ℕ)). read_of (flatten ds)) (map-id cs)
