-- A running read in lent bytes, there and back.
--
--   read_loaded_back    the bytes of a running read are that running read
-- Assumes nothing.
use mathlib.Core.Path.{◌≡◌, refl, sym, ap, ◌∙◌, subst}
use mathlib.Core.Bool.{Bool, true, false}
use mathlib.Core.List.{List, [], ◌∷◌, flatten}
use Prim.Native.Nat.{ℕ, ◌+◌, ◌*◌, ◌^◌, ◌<◌}
use native.Mathlib.Omega.{arith}
use lib.ListN.{length, take}
use Rattle.entries.specs.declared.Totals.{Totals}
use Rattle.lent_bytes.proofs.PartsInRow.{At, at_part, at_next, at_number, at_open}
use Rattle.list_scan.specs.declared.NameSoFar.{NameSoFar}
use Rattle.list_scan.specs.declared.Scan.{Scan}
use Rattle.little_endian.specs.Bytes.{from_le, to_le, le_at, numbers}
use Rattle.little_endian.proofs.Numbers.{length-to_le}
use Rattle.md5_digest.specs.declared.Md5.{Md5}
use Rattle.md5_blocks.specs.declared.rounds.Words.{Words}
use Rattle.running_read.specs.declared.RunningRead.{RunningRead}
use Rattle.job_bytes.specs.Claim.{HeldMd5, HeldScan, HeldRead, ReadLoadedBack}
use Rattle.job_bytes.specs.Marks.{mark_of, is_marked, name_mark, name_marked}
use Rattle.job_bytes.specs.Reads.{words_bytes, md5_bytes, scan_bytes, read_job_bytes, words_at, md5_at, scan_in, read_job_in}
use Rattle.job_bytes.proofs.ReadLaws.{Sized, length_words, length-md5, length_scan, length_read, words_read, md5_read, scan_read, read_read, read_of}

pub sized : (j : RunningRead) → HeldRead j → Sized j
sized j h = record {
  header = h.header_size;
  control = h.control_held.tail_size;
  head = h.list_held.head_size;
  hash = h.list_held.hash_held.tail_size;
}

-- ---- parts in a row

module _ {f : List ℕ} {i : ℕ} {ps : List (List ℕ)} where
  at_on : {p : List ℕ} (k j : ℕ) → length p ≡ k → i + k ≡ j → At f i (p ∷ ps) → At f j ps
  at_on k j size e a = subst (λ (n : ℕ). At f n ps) e (at_next k size a)

  -- after a number
  past : (k n j : ℕ) → i + k ≡ j → At f i (to_le k n ∷ ps) → At f j ps
  past k n j e a = at_on k j (length-to_le k n) e a

  at_low : (n : ℕ) → n < 256 → At f i (to_le 8 n ∷ ps) → le_at 1 f i ≡ n
  unfolding le_at to_le from_le flatten
  at_low n h a = ap (λ (l : List ℕ). from_le (take 1 l)) a.joined ∙ omega arith

  at_mark : (t : Bool) → At f i (to_le 8 (mark_of t) ∷ ps) → is_marked (le_at 8 f i) ≡ t
  at_mark t a = ap is_marked (at_number 8 (mark_of t) (small t) a) ∙ back t
    where
      small : (t : Bool) → mark_of t < 256 ^ 8
      small true = omega arith
      small false = omega arith

      back : (t : Bool) → is_marked (mark_of t) ≡ t
      back true = refl
      back false = refl

  at_name : (n : NameSoFar) → At f i (to_le 8 (name_mark n) ∷ ps) → name_marked (le_at 8 f i) ≡ n
  at_name n a = ap name_marked (at_number 8 (name_mark n) (small n.allowed n.dots) a) ∙ back n.allowed n.dots
    where
      small : (t u : Bool) → mark_of t + 2 * mark_of u < 256 ^ 8
      small true true = omega arith
      small true false = omega arith
      small false true = omega arith
      small false false = omega arith

      back : (t u : Bool) → name_marked (mark_of t + 2 * mark_of u) ≡ record { allowed = t; dots = u }
      back true true = refl
      back true false = refl
      back false true = refl
      back false false = refl

-- ---- a hash

module _ (f : List ℕ) (i : ℕ) where
  words_back : {ps : List (List ℕ)} (w : Words) → w.a < 2 ^ 32 → w.b < 2 ^ 32 → w.c < 2 ^ 32 → w.d < 2 ^ 32 → At f i (words_bytes w ∷ ps) → words_at f i ≡ w
  unfolding words_bytes
  words_back w a b c d at = let one = at_open (to_le 4 w.a ∷ to_le 4 w.b ∷ to_le 4 w.c ∷ to_le 4 w.d ∷ []) at in
      let two = past 4 w.a (i + 4) refl one in
      let three = past 4 w.b (i + 8) (omega arith) two in
      let four = past 4 w.c (i + 12) (omega arith) three in
      sym
      (words_read f i (sym (at_number 4 w.a a one)) (sym (at_number 4 w.b b two)) (sym (at_number 4 w.c c three))
      (sym (at_number 4 w.d d four)))

  md5_back : {ps : List (List ℕ)} (h : Md5) → HeldMd5 h → At f i (md5_bytes h ∷ ps) → md5_at f i ≡ h
  unfolding md5_bytes
  md5_back h k at = let one = at_open (words_bytes h.words ∷ h.tail ∷ to_le 8 h.total ∷ []) at in
      let two = at_on 16 (i + 16) (length_words h.words) refl one in
      let three = at_on 64 (i + 80) k.tail_size (omega arith) two in
      sym
      (md5_read f i (sym (words_back h.words k.a_fits k.b_fits k.c_fits k.d_fits one)) (sym (at_part 64 k.tail_size two))
      (sym (at_number 8 h.total k.total_fits three)))

-- ---- a scan

scan_back : (f : List ℕ) {ps : List (List ℕ)} (sc : Scan) → HeldScan sc → At f 192 (scan_bytes sc ∷ ps) → scan_in f ≡ sc
unfolding scan_bytes numbers flatten
scan_back f sc k at = let t : Totals = sc.totals in
    let six : List (List ℕ) =
    to_le 8 sc.at ∷ to_le 8 sc.low ∷ to_le 8 (name_mark sc.named) ∷ to_le 8 t.entries ∷ to_le 8 t.saved ∷ to_le 8 t.greatest ∷ [] in
    let first = at_open (sc.head ∷ flatten six ∷ md5_bytes sc.hash ∷ []) at in
    let one = at_open six (at_on 56 248 k.head_size refl first) in
    let two = past 8 sc.at 256 refl one in
    let three = past 8 sc.low 264 refl two in
    let four = past 8 (name_mark sc.named) 272 refl three in
    let five = past 8 t.entries 280 refl four in
    let last = past 8 t.saved 288 refl five in
    let hash = past 8 t.greatest 296 refl last in
    sym
    (scan_read f (sym (at_part 56 k.head_size first)) (sym (at_number 8 sc.at k.at_fits one)) (sym (at_low sc.low k.low_fits two))
    (sym (at_name sc.named three)) refl (sym (at_number 8 t.entries k.entries_fit four)) (sym (at_number 8 t.saved k.saved_fit five))
    (sym (at_number 8 t.greatest k.greatest_fits last)) (sym (md5_back f 296 sc.hash k.hash_held hash)))

-- ---- a job

read_back : (f : List ℕ) (j : RunningRead) → HeldRead j → f ≡ read_job_bytes j → read_job_in f ≡ j
unfolding read_job_bytes
read_back f j h e = let z = sized j h in
    let parts : List (List ℕ) = to_le 8 j.total ∷ j.header ∷ md5_bytes j.control ∷ scan_bytes j.list ∷ to_le 8 (mark_of j.ended) ∷ [] in
    let one : At f 0 parts = record { joined = e } in
    let two = past 8 j.total 8 refl one in
    let three = at_on 96 104 z.header refl two in
    let four = at_on 88 192 (length-md5 j.control z.control) refl three in
    let last = at_on 192 384 (length_scan j.list z.head z.hash) refl four in
    sym
    (read_read f (sym (at_number 8 j.total h.total_fits one)) (sym (at_part 96 z.header two))
    (sym (md5_back f 104 j.control h.control_held three)) (sym (scan_back f j.list h.list_held four)) (sym (at_mark j.ended last)) refl)

pub read_loaded_back : ReadLoadedBack
read_loaded_back j h = read_of (read_job_bytes j) (length_read j (sized j h)) ∙ read_back (read_job_bytes j) j h refl
