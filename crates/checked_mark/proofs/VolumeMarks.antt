-- Files written from lists that differ in marks only.
--
--   lists_length     such lists are as long as each other
--   volume_parts     a written file, part by part
--   volume_alike     those of two such lists differ in marks and control hashes only
--   written_alike    the claim
-- Assumes nothing.
use Rattle.std.specs.Prelude.{Ok}
use mathlib.Core.Path.{◌≡◌, refl, sym, ap, ap₂, ◌∙◌, subst}
use mathlib.Core.List.{List, [], ◌∷◌, ◌++◌, append_assoc, append-nil, flatten}
use Prim.Native.Nat.{ℕ, ◌+◌, ◌^◌, ◌<◌}
use lib.ListN.{length, take, drop, length-append}
use Rattle.codes.specs.declared.Code.{Code}
use Rattle.entries.specs.Walk.{entries_of, walk_of}
use Rattle.entries.specs.Walk.{Walked}
use Rattle.lent_bytes.specs.Writing.{written_unless}
use Rattle.lent_bytes.specs.Writing.{Writing}
use Rattle.lent_bytes.proofs.PartsInRow.{At, at_part, at_next}
use Rattle.lent_bytes.proofs.WritingLaws.{unless_tells}
use Rattle.little_endian.specs.Bytes.{to_le}
use Rattle.little_endian.proofs.Numbers.{length-to_le}
use Rattle.little_endian.proofs.NumberLists.{length-numbers}
use Rattle.md5_digest.specs.Digest.{md5}
use Rattle.par1.proofs.ReadWritten.{ListPassed, list_passed, volume_back, volume_written}
use Rattle.par1_read.proofs.ReadingLaws.{read_tells}
use Rattle.par1_rules.specs.Hashes.{set_hash}
use Rattle.par1_rules.specs.Layout.{signature, version_for}
use Rattle.par1_rules.proofs.HashLaws.{length-md5, length-set_hash}
use Rattle.par1_write.specs.VolumeWriting.{number_bytes, body_bytes, head_bytes, volume_bytes, walk_refusal, write_volume_of}
use Rattle.par1_write.proofs.VolumeWritingLaws.{VolumePassed, length_volume}
use Rattle.checked_mark.specs.Claim.{WrittenAlike}
use Rattle.checked_mark.specs.Marks.{ListsAlike, rest-same, entry_more, AlikeButMarks}
use Rattle.checked_mark.proofs.AnswerLaws.{answer_same}
use Rattle.checked_mark.proofs.EntryMarks.{set_hash_same}
use Rattle.checked_mark.proofs.ListMarks.{walked_alike, walk_same}
use Rattle.checked_mark.proofs.PairLaws.{count_same}

lists_length : {s t : List ℕ} → ListsAlike s t → length s ≡ length t
lists_length (rest-same s) = refl
lists_length (entry_more {e} {g} {s} {t} z a l) = length-append e s ∙ ap₂ ◌+◌ a.length-same (lists_length l) ∙ sym (length-append g t)

-- ---- the parts of a written file

module _ (code : Code) (program number : ℕ) (list area : List ℕ) where
  abbrev body : List ℕ
  body = body_bytes (length (entries_of list).pieces) number list area

  abbrev first : List ℕ
  first = flatten (to_le 8 signature ∷ to_le 4 (version_for code) ∷ to_le 4 program ∷ [])

  abbrev header : List ℕ
  header = set_hash (entries_of list).pieces ++ number_bytes number (length (entries_of list).pieces) (length list) (length area)

  volume_parts : At (volume_bytes code program number list area) 0 (first ∷ md5 body ∷ header ∷ list ∷ area ∷ [])
  unfolding volume_bytes head_bytes body_bytes flatten
  volume_parts = record { joined = simp (append_assoc, append-nil) }

  length_first : length first ≡ 16
  unfolding flatten
  length_first = simp (length-append, length-to_le)

  length_header : length header ≡ 64
  length_header = simp (length-append, length-set_hash, length-numbers)

  first_is : take 16 (volume_bytes code program number list area) ≡ first
  first_is = at_part 16 length_first volume_parts

  header_is : take 64 (drop 32 (volume_bytes code program number list area)) ≡ header
  header_is = at_part 64 length_header (at_next 16 (length-md5 body) (at_next 16 length_first volume_parts))

-- ---- two of them

module _ (code : Code) (program number : ℕ) (area : List ℕ) {s t : List ℕ} (l : ListsAlike s t) where
  length-same : length (volume_bytes code program number s area) ≡ length (volume_bytes code program number t area)
  length-same = simp (length_volume, lists_length l)

  header_same : header code program number s area ≡ header code program number t area
  header_same = let es = (walked_alike l).entries_alike in
      simp (count_same es, lists_length l, set_hash_same es)

  passed_alike : ListPassed number s (length area) → ListPassed number t (length area)
  passed_alike p = record {
    totals_of_lem = p.totals_of_lem;
    walk_is = sym (walk_same l) ∙ p.walk_is;
    tests = subst (λ (n : ℕ). VolumePassed number p.totals_of_lem n (length area)) (lists_length l) p.tests;
  }

  pub volume_alike : program < 2 ^ 32 → number < 2 ^ 64 → ListPassed number s (length area)
      → AlikeButMarks (volume_bytes code program number s area) (volume_bytes code program number t area)
  volume_alike p v passed = let one = volume_back code program number s area p v passed in
      let two = volume_back code program number t area p v (passed_alike passed) in
      let right = (read_tells (volume_bytes code program number s area) _ one.read_is).tests.control_is in
      let other = (read_tells (volume_bytes code program number t area) _ two.read_is).tests.control_is in
      record {
        length-same = length-same;
        first_same = first_is code program number s area ∙ sym (first_is code program number t area);
        header_same = header_is code program number s area ∙ header_same ∙ sym (header_is code program number t area);
        lists_alike = rw (one.list_is, two.list_is) l;
        data_same = one.data_is ∙ sym two.data_is;
        controls_alike = (λ e. other, λ e. right);
      }

-- ---- the claim

module _ (code : Code) (program number : ℕ) (area out : List ℕ) {s t : List ℕ} (l : ListsAlike s t) where
  abbrev one : Writing × List ℕ
  one = write_volume_of code program number s area out

  abbrev two : Writing × List ℕ
  two = write_volume_of code program number t area out

  answers-same : one.0 ≡ two.0
  unfolding write_volume_of
  answers-same =
      answer_same (walk_refusal number (walk_of s) (length s) (length area)) (volume_bytes code program number s area) (volume_bytes code program number t area) out
      (length-same code program number area l)
      ∙ ap₂ (λ (w : Walked) (n : ℕ). (written_unless (walk_refusal number w n (length area)) (volume_bytes code program number t area) out).0)
      (walk_same l) (lists_length l)

  files_alike : program < 2 ^ 32 → number < 2 ^ 64 → (n : ℕ) → one.0 ≡ Ok n → AlikeButMarks (take n one.1) (take n two.1)
  unfolding write_volume_of
  files_alike p v n e = let told : one ≡ (Ok n, one.1) = ap (λ (w : Writing). (w, one.1)) e in
      let other : two ≡ (Ok n, two.1) = ap (λ (w : Writing). (w, two.1)) (sym answers-same ∙ e) in
      let none = (unless_tells (walk_refusal number (walk_of s) (length s) (length area)) (volume_bytes code program number s area) out told).none in
      rw (volume_written code program number s area out n one.1 told, volume_written code program number t area out n two.1 other)
      (volume_alike code program number area l p v (list_passed number s (length area) none))

pub written_alike : WrittenAlike
written_alike code program number s t area out p v l = (answers-same code program number area out l, files_alike code program number area out l p v)
