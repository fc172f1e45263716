-- Volumes and indices of files whose marks differ.
--
--   entry_alike      the entries of two such files
--   lists_alike      the lists of such files
--   data_same        the parity is the same
--   set_alike        their volumes or indices
--   some_marked      the claim
-- Assumes nothing.
use mathlib.Core.Path.{◌≡◌, refl, sym, ap, ap₂, ◌∙◌, subst, fun_ext}
use mathlib.Core.List.{List, [], ◌∷◌, map, foldr, flatten}
use Prim.Native.Nat.{ℕ, ◌+◌, ◌-◌, ◌^◌, ◌<◌, max}
use native.Mathlib.Omega.{arith}
use lib.ListN.{length, take, drop, get_or, length-append, length-map, get_or-map}
use Rattle.codes.specs.declared.Code.{Code}
use Rattle.cut_lists.specs.All.{All, all_none, all_more}
use Rattle.entries.specs.Entry.{status_of, is_saved, is_counted, file_size_allowed, name_allowed}
use Rattle.entries.specs.Walk.{entries_of}
use Rattle.entries.proofs.EntryLaws.{is_entry}
use Rattle.entries.proofs.FirstFaults.{sized_right}
use Rattle.lent_bytes.proofs.PartsInRow.{At, at_part, at_next}
use Rattle.little_endian.specs.Bytes.{to_le}
use Rattle.little_endian.proofs.Numbers.{length-to_le}
use Rattle.md5_digest.specs.Digest.{md5}
use Rattle.par1.proofs.CheckingLaws.{lone_tells}
use Rattle.par1_rules.specs.Hashes.{md5_first}
use Rattle.par1_rules.specs.Layout.{version_for, list_of}
use Rattle.par1_set.specs.Claim.{FileBack}
use Rattle.par1_set.specs.Files.{File, no_file, saved_files, file_count, contents_of, entry_for, entries_for, list_for, data_size_for, FileRight}
use Rattle.par1_set.specs.Volume.{bytes_for, data_for, VolumeRight, IndexRight}
use Rattle.par1_set.proofs.FileEntries.{entries_of_lem}
use Rattle.par1_set.proofs.Layouts.{bytes_are}
use Rattle.par1_set.proofs.SetLaws.{SetPassed, set_back, set_passed, set_read_back}
use Rattle.par1_set.proofs.Sets.{volume_set, index_set}
use Rattle.par1_write.specs.EntryWriting.{entry_bytes}
use Rattle.par1_write.proofs.EntryWritingLaws.{length-entry}
use Rattle.parity.specs.Coefficient.{rule_of}
use Rattle.checked_mark.specs.Claim.{Remarked, SomeMarked}
use Rattle.checked_mark.specs.Marks.{unmarked, Pairs, pairs_none, pairs_more, EntryAlike, SizeRight, ListsAlike, rest-same, entry_more, FileAlike}
use Rattle.checked_mark.proofs.EntryMarks.{saved_same}
use Rattle.checked_mark.proofs.PairLaws.{kept_same}
use Rattle.checked_mark.proofs.VolumeMarks.{volume_alike}

-- ---- an entry

entry_sized : {x : File} → FileBack x → SizeRight (entry_for x)
entry_sized {x} b = let e : List ℕ = entry_for x in
    let i = is_entry (sym (b.first_is [])) in
    record {
      fills = (lone_tells e b.lone_is).fills;
      size_right = sized_right (length e) (length e) i.even i.low (omega arith);
    }

module _ (m : List ℕ) (status : ℕ) (name : List ℕ) where
  entry_parts : At (entry_bytes m status name) 0 (to_le 8 (56 + length name) ∷ to_le 8 status ∷ to_le 8 (length m) ∷ md5 m ∷ md5_first m ∷ name ∷ [])
  unfolding entry_bytes
  entry_parts = record { joined = refl }

  size_is : take 8 (entry_bytes m status name) ≡ to_le 8 (56 + length name)
  size_is = at_part 8 (length-to_le 8 (56 + length name)) entry_parts

  rest_is : drop 16 (entry_bytes m status name) ≡ flatten (to_le 8 (length m) ∷ md5 m ∷ md5_first m ∷ name ∷ [])
  rest_is = (at_next 8 (length-to_le 8 status) (at_next 8 (length-to_le 8 (56 + length name)) entry_parts)).joined

length-same : {x y : File} → FileAlike x y → length (entry_for x) ≡ length (entry_for y)
length-same a = simp (length-entry, a.name_same)

entry_alike : {x y : File} → FileBack x → FileBack y → FileAlike x y → EntryAlike (entry_for x) (entry_for y)
entry_alike b c a = record {
  length-same = length-same a;
  size_same = simp (size_is, a.name_same);
  status_alike = ap unmarked b.status_is ∙ a.status_alike ∙ sym (ap unmarked c.status_is);
  rest-same = simp (rest_is, a.contents_same, a.name_same);
}

-- ---- all entries

lists_alike : {fs gs : List File} → All FileBack fs → All FileBack gs → Pairs FileAlike fs gs → ListsAlike (list_for fs) (list_for gs)
unfolding flatten
lists_alike all_none all_none pairs_none = rest-same []
lists_alike all_none (all_more c cs) p = elim p [ ]
lists_alike (all_more b bs) all_none p = elim p [ ]
lists_alike (all_more b bs) (all_more c cs) (pairs_more a ps) = entry_more (entry_sized b) (entry_alike b c a) (lists_alike bs cs ps)

list_length : {fs gs : List File} → Pairs FileAlike fs gs → length (list_for fs) ≡ length (list_for gs)
unfolding flatten
list_length pairs_none = refl
list_length (pairs_more a ps) = simp (length-append, length-same a, list_length ps)

files_right : {fs gs : List File} → Pairs FileAlike fs gs → All FileRight fs → All FileRight gs
files_right pairs_none all_none = all_none
files_right (pairs_more a ps) (all_more r rs) =
    all_more
    (record {
      size_right = ap (λ (m : List ℕ). file_size_allowed (length m)) (sym a.contents_same) ∙ r.size_right;
      status_right = a.status_fits;
      name_right = ap name_allowed (sym a.name_same) ∙ r.name_right;
    })
    (files_right ps rs)

-- ---- the parity

module _ {fs gs : List File} (ps : Pairs FileAlike fs gs) where
  saved_contents : map (λ x. x.contents) (saved_files fs) ≡ map (λ x. x.contents) (saved_files gs)
  saved_contents =
      kept_same (λ x. x.contents) (λ x. is_saved x.status) (λ x y a. a.contents_same) (λ x y a. saved_same _ _ a.status_alike) ps

  count_is : file_count fs ≡ file_count gs
  count_is = sym (length-map (saved_files fs) (λ x. x.contents)) ∙ ap length saved_contents ∙ length-map (saved_files gs) (λ x. x.contents)

  contents_are : contents_of fs ≡ contents_of gs
  contents_are =
      fun_ext
      (λ f. sym (get_or-map (λ x. x.contents) (saved_files fs) (f - 1) no_file)
      ∙ ap (λ (ms : List (List ℕ)). get_or ms (f - 1) []) saved_contents
      ∙ get_or-map (λ x. x.contents) (saved_files gs) (f - 1) no_file)

  data_size_lem : data_size_for fs ≡ data_size_for gs
  unfolding is_counted
  data_size_lem =
      ap (foldr max 0)
      (kept_same (λ x. length x.contents) (λ x. is_counted x.status) (λ x y a. ap length a.contents_same)
      (λ x y a. saved_same _ _ a.status_alike) ps)

  data_same : (rule : ℕ → ℕ → ℕ) (v : ℕ) → data_for rule v fs ≡ data_for rule v gs
  data_same rule v = simp (count_is, contents_are, data_size_lem)

-- ---- volumes and indices

statuses_are : {fs : List File} → All FileBack fs → map (λ e. status_of e) (entries_for fs) ≡ map (λ x. x.status) fs
statuses_are all_none = refl
statuses_are (all_more b bs) = ap₂ ◌∷◌ b.status_is (statuses_are bs)

module _ {v : ℕ} {fs gs : List File} {area : List ℕ} (one : SetPassed v fs area) (two : SetPassed v gs area) (ps : Pairs FileAlike fs gs)
    (code : Code) (program : ℕ) (p : program < 2 ^ 32) (small : v < 2 ^ 64) where
  statuses_same : list_for fs ≡ list_for gs → map (λ x. x.status) fs ≡ map (λ x. x.status) gs
  statuses_same e =
      let same : entries_for fs ≡ entries_for gs =
      ap (λ c. c.pieces) (sym (entries_of_lem (set_back one)) ∙ ap (λ (s : List ℕ). entries_of s) e ∙ entries_of_lem (set_back two)) in
      sym (statuses_are (set_back one)) ∙ ap (λ (es : List (List ℕ)). map (λ e. status_of e) es) same ∙ statuses_are (set_back two)

  set_alike : Remarked (bytes_for (version_for code) program v fs area) (bytes_for (version_for code) program v gs area) fs gs
  set_alike = record {
    alike =
        rw (← bytes_are (set_back one) v area code program, ← bytes_are (set_back two) v area code program)
        (volume_alike code program v area (lists_alike (set_back one) (set_back two) ps) p small (set_passed one));
    differ = λ e.
        statuses_same
        (sym (set_read_back one code program p small).list_is ∙ ap (λ (f : List ℕ). list_of f) e ∙ (set_read_back two code program p small).list_is);
  }

-- ---- the claim

volume_right : {v : ℕ} {fs gs : List File} → Pairs FileAlike fs gs → VolumeRight v fs → VolumeRight v gs
volume_right ps r = record {
  files_right = files_right ps r.files_right;
  volume_low = r.volume_low;
  volume_high = omega (arith, r.volume_high, count_is ps);
  count_low = omega (arith, r.count_low, count_is ps);
  length_right = omega (arith, r.length_right, list_length ps, data_size_lem ps);
}

index_right : {fs gs : List File} {comment : List ℕ} → Pairs FileAlike fs gs → IndexRight fs comment → IndexRight gs comment
index_right ps r = record {
  files_right = files_right ps r.files_right;
  count_high = omega (arith, r.count_high, count_is ps);
  comment_right = r.comment_right;
  length_right = omega (arith, r.length_right, list_length ps);
}

pub some_marked : SomeMarked
some_marked = record {
  volumes = λ code program v fs gs p right ps.
      let other = volume_right ps right in
      let area : List ℕ = data_for (rule_of code) v fs in
      let two : SetPassed v gs area = rw (data_same ps (rule_of code) v) (volume_set other (rule_of code)) in
      let made : Remarked (bytes_for (version_for code) program v fs area) (bytes_for (version_for code) program v gs area) fs gs =
      set_alike (volume_set right (rule_of code)) two ps code program p (omega (arith, right.volume_high)) in
      (other, subst (λ (d : List ℕ). Remarked (bytes_for (version_for code) program v fs area) (bytes_for (version_for code) program v gs d) fs gs) (data_same ps (rule_of code) v) made);
  indices = λ code program fs gs comment p right ps.
      let other = index_right ps right in
      (other, set_alike (index_set right) (index_set other) ps code program p (omega arith));
}
