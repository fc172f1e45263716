-- Request 2026-05: an amended volume is the one written afresh.
--
--   amended_files, amended_right    the files after a change keep the rules
--   VolumeIs, volume_is             what a volume of files is made of
--   five_parts                      five parts in a row
--   amended_data_lem                    the data after a change
--   amend_to, amend_volume_lem          one amendment
--   amended_afresh                  a run of them
-- Assumes nothing.
use Rattle.std.specs.Prelude.{Ok}
use mathlib.Core.Path.{◌≡◌, refl, sym, ap, ap₂, ◌∙◌, subst}
use mathlib.Core.Bool.{true}
use mathlib.Core.List.{List, [], ◌∷◌, flatten}
use Prim.Native.Nat.{ℕ, ◌+◌, ◌^◌, ◌≤◌, ◌<◌, max}
use native.Mathlib.Omega.{arith}
use lib.ListN.{length, get_or, take, drop, length-set, length-map}
use lib.Seq.{get_or-set_same}
use Rattle.codes.specs.declared.Code.{Code}
use Rattle.cut_lists.specs.All.{All}
use Rattle.cut_lists.proofs.AllLaws.{all_at, all_set}
use Rattle.entries.specs.Entry.{is_saved, file_size_allowed, file_size_of}
use Rattle.entries.specs.Numbering.{saved_of}
use Rattle.entries.specs.Walk.{entries_of}
use Rattle.little_endian.specs.Bytes.{to_le}
use Rattle.md5_digest.specs.Digest.{md5}
use Rattle.parity.specs.Coefficient.{rule_of}
use Rattle.parity.specs.Parity.{parity}
use Rattle.parity.proofs.Changes.{stretched, parity_longer, parity_stretched}
use Rattle.par1_read.specs.Reading.{entries_in, read_of}
use Rattle.par1_read.specs.declared.reading.Parts.{Parts}
use Rattle.par1_read.proofs.ReadingLaws.{read_tells}
use Rattle.par1_rules.specs.Layout.{version_for, version_of, volume_number_of, data_size_of, list_of, data_of}
use Rattle.par1_rules.specs.Hashes.{set_hash}
use Rattle.par1_rules.specs.Rules.{code_in}
use Rattle.par1_set.specs.Claim.{FileBack}
use Rattle.par1_set.specs.Files.{File, no_file, saved_files, file_count, contents_of, entry_for, entries_for, list_for, data_size_for, FileRight}
use Rattle.par1_set.specs.Volume.{set_hash_for, hashed_for, data_for, volume_for, VolumeRight}
use Rattle.par1_set.proofs.FileEntries.{entries_of_lem, keep_entries}
use Rattle.par1_set.proofs.Layouts.{fixed_numbers, set_hash_is, hashed_parts_lem, bytes_parts, bytes_first, bytes_numbers}
use Rattle.par1_set.proofs.SetLaws.{set_back, set_read_back}
use Rattle.par1_set.proofs.Sets.{length_data, volume_set}
use Rattle.amending.specs.Amending.{Change, ChangeRight, spliced, changed, place_of, amended, amended_list, amended_data}
use Rattle.amending.specs.Amending.{weight_in, amended_body, amend_volume}
use Rattle.amending.specs.Claim.{AmendRight, entry_after, Run, run_none, run_more, AmendedRight, AmendedAfresh}
use Rattle.amending.proofs.AmendedFiles.{change_placed, own_contents, amended-count, amended_new, amended_other}
use Rattle.amending.proofs.AmendedFiles.{file_fits, amended_size, amended_list_lem, amended_list_length}
use Rattle.amending.proofs.Splices.{place_inside, splice_before, splice_gains}

-- ---- the rules

pub amended_files : (c : Change) (fs : List File) → All FileRight fs → 1 ≤ c.file → c.file ≤ file_count fs
    → file_size_allowed (length (spliced c (contents_of fs c.file))) ≡ true → All FileRight (amended c fs)
amended_files c fs right low high size_right = let k : ℕ = place_of fs c.file in
    let x : File = get_or fs k no_file in
    let r : FileRight x = all_at no_file right k (change_placed c fs low high).within in
    let y : FileRight (changed c x) =
    record {
      size_right = subst (λ (m : List ℕ). file_size_allowed (length (spliced c m)) ≡ true) (sym (own_contents c fs low high)) size_right;
      status_right = r.status_right;
      name_right = r.name_right;
    } in
    all_set right k (changed c x) y

pub amended_right : AmendedRight
amended_right v c fs right a = let count = amended-count c fs a.low a.high in
    record {
      files_right = amended_files c fs right.files_right a.low a.high a.size_right;
      volume_low = right.volume_low;
      volume_high = omega (arith, right.volume_high);
      count_low = omega (arith, right.count_low);
      length_right = omega (arith, amended_list_length c fs, amended_size c fs a.low a.high a.change_right.kind, a.length_right);
    }

-- ---- a volume

pub record VolumeIs (vol : List ℕ) (code : Code) (program v : ℕ) (fs : List File) : Type 0 where
  pub files_are : All FileBack fs
  pub read_is : (p : Parts) × (read_of vol ≡ Ok p)
  pub code_is : code_in (version_of vol) ≡ code
  pub number_is : volume_number_of vol ≡ v
  pub size_is : data_size_of vol ≡ data_size_for fs
  pub list_is : list_of vol ≡ list_for fs
  pub data_is : data_of vol ≡ data_for (rule_of code) v fs
  pub entries_are : entries_in vol ≡ entries_for fs
  pub count_is : length (saved_of (entries_in vol)) ≡ file_count fs

pub volume_is : (code : Code) (program v : ℕ) (fs : List File) → program < 2 ^ 32 → VolumeRight v fs
    → VolumeIs (volume_for (version_for code) (rule_of code) program v fs) code program v fs
volume_is code program v fs p right = let vol : List ℕ = volume_for (version_for code) (rule_of code) program v fs in
    let s = volume_set right (rule_of code) in
    let bs : All FileBack fs = set_back s in
    let back = set_read_back s code program p (omega (arith, right.volume_high)) in
    let parts = (read_tells vol _ back.read_is).parts_are in
    let entries : entries_in vol ≡ entries_for fs = ap (λ (l : List ℕ). (entries_of l).pieces) back.list_is ∙ ap (λ k. k.pieces) (entries_of_lem bs) in
    record {
      files_are = bs;
      read_is = (_, back.read_is);
      code_is = sym (ap (λ (q : Parts). q.code) parts);
      number_is = sym (ap (λ (q : Parts). q.number) parts);
      size_is = sym (ap (λ (q : Parts). q.data_size) parts) ∙ length_data (rule_of code) v fs;
      list_is = back.list_is;
      data_is = back.data_is;
      entries_are = entries;
      count_is = ap (λ (es : List (List ℕ)). length (saved_of es)) entries
          ∙ ap length (keep_entries is_saved bs) ∙ length-map (saved_files fs) (λ x. entry_for x);
    }

-- ---- one amendment

pub five_parts : {a b c d e p q r s t : List ℕ} → a ≡ p → b ≡ q → c ≡ r → d ≡ s → e ≡ t
    → flatten (a ∷ b ∷ c ∷ d ∷ e ∷ []) ≡ flatten (p ∷ q ∷ r ∷ s ∷ t ∷ [])
five_parts a b c d e = cc

module _ (v : ℕ) (c : Change) (fs : List File) (low : 1 ≤ c.file) (high : c.file ≤ file_count fs)
    (change : ChangeRight (contents_of fs c.file) c) where
  pub amended_data_lem : (rule : ℕ → ℕ → ℕ)
      → amended_data (rule c.file v) c (data_size_for (amended c fs)) (data_for rule v fs) ≡ data_for rule v (amended c fs)
  amended_data_lem rule = let n : ℕ = file_count fs in
      let f : ℕ = c.file in
      let X : ℕ → List ℕ = contents_of fs in
      let Y : ℕ → List ℕ = contents_of (amended c fs) in
      let size = amended_size c fs low high change.kind in
      let longer : data_size_for fs ≤ data_size_for (amended c fs) = omega arith in
      let fits = file_fits fs c.file low high in
      let inside : c.place ≤ data_size_for (amended c fs) = omega (arith, place_inside c _ change) in
      let now : (q : ℕ) → get_or (Y f) q 0 ≡ get_or (spliced c (X f)) q 0 = λ q. ap (λ (l : List ℕ). get_or l q 0) (amended_new c fs low high) in
      ap (stretched (rule f v) c.place c.old c.new)
      (parity_longer rule n X v (data_size_for fs) (data_size_for (amended c fs)) (file_fits fs) longer)
      ∙ sym (parity_stretched rule n X Y v f low high (λ g l h q. amended_other c fs low high g l q) (data_size_for (amended c fs)) c.place
      c.old c.new inside (λ q l. now q ∙ splice_before c (X f) change q l) (λ q. now (c.place + q) ∙ splice_gains c (X f) change q))
      ∙ ap (λ (n : ℕ). parity rule n Y v (data_size_for (amended c fs))) (sym (amended-count c fs low high))

  module _ (after : All FileBack (amended c fs)) where
    -- the entry is that of the changed file
    pub back_after : FileBack (changed c (get_or fs (place_of fs c.file) no_file))
    back_after = let k : ℕ = place_of fs c.file in
        let y : File = changed c (get_or fs k no_file) in
        let few = (change_placed c fs low high).within in
        subst FileBack (get_or-set_same fs k y no_file few) (all_at no_file after k (omega (arith, length-set fs k y)))

    pub size_after : file_size_of (entry_after c fs) ≡ length (spliced c (contents_of fs c.file))
    size_after = back_after.size_is ∙ ap (λ (m : List ℕ). length (spliced c m)) (own_contents c fs low high)

    module _ (code : Code) (program : ℕ) (p : program < 2 ^ 32) (right : VolumeRight v fs) where
      body_to : amended_body rule_of c (entry_after c fs) (volume_for (version_for code) (rule_of code) program v fs)
          ≡ hashed_for v (amended c fs) (data_for (rule_of code) v (amended c fs))
      unfolding amended_body
      body_to = let vol : List ℕ = volume_for (version_for code) (rule_of code) program v fs in
          let gs : List File = amended c fs in
          let e : List ℕ = entry_after c fs in
          let is = volume_is code program v fs p right in
          let list_is : amended_list c.file e (list_of vol) ≡ list_for gs =
          ap (amended_list c.file e) is.list_is ∙ amended_list_lem c is.files_are in
          let size_is : max (data_size_of vol) (file_size_of e) ≡ data_size_for gs =
          ap₂ max is.size_is size_after ∙ sym (amended_size c fs low high change.kind) in
          let numbers_are : take 40 (drop 48 vol) ≡ fixed_numbers v (length gs) (length (list_for gs)) =
          bytes_numbers v fs (data_for (rule_of code) v fs) (version_for code) program
          ∙ sym (ap₂ (λ (n l : ℕ). fixed_numbers v n l) (length-set fs (place_of fs c.file) _) (amended_list_length c fs)) in
          let w : ℕ = weight_in rule_of c.file vol in
          let area_is : amended_data w c (max (data_size_of vol) (file_size_of e)) (data_of vol) ≡ data_for (rule_of code) v gs =
          ap₂ (λ (w m : ℕ). amended_data w c m (data_of vol)) (ap₂ (λ (k : Code) (n : ℕ). rule_of k c.file n) is.code_is is.number_is) size_is
          ∙ ap (amended_data (rule_of code c.file v) c (data_size_for gs)) is.data_is ∙ amended_data_lem (rule_of code) in
          let hash_is : set_hash (entries_of (amended_list c.file e (list_of vol))).pieces ≡ set_hash_for gs =
          ap (λ (l : List ℕ). set_hash (entries_of l).pieces) list_is ∙ ap (λ k. set_hash k.pieces) (entries_of_lem after) ∙ set_hash_is after in
          five_parts hash_is numbers_are (ap (to_le 8) (size_is ∙ sym (length_data (rule_of code) v gs))) list_is area_is
          ∙ sym (hashed_parts_lem v gs (data_for (rule_of code) v gs))

      pub amend_to : amend_volume rule_of c (entry_after c fs) (volume_for (version_for code) (rule_of code) program v fs)
          ≡ volume_for (version_for code) (rule_of code) program v (amended c fs)
      unfolding amend_volume
      amend_to =
          ap₂ (λ (first body : List ℕ). flatten (first ∷ md5 body ∷ body ∷ [])) (bytes_first v fs (data_for (rule_of code) v fs) (version_for code) program) body_to
          ∙ sym (bytes_parts v (amended c fs) (data_for (rule_of code) v (amended c fs)) (version_for code) program)

pub amend_volume_lem : (code : Code) (program v : ℕ) (c : Change) (fs : List File) → program < 2 ^ 32 → VolumeRight v fs → AmendRight c fs
    → amend_volume rule_of c (entry_after c fs) (volume_for (version_for code) (rule_of code) program v fs)
    ≡ volume_for (version_for code) (rule_of code) program v (amended c fs)
amend_volume_lem code program v c fs p right a =
    amend_to v c fs a.low a.high a.change_right (set_back (volume_set (amended_right v c fs right a) (rule_of code))) code program p right

-- ---- a run

run_afresh : (code : Code) (program v : ℕ) {fs gs : List File} {vol w : List ℕ} → program < 2 ^ 32 → VolumeRight v fs
    → vol ≡ volume_for (version_for code) (rule_of code) program v fs → Run fs vol gs w → w ≡ volume_for (version_for code) (rule_of code) program v gs
run_afresh code program v p right e run_none = e
run_afresh code program v p right e (run_more {fs} c a r) =
    run_afresh code program v p (amended_right v c fs right a)
    (ap (amend_volume rule_of c (entry_after c fs)) e ∙ amend_volume_lem code program v c fs p right a) r

pub amended_afresh : AmendedAfresh
amended_afresh code program v fs gs w p right r = run_afresh code program v p right refl r
