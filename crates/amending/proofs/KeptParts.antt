-- Request 2026-05: what an amendment leaves as it was.
--
--   data_stays       the data outside the stretch
--   kept_afresh      between the volume of the files and that of the files after a change
--   amended_kept     only what the request names may differ
-- Assumes nothing.
use mathlib.Core.Path.{◌≡◌, sym, ap, ap₂, ◌∙◌, subst}
use mathlib.Core.List.{List, [], ◌++◌, append_assoc, flatten}
use Prim.Native.Nat.{ℕ, ◌+◌, ◌-◌, ◌^◌, ◌≤◌, ◌<◌, max}
use native.Mathlib.Decide.{dec_lt}
use native.Mathlib.Omega.{arith}
use lib.Bits.{bit_xor, xor_zero_r}
use lib.ListN.{length, take, drop, get_or, replicate, length-append, length-set, get_or-append, get_or-eq_default}
use lib.Seq.{take_at, get_or-set_same, get_or-set_other}
use Rattle.codes.specs.declared.Code.{Code}
use Rattle.cut_lists.proofs.AllLaws.{all_at}
use Rattle.gf256.specs.Field.{product}
use Rattle.gf256.proofs.Products.{product_zero_r}
use Rattle.little_endian.specs.Bytes.{to_le}
use Rattle.little_endian.proofs.Numbers.{length-to_le}
use Rattle.parity.specs.Coefficient.{rule_of}
use Rattle.parity.proofs.Changes.{stretched_before, stretched_from}
use Rattle.par1_read.specs.Reading.{entries_in}
use Rattle.par1_rules.specs.Layout.{version_for}
use Rattle.par1_write.specs.EntryWriting.{entry_bytes}
use Rattle.par1_set.specs.Files.{File, no_file, contents_of, entry_for, entries_for, list_for, data_size_for}
use Rattle.par1_set.specs.Volume.{data_for, volume_for, VolumeRight}
use Rattle.par1_set.proofs.Layouts.{fixed_numbers, bytes_first, bytes_numbers}
use Rattle.par1_set.proofs.Sets.{length_data}
use Rattle.amending.specs.Amending.{Change, Stretch, inside, on_end, ChangeRight, spliced, changed, place_of, amended, amended_data}
use Rattle.amending.specs.Claim.{AmendRight, Kept, AmendedKept}
use Rattle.amending.proofs.AmendedFiles.{change_placed, file_fits, amended_size, entries_set, entries_at, amended_list_length}
use Rattle.amending.proofs.Amends.{amended_right, volume_is, amended_data_lem, amend_volume_lem}
use Rattle.amending.proofs.Splices.{place_inside}

-- ---- the entry

entry_first : (x : File) → take 16 (entry_for x) ≡ to_le 8 (56 + length x.name) ++ to_le 8 x.status
unfolding entry_bytes flatten
entry_first x = let a : List ℕ = to_le 8 (56 + length x.name) in
    let b : List ℕ = to_le 8 x.status in
    let size : length (a ++ b) ≡ 16 = omega (arith, length-append a b, length-to_le 8 (56 + length x.name), length-to_le 8 x.status) in
    ap (take 16) (sym (append_assoc a b _)) ∙ take_at (a ++ b) _ 16 size

-- ---- the data

old_short : (m : List ℕ) (c : Change) → Stretch m c → length c.old ≤ length c.new
old_short m c (inside e h) = omega arith
old_short m c (on_end e h) = omega (arith, ap length e)

data_stays : (w k : ℕ) (c : Change) (m area : List ℕ) → ChangeRight m c → length m ≤ length area → (p : ℕ) → p < length area
    → (c.place ≤ p → c.place + length c.new ≤ p) → get_or (amended_data w c k area) p 0 ≡ get_or area p 0
data_stays w k c m area right fits p h outside = by (dec_lt p c.place)
  where
    by : Dec (p < c.place) → get_or (amended_data w c k area) p 0 ≡ get_or area p 0
    by (yes l) = let zeros : List ℕ = replicate (k - length area) 0 in
        stretched_before w c.place c.old c.new (area ++ zeros) p (omega (arith, place_inside c m right, length-append area zeros)) l
        ∙ get_or-append area zeros 0 p h
    by (no l) = let zeros : List ℕ = replicate (k - length area) 0 in
        let q : ℕ = p - c.place in
        let at : c.place + q ≡ p = omega arith in
        let past : length c.new ≤ q = omega (arith, outside (omega arith)) in
        let short = old_short m c right.kind in
        let none : product w (bit_xor (get_or c.old q 0) (get_or c.new q 0)) ≡ 0 =
        ap₂ (λ (x y : ℕ). product w (bit_xor x y)) (get_or-eq_default c.old 0 (omega arith)) (get_or-eq_default c.new 0 past)
        ∙ product_zero_r w in
        subst (λ (j : ℕ). get_or (amended_data w c k area) j 0 ≡ get_or area j 0) at
        (stretched_from w c.place c.old c.new (area ++ zeros) q (omega (arith, length-append area zeros))
        ∙ ap (bit_xor (get_or (area ++ zeros) (c.place + q) 0)) none ∙ xor_zero_r _
        ∙ get_or-append area zeros 0 (c.place + q) (omega arith))

-- ---- all of it

module _ (code : Code) (program v : ℕ) (c : Change) (fs : List File) (p : program < 2 ^ 32) (right : VolumeRight v fs) (a : AmendRight c fs) where
  kept_afresh : Kept c (place_of fs c.file) (length (spliced c (contents_of fs c.file))) (volume_for (version_for code) (rule_of code) program v fs)
      (volume_for (version_for code) (rule_of code) program v (amended c fs))
  kept_afresh = let gs : List File = amended c fs in
      let k : ℕ = place_of fs c.file in
      let placed = change_placed c fs a.low a.high in
      let x : File = get_or fs k no_file in
      let y : File = changed c x in
      let was = volume_is code program v fs p right in
      let is = volume_is code program v gs p (amended_right v c fs right a) in
      let d : List ℕ = data_for (rule_of code) v fs in
      let e : List ℕ = data_for (rule_of code) v gs in
      let count : length gs ≡ length fs = length-set fs k y in
      let list : length (list_for gs) ≡ length (list_for fs) = amended_list_length c fs in
      let few : k < length gs = omega (arith, placed.within) in
      let same : get_or gs k no_file ≡ y = get_or-set_same fs k y no_file placed.within in
      let old_entry : get_or (entries_in (volume_for (version_for code) (rule_of code) program v fs)) k [] ≡ entry_for x =
      ap (λ (es : List (List ℕ)). get_or es k []) was.entries_are ∙ entries_at fs k placed.within in
      let new_entry : get_or (entries_in (volume_for (version_for code) (rule_of code) program v gs)) k [] ≡ entry_for y =
      ap (λ (es : List (List ℕ)). get_or es k []) is.entries_are ∙ entries_at gs k few ∙ ap (λ (x : File). entry_for x) same in
      let old-back = all_at no_file was.files_are k placed.within in
      let new_name : drop 56 (entry_for y) ≡ y.name =
      ap (λ (x : File). drop 56 (entry_for x)) (sym same) ∙ (all_at no_file is.files_are k few).name_is ∙ ap (λ (x : File). x.name) same in
      record {
        head_kept = bytes_first v gs e (version_for code) program ∙ sym (bytes_first v fs d (version_for code) program);
        numbers_kept = bytes_numbers v gs e (version_for code) program ∙ ap₂ (λ (n l : ℕ). fixed_numbers v n l) count list
            ∙ sym (bytes_numbers v fs d (version_for code) program);
        list_kept = ap length is.list_is ∙ list ∙ sym (ap length was.list_is);
        entries_kept =
            λ i q. ap (λ (es : List (List ℕ)). get_or es i []) (is.entries_are ∙ entries_set fs k y)
            ∙ get_or-set_other (entries_for fs) k i (entry_for y) [] q ∙ sym (ap (λ (es : List (List ℕ)). get_or es i []) was.entries_are);
        status_kept = ap (take 16) new_entry ∙ entry_first y ∙ sym (entry_first x) ∙ sym (ap (take 16) old_entry);
        name_kept = ap (drop 56) new_entry ∙ new_name ∙ sym old-back.name_is ∙ sym (ap (drop 56) old_entry);
        size_field =
            is.size_is ∙ amended_size c fs a.low a.high a.change_right.kind
            ∙ sym (ap (λ (n : ℕ). max n (length (spliced c (contents_of fs c.file)))) was.size_is);
        data_size_lem =
            ap length is.data_is ∙ length_data (rule_of code) v gs ∙ amended_size c fs a.low a.high a.change_right.kind
            ∙ sym (ap (λ (n : ℕ). max n (length (spliced c (contents_of fs c.file)))) (ap length was.data_is ∙ length_data (rule_of code) v fs));
        data_kept =
            λ q l outside.
            let inside : q < length d = subst (λ (d : List ℕ). q < length d) was.data_is l in
            let fits : length (contents_of fs c.file) ≤ length d =
            omega (arith, length_data (rule_of code) v fs, file_fits fs c.file a.low a.high) in
            ap (λ (d : List ℕ). get_or d q 0) (is.data_is ∙ sym (amended_data_lem v c fs a.low a.high a.change_right (rule_of code)))
            ∙ data_stays (rule_of code c.file v) (data_size_for gs) c (contents_of fs c.file) d a.change_right fits q inside outside
            ∙ sym (ap (λ (d : List ℕ). get_or d q 0) was.data_is);
      }

pub amended_kept : AmendedKept
amended_kept code program v c fs p right a =
    subst (Kept c (place_of fs c.file) (length (spliced c (contents_of fs c.file))) (volume_for (version_for code) (rule_of code) program v fs))
    (sym (amend_volume_lem code program v c fs p right a)) (kept_afresh code program v c fs p right a)
