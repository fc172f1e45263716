-- The entry that an amendment is about, in a volume that is read, and the lengths after it.
--
--   Read, volume_read                what an accepted volume tells
--   Found, found                     where the file's entry stands, and what fits, where the tests 10, 16 to 18 and 21 have passed
--   length_list, length_data, length-amended     the lengths of the amended list, data and volume
-- Assumes nothing.
use Rattle.std.specs.Prelude.{Ok}
use mathlib.Core.Path.{◌≡◌, sym, ap, ◌∙◌}
use mathlib.Core.Bool.{true}
use mathlib.Core.List.{List, [], ◌∷◌, ◌++◌, flatten}
use Prim.Native.Nat.{ℕ, suc, ◌+◌, ◌-◌, ◌≤◌, ◌<◌}
use native.Mathlib.Omega.{arith}
use lib.Dec.{leb}
use lib.ListN.{length, take, drop, get_or, replicate, length-append, length-drop, length-replicate}
use lib.Seq.{length-take-le}
use borrow.Author.Tests.{leb-true}
use Rattle.codes.specs.declared.Code.{Code}
use Rattle.computed_tests.proofs.Tests.{and_both}
use Rattle.cut_lists.proofs.AllLaws.{all_at}
use Rattle.refusals.specs.Limits.{max_volume_length}
use Rattle.little_endian.specs.Bytes.{to_le}
use Rattle.little_endian.proofs.Numbers.{length-to_le}
use Rattle.md5_digest.specs.Digest.{md5}
use Rattle.entries.specs.Entry.{file_size_of}
use Rattle.entries.specs.Numbering.{saved_of}
use Rattle.entries.specs.Walk.{entries_of}
use Rattle.entries.proofs.WalkLaws.{walk_saved, entries_long}
use Rattle.parity.proofs.Changes.{length_stretched}
use Rattle.parity.proofs.Files.{is_file_inside}
use Rattle.par1.specs.Checking.{lone_refusal}
use Rattle.par1.proofs.CheckingLaws.{lone_tells}
use Rattle.par1_read.specs.Reading.{entries_in, read_of}
use Rattle.par1_read.specs.declared.reading.Parts.{Parts}
use Rattle.par1_read.proofs.ReadingLaws.{parts_of, read_tells, list_joined}
use Rattle.par1_rules.specs.Hashes.{set_hash}
use Rattle.par1_rules.specs.Layout.{volume_number_of, list_size_of, data_size_of, list_of, data_of}
use Rattle.par1_rules.specs.Rules.{number_allowed}
use Rattle.par1_set.proofs.Ranges.{number_range}
use Rattle.par1_rules.proofs.HashLaws.{length-md5, length-set_hash}
use Rattle.amending.specs.Amending.{Change, place_in, amended_list, amended_data, amended_size, weight_in, amended_body, amend_volume}
use Rattle.amending.specs.Call.{change_allowed, entry_in, file_allowed}
use Rattle.amending.proofs.ChangeTests.{change_told, change_length, stretch_place}
use Rattle.amending.proofs.EntryPlaces.{place-within, split_entries, set_joined}

-- ---- an accepted volume

pub record Read (vol : List ℕ) : Type 0 where
  pub low : 96 ≤ length vol
  pub high : length vol ≤ max_volume_length
  pub total : 96 + list_size_of vol + data_size_of vol ≡ length vol
  pub list_length : length (list_of vol) ≡ list_size_of vol
  pub data_length : length (data_of vol) ≡ data_size_of vol
  pub joined : flatten (entries_in vol) ≡ list_of vol
  pub number_right : number_allowed (volume_number_of vol) (length (saved_of (entries_in vol))) ≡ true

pub volume_read : (vol : List ℕ) {p : Parts} → read_of vol ≡ Ok p → Read vol × (p ≡ parts_of vol)
volume_read vol {p} e = let told = read_tells vol p e in
    let tests = told.tests in
    let header = tests.header in
    let total : 96 + list_size_of vol + data_size_of vol ≡ length vol = omega (arith, header.layout.data_start_lem, header.layout.data_end) in
    let saved = walk_saved (list_of vol) tests.walk_is in (
      record {
        low = header.size.low;
        high = header.size.high;
        total = total;
        list_length = length-take-le (list_size_of vol) (drop 96 vol) (omega (arith, length-drop 96 vol));
        data_length = omega (arith, length-drop (96 + list_size_of vol) vol);
        joined = list_joined vol tests;
        number_right = ap (number_allowed (volume_number_of vol)) (sym saved) ∙ tests.totals.number_right;
      },
      told.parts_are,
    )

-- ---- the file and its entry, where the tests have passed

pub record Found (vol : List ℕ) (f place : ℕ) (d : List ℕ) : Type 0 where
  pub within : place_in (entries_in vol) f < length (entries_in vol)
  pub same_length : length d ≡ length (entry_in f (entries_in vol))
  pub place_inside : place ≤ file_size_of d
  pub file_small : f < 256
  pub number_small : volume_number_of vol < 256

pub found : (vol : List ℕ) → Read vol → (f place old new : ℕ) (d : List ℕ) → file_allowed f vol ≡ true → lone_refusal d ≡ 0
    → change_allowed place old new (entry_in f (entries_in vol)) d ≡ true → Found vol f place d
found vol is f place old new d file_right lone change = let es : List (List ℕ) = entries_in vol in
    let e : List ℕ = entry_in f es in
    let two = and_both (leb 1 (volume_number_of vol)) _ file_right in
    let low = leb-true 1 (volume_number_of vol) two.0 in
    let range = is_file_inside (length (saved_of es)) f two.1 in
    let few = number_range (volume_number_of vol) (length (saved_of es)) low is.number_right in
    let within : place_in es f < length es = place-within es (f - 1) (omega (arith, range.0, range.1)) in
    let long : 58 ≤ length e = all_at [] (entries_long (list_of vol)) (place_in es f) within in
    let told = change_told place old new e d change in
    let own = lone_tells d lone in
    record {
      within = within;
      same_length = change_length place old new e d told (omega arith) (omega (arith, own.low));
      place_inside = omega (arith, stretch_place (file_size_of e) place old new told.stretch, told.size);
      file_small = omega (arith, range.1, few.1);
      number_small = omega (arith, few.1);
    }

-- ---- the length

length_three : (a b c : List ℕ) → length (flatten (a ∷ b ∷ c ∷ [])) ≡ length a + (length b + length c)
unfolding flatten
length_three a b c = simp length-append (omega arith)

length_five : (a b c d e : List ℕ) → length (flatten (a ∷ b ∷ c ∷ d ∷ e ∷ [])) ≡ length a + (length b + (length c + (length d + length e)))
unfolding flatten
length_five a b c d e = simp length-append (omega arith)

module _ (vol : List ℕ) (is : Read vol) (c : Change) (d : List ℕ) (at : Found vol c.file c.place d) where
  pub length_list : length (amended_list c.file d (list_of vol)) ≡ list_size_of vol
  length_list = let es : List (List ℕ) = entries_in vol in
      let k : ℕ = place_in es c.file in
      let l : List ℕ = flatten (take k es) in
      let r : List ℕ = flatten (drop (suc k) es) in
      let e : List ℕ = get_or es k [] in
      let new = ap length (set_joined es k at.within d) ∙ length_three l d r in
      let old = ap length (split_entries es k at.within) ∙ length_three l e r in
      omega (arith, at.same_length, ap length is.joined, is.list_length)

  pub length_data : (w : ℕ) → length (amended_data w c (amended_size d vol) (data_of vol)) ≡ amended_size d vol
  length_data w = let m : ℕ = amended_size d vol in
      let zeros : List ℕ = replicate (m - length (data_of vol)) 0 in
      let size : length (data_of vol ++ zeros) ≡ m =
      omega (arith, length-append (data_of vol) zeros, length-replicate {A = ℕ} (m - length (data_of vol)) 0, is.data_length) in
      length_stretched w c.place c.old c.new (data_of vol ++ zeros) (omega (arith, at.place_inside)) ∙ size

  pub length-amended : (rules : Code → ℕ → ℕ → ℕ) → length (amend_volume rules c d vol) ≡ 96 + list_size_of vol + amended_size d vol
  unfolding amend_volume amended_body
  length-amended rules = let list : List ℕ = amended_list c.file d (list_of vol) in
      let hash : List ℕ = set_hash (entries_of list).pieces in
      let m : ℕ = amended_size d vol in
      let area : List ℕ = amended_data (weight_in rules c.file vol) c m (data_of vol) in
      let numbers : List ℕ = take 40 (drop 48 vol) in
      let forty : length numbers ≡ 40 = length-take-le 40 (drop 48 vol) (omega (arith, length-drop 48 vol, is.low)) in
      let sixteen : length (take 16 vol) ≡ 16 = length-take-le 16 vol (omega (arith, is.low)) in
      let body : List ℕ = flatten (hash ∷ numbers ∷ to_le 8 m ∷ list ∷ area ∷ []) in
      let inner : length body ≡ length hash + (length numbers + (length (to_le 8 m) + (length list + length area))) =
      length_five hash numbers (to_le 8 m) list area in
      let h = length-set_hash (entries_of list).pieces in
      let eight = length-to_le 8 m in
      let lengths = length_list in
      let areas = length_data (weight_in rules c.file vol) in
      length_three (take 16 vol) (md5 body) body ∙ omega (arith, length-md5 body)
