-- Request 2026-05, the calls: a change that may be made is made, and after any run of calls the volume is the one written afresh.
--
--   amend_passes       the tests pass where a change may be made
--   amend_tells        and only there
--   amend_accepted     so it is made
--   calls_afresh       after any run of calls
-- Assumes nothing.
use Rattle.std.specs.Prelude.{Ok}
use mathlib.Core.Path.{◌≡◌, sym, ap, ap₂, ◌∙◌, subst}
use mathlib.Core.Bool.{true, ◌&&◌}
use mathlib.Core.List.{List, [], ◌++◌}
use Prim.Native.Nat.{ℕ, ◌+◌, ◌-◌, ◌^◌, ◌≤◌, ◌<◌}
use native.Mathlib.Omega.{arith}
use lib.Dec.{leb}
use lib.ListN.{length, take, drop, get_or, length-append}
use borrow.Author.Tests.{le-leb}
use Rattle.codes.specs.declared.Code.{Code}
use Rattle.cut_lists.specs.All.{All}
use Rattle.cut_lists.proofs.AllLaws.{all_at}
use Rattle.lent_bytes.specs.Writing.{accepted, written_unless}
use Rattle.lent_bytes.specs.Writing.{Writing}
use Rattle.lent_bytes.proofs.WritingLaws.{unless_accepted, unless_tells}
use Rattle.computed_tests.proofs.Tests.{and_both}
use Rattle.entries.specs.Entry.{file_size_of, file_size_allowed}
use Rattle.parity.specs.Coefficient.{rule_of}
use Rattle.parity.specs.Parity.{is_file}
use Rattle.parity.proofs.Files.{is_file_in, is_file_inside}
use Rattle.par1.proofs.CheckingLaws.{lone_tells}
use Rattle.par1_read.specs.Reading.{entries_in}
use Rattle.par1_rules.specs.Layout.{version_for}
use Rattle.par1_set.specs.Claim.{FileBack}
use Rattle.par1_set.specs.Files.{File, no_file, file_count, contents_of, entry_for, entries_for, list_for, data_size_for}
use Rattle.par1_set.specs.Volume.{data_for, volume_for, VolumeRight}
use Rattle.par1_set.proofs.FileEntries.{files_back}
use Rattle.par1_set.proofs.Layouts.{length_bytes}
use Rattle.par1_set.proofs.SetLaws.{set_back}
use Rattle.par1_set.proofs.Sets.{length_data, volume_set}
use Rattle.amending.specs.Amending.{Change, Stretch, ChangeRight, spliced, changed, saved_place, place_of, amended, amend_volume}
use Rattle.amending.specs.Call.{stretch_allowed, change_allowed, entry_in, file_allowed, change_refusal, amend_of}
use Rattle.amending.specs.Claim.{AmendRight, entry_after, Holds, AmendAccepted, Calls, calls_none, calls_written, calls_refused, CallsAfresh}
use Rattle.amending.proofs.AmendedFiles.{change_placed, own_contents, spliced-length, amended_size}
use Rattle.amending.proofs.AmendedFiles.{entries_at, statuses_are, amended_list_length}
use Rattle.amending.proofs.Amends.{amended_files, amended_right, volume_is, back_after, size_after, amend_to, amend_volume_lem}
use Rattle.amending.proofs.ChangeTests.{stretch_passes, stretch_tells, change_told, change_passes}
use Rattle.amending.proofs.Refusals.{change_passed, change_none, amend_read, amend_refused}

-- ---- of a true volume

module _ (code : Code) (program v : ℕ) (fs : List File) (p : program < 2 ^ 32) (right : VolumeRight v fs) (c : Change) where
  abbrev vol : List ℕ
  vol = volume_for (version_for code) (rule_of code) program v fs

  abbrev file : File
  file = get_or fs (place_of fs c.file) no_file

  file_passes : 1 ≤ c.file → c.file ≤ file_count fs → file_allowed c.file vol ≡ true
  file_passes low high = let is = volume_is code program v fs p right in
      ap₂ (λ (n k : ℕ). leb 1 n && is_file k c.file) is.number_is is.count_is
      ∙ simp (le-leb 1 v right.volume_low, is_file_in (file_count fs) c.file low high)

  file_tells : file_allowed c.file vol ≡ true → (1 ≤ c.file) × (c.file ≤ file_count fs)
  file_tells e = let is = volume_is code program v fs p right in
      let both = and_both (leb 1 v) _ (sym (ap₂ (λ (n k : ℕ). leb 1 n && is_file k c.file) is.number_is is.count_is) ∙ e) in
      is_file_inside (file_count fs) c.file both.1

  module _ (low : 1 ≤ c.file) (high : c.file ≤ file_count fs) where
    own_entry : entry_in c.file (entries_in vol) ≡ entry_for file
    own_entry = let is = volume_is code program v fs p right in
        ap (λ (es : List (List ℕ)). entry_in c.file es) is.entries_are
        ∙ ap (λ (ss : List ℕ). get_or (entries_for fs) (saved_place ss (c.file - 1)) []) (statuses_are is.files_are)
        ∙ entries_at fs (place_of fs c.file) (change_placed c fs low high).within

    own_back : FileBack file
    own_back = all_at no_file (volume_is code program v fs p right).files_are (place_of fs c.file) (change_placed c fs low high).within

    own_size : file_size_of (entry_for file) ≡ length (contents_of fs c.file)
    own_size = own_back.size_is ∙ ap length (own_contents c fs low high)

    module _ (change : ChangeRight (contents_of fs c.file) c) (after : All FileBack (amended c fs)) where
      length_afresh : length (amend_volume rule_of c (entry_after c fs) vol) ≡ 96 + length (list_for fs) + data_size_for (amended c fs)
      length_afresh = let gs : List File = amended c fs in
          ap length (amend_to v c fs low high change after code program p right)
          ∙ length_bytes after v (data_for (rule_of code) v gs) code program
          ∙ ap₂ (λ (l d : ℕ). 96 + l + d) (amended_list_length c fs) (length_data (rule_of code) v gs)

  amend_passes : AmendRight c fs → (change_refusal rule_of c (entry_after c fs) vol).number ≡ 0
  amend_passes a = let after : All FileBack (amended c fs) = set_back (volume_set (amended_right v c fs right a) (rule_of code)) in
      let m : List ℕ = contents_of fs c.file in
      let e : List ℕ = entry_for file in
      let d : List ℕ = entry_after c fs in
      let i : FileBack file = own_back a.low a.high in
      let j : FileBack (changed c file) = back_after v c fs a.low a.high a.change_right after in
      let was = own_size a.low a.high in
      let is = size_after v c fs a.low a.high a.change_right after in
      let change : change_allowed c.place (length c.old) (length c.new) e d ≡ true =
      change_passes c.place (length c.old) (length c.new) e d
      (record {
        stretch = ap (λ (n : ℕ). stretch_allowed n c.place (length c.old) (length c.new)) was ∙ stretch_passes m c a.change_right.kind;
        name = j.name_is ∙ sym i.name_is;
        status = j.status_is ∙ sym i.status_is;
        size = omega (arith, was, is, spliced-length c m a.change_right.kind);
      }) in
      let long = length_afresh a.low a.high a.change_right after in
      let grown = amended_size c fs a.low a.high a.change_right.kind in
      ap (λ r. r.number)
      (change_none rule_of c d vol (file_passes a.low a.high) j.lone_is
      (ap (λ (e : List ℕ). change_allowed c.place (length c.old) (length c.new) e d) (own_entry a.low a.high) ∙ change)
      (record { low = omega arith; high = omega (arith, a.length_right) }))

  amend_tells : take (length c.old) (drop c.place (contents_of fs c.file)) ≡ c.old
      → (change_refusal rule_of c (entry_after c fs) vol).number ≡ 0 → AmendRight c fs
  amend_tells old_true z = let d : List ℕ = entry_after c fs in
      let m : List ℕ = contents_of fs c.file in
      let t = change_passed rule_of c d vol z in
      let in_range_lem = file_tells t.file_right in
      let low = in_range_lem.0 in
      let high = in_range_lem.1 in
      let told = change_told c.place (length c.old) (length c.new) (entry_for file) d
      (ap (λ (e : List ℕ). change_allowed c.place (length c.old) (length c.new) e d) (sym (own_entry low high)) ∙ t.change) in
      let was = own_size low high in
      let kind : Stretch m c =
      stretch_tells m c (sym (ap (λ (n : ℕ). stretch_allowed n c.place (length c.old) (length c.new)) was) ∙ told.stretch) in
      let size : length (spliced c m) ≡ file_size_of d = omega (arith, told.size, spliced-length c m kind) in
      let size_right : file_size_allowed (length (spliced c m)) ≡ true = ap file_size_allowed size ∙ (lone_tells d t.lone).size_right in
      let change : ChangeRight m c = record { kind = kind; old_true = old_true } in
      let files = amended_files c fs right.files_right low high size_right in
      let after : All FileBack (amended c fs) = files_back files (omega (arith, amended_list_length c fs, right.length_right)) in
      record {
        low = low;
        high = high;
        change_right = change;
        size_right = size_right;
        length_right = omega (arith, amended_size c fs low high kind, length_afresh low high change after, t.total.high);
      }

-- ---- the call

module _ (code : Code) (program v : ℕ) (fs : List File) (c : Change) (n : ℕ) (out : List ℕ) (p : program < 2 ^ 32) (right : VolumeRight v fs)
    (holds : Holds code program v fs n out) where
  -- what it gives, where the room holds the volume
  amend_holds : (d : List ℕ) → let s : List ℕ = volume_for (version_for code) (rule_of code) program v fs in
      amend_of rule_of n c d out ≡ written_unless (change_refusal rule_of c d s) (amend_volume rule_of c d s) out
  amend_holds d = amend_read rule_of n c d out holds.0 holds.1 (volume_is code program v fs p right).read_is.1

  make : AmendRight c fs → length (volume_for (version_for code) (rule_of code) program v (amended c fs)) ≤ length out
      → amend_of rule_of n c (entry_after c fs) out ≡ accepted (volume_for (version_for code) (rule_of code) program v (amended c fs)) out
  make a fits = let d : List ℕ = entry_after c fs in
      let s : List ℕ = volume_for (version_for code) (rule_of code) program v fs in
      amend_holds d
      ∙ ap (λ (t : List ℕ). written_unless (change_refusal rule_of c d s) t out) (amend_volume_lem code program v c fs p right a)
      ∙ unless_accepted (change_refusal rule_of c d s) (volume_for (version_for code) (rule_of code) program v (amended c fs)) out
      (amend_passes code program v fs p right c a) fits

  -- an accepted call
  record Amended (k : ℕ) (room : List ℕ) : Type 0 where
    may : AmendRight c fs
    held : Holds code program v (amended c fs) k room

  amend_written : {k : ℕ} {room : List ℕ} → take (length c.old) (drop c.place (contents_of fs c.file)) ≡ c.old
      → amend_of rule_of n c (entry_after c fs) out ≡ (Ok k, room) → Amended k room
  amend_written {k} {room} old_true e = let d : List ℕ = entry_after c fs in
      let vol : List ℕ = volume_for (version_for code) (rule_of code) program v fs in
      let s : List ℕ = amend_volume rule_of c d vol in
      let m = change_refusal rule_of c d vol in
      let call = sym (amend_holds d) ∙ e in
      let told = unless_tells m s out call in
      let a : AmendRight c fs = amend_tells code program v fs p right c old_true told.none in
      let both : accepted s out ≡ (Ok k, room) = sym (unless_accepted m s out told.none told.fits) ∙ call in
      let answer : Ok (length s) ≡ Ok k = ap (λ (p : Writing × List ℕ). p.0) both in
      let size : length s ≡ k = cc in
      let held : s ++ drop (length s) out ≡ room = ap (λ (p : Writing × List ℕ). p.1) both in
      let inside : k ≤ length room = omega (arith, length-append s (drop (length s) out), ap length held) in
      record { may = a; held = (inside, told.written_is ∙ amend_volume_lem code program v c fs p right a) }

pub amend_accepted : AmendAccepted
amend_accepted code program v fs c n out p right holds a fits = make code program v fs c n out p right holds a fits

-- ---- a run of calls

run_calls : (code : Code) (program v : ℕ) {fs gs : List File} {n m : ℕ} {out w : List ℕ} → program < 2 ^ 32 → VolumeRight v fs → Holds code program v fs n out
    → Calls fs n out gs m w → VolumeRight v gs × Holds code program v gs m w
run_calls code program v p right holds calls_none = (right, holds)
run_calls code program v p right holds (calls_written {fs} {n = n} {out = out} c old_true e r) =
    let done = amend_written code program v fs c n out p right holds old_true e in
    run_calls code program v p (amended_right v c fs right done.may) done.held r
run_calls code program v p right holds (calls_refused {fs} {n = n} {out = out} c d e r) = let same = ((amend_refused rule_of n c d out _).1 _ e).1 in
    run_calls code program v p right (subst (λ (t : List ℕ). Holds code program v fs n t) (sym same) holds) r

pub calls_afresh : CallsAfresh
calls_afresh code program v fs gs n m out w p right holds r = run_calls code program v p right holds r
