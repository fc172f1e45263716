-- Condition 2, first half: what is written is what the format defines, and reading it returns the parts.
--
--   volume_accepted              what keeps the rules is written
--   volume_written               a written volume has the bytes that the format defines
--   ListPassed, list_passed      what the tests of writing, passed, tell
--   volume_back                  what passes the tests of writing is read back
--   read_written                 and so is every written volume
-- A test of document 01 is passed where it does not hold.
-- Assumes nothing.
use Rattle.std.specs.Prelude.{Ok, Err}
use mathlib.Core.Path.{◌≡◌, refl, sym, ap, ap₂, ◌∙◌, subst}
use mathlib.Core.List.{List}
use Prim.Native.Nat.{ℕ, ◌+◌, ◌^◌, ◌<◌}
use native.Mathlib.Omega.{arith}
use lib.ListN.{length}
use Rattle.lent_bytes.proofs.WritingLaws.{unless_accepted, unless_tells}
use Rattle.cut_lists.proofs.CutLaws.{cut-count}
use Rattle.codes.specs.declared.Code.{Code}
use Rattle.entries.specs.Entry.{length_of}
use Rattle.entries.specs.Walk.{entries_of, walk_of}
use Rattle.entries.specs.declared.Totals.{Totals}
use Rattle.entries.specs.Walk.{Walked}
use Rattle.entries.proofs.WalkLaws.{walk_count, walk_refused}
use Rattle.md5_digest.specs.Digest.{md5}
use Rattle.par1_rules.specs.Hashes.{set_hash}
use Rattle.par1_rules.specs.Rules.{number_allowed, data_allowed}
use Rattle.par1_read.specs.Reading.{entries_in}
use Rattle.par1_write.specs.VolumeWriting.{volume_bytes, walk_refusal, write_volume_of}
use Rattle.par1_read.proofs.ReadingLaws.{parts_of, HeaderPassed, TotalsPassed, Passed, passed_none, read_accepted}
use Rattle.par1_rules.proofs.RuleLaws.{code_back, Between}
use Rattle.par1.specs.Claim.{VolumeAccepted, VolumeWritten, parts_for, ReadBack, ReadWritten}
use Rattle.par1.proofs.VolumeFields.{Fields, volume_fields}
use Rattle.par1_write.proofs.VolumeWritingLaws.{VolumePassed, volume_passed, volume_none, length_volume}

pub volume_accepted : VolumeAccepted
unfolding write_volume_of
volume_accepted c program number list area out t walk number_right data_right high fits =
    let size : length (volume_bytes c program number list area) ≡ 96 + length list + length area = length_volume c program number list area in
    let passed : VolumePassed number t (length list) (length area) =
    record { number_right = number_right; data_right = data_right; size = record { low = omega arith; high = omega arith } } in
    let none = ap (λ (w : Walked). (walk_refusal number w (length list) (length area)).number) walk ∙ volume_none number t (length list) (length area) passed in
    unless_accepted (walk_refusal number (walk_of list) (length list) (length area)) (volume_bytes c program number list area) out none fits

pub volume_written : VolumeWritten
unfolding write_volume_of
volume_written c program number list area out n room e =
    (unless_tells (walk_refusal number (walk_of list) (length list) (length area)) (volume_bytes c program number list area) out e).written_is

-- the list of a written volume was walked to its end
pub record ListPassed (number : ℕ) (list : List ℕ) (area : ℕ) : Type 0 where
  pub totals_of_lem : Totals
  pub walk_is : walk_of list ≡ Ok totals_of_lem
  pub tests : VolumePassed number totals_of_lem (length list) area

pub list_passed : (number : ℕ) (list : List ℕ) (area : ℕ) → (walk_refusal number (walk_of list) (length list) area).number ≡ 0
    → ListPassed number list area
list_passed number list area e = by (walk_of list) refl e
  where
    by : (w : Walked) → w ≡ walk_of list → (walk_refusal number w (length list) area).number ≡ 0 → ListPassed number list area
    by (Ok t) w e = record { totals_of_lem = t; walk_is = sym w; tests = volume_passed number t (length list) area e }
    by (Err r) w e = absurd (omega (arith, (walk_refused list (sym w)).low))

-- a file with the fields of a written volume passes the tests of reading
module _ {number : ℕ} {list : List ℕ} (area : List ℕ) (accepted : ListPassed number list (length area))
    (f : List ℕ) {c : Code} (program : ℕ) {body : List ℕ} (d : Fields f c program body (length (entries_of list).pieces) number list area)
    (size : length f ≡ 96 + length list + length area) where
  written_header : HeaderPassed f (length f)
  written_header = record {
    size = subst Between (sym size) accepted.tests.size;
    begins = d.begins;
    version_is = cc (code_back c);
    layout = record {
      list_start = d.list_start;
      data_start_lem = omega (arith, d.data_start_lem, d.list_size_lem);
      data_end = omega (arith, d.data_start_lem, d.data_size_lem, size);
    };
  }

  written_totals : TotalsPassed f (set_hash (entries_in f)) accepted.totals_of_lem
  written_totals = let t : Totals = accepted.totals_of_lem in
      record {
        count_is = walk_count list accepted.walk_is ∙ sym d.count_is;
        number_right = ap (λ (v : ℕ). number_allowed v t.saved) d.number_is ∙ accepted.tests.number_right;
        set_is = d.set_is ∙ ap (λ (l : List ℕ). set_hash (entries_of l).pieces) (sym d.list_is);
        data_right = ap₂ (λ (v k : ℕ). data_allowed v t.greatest k) d.number_is d.data_size_lem ∙ accepted.tests.data_right;
      }

  written_passed : Passed f
  written_passed = record {
    header = written_header;
    control_is = d.control_is ∙ ap md5 (sym d.hashed_is);
    totals_of_lem = accepted.totals_of_lem;
    walk_is = ap walk_of d.list_is ∙ accepted.walk_is;
    totals = written_totals;
  }

  written_parts : parts_of f ≡ parts_for c program number list area
  written_parts = cc (code_back c)

pub volume_back : (c : Code) (program number : ℕ) (list area : List ℕ) → program < 2 ^ 32 → number < 2 ^ 64 → ListPassed number list (length area)
    → ReadBack (volume_bytes c program number list area) c program number list area
unfolding volume_bytes
volume_back c program number list area p v accepted = let f : List ℕ = volume_bytes c program number list area in
    let size : length f ≡ 96 + length list + length area = length_volume c program number list area in
    let few : length (entries_of list).pieces < 2 ^ 64 = omega (arith, cut-count length_of list, accepted.tests.size.high) in
    let d = volume_fields f c program (length (entries_of list).pieces) number list area refl p v few (omega (arith, accepted.tests.size.high)) in
    let read = read_accepted f (passed_none f (written_passed area accepted f program d size)) in
    record {
      read_is = read ∙ ap Ok (written_parts area accepted f program d size);
      list_is = d.list_is;
      data_is = d.data_is;
    }

pub read_written : ReadWritten
unfolding write_volume_of
read_written c program number p v list area out n room e =
    let told = unless_tells (walk_refusal number (walk_of list) (length list) (length area)) (volume_bytes c program number list area) out e in
    let passed = list_passed number list (length area) told.none in
    subst (λ (f : List ℕ). ReadBack f c program number list area) (sym told.written_is) (volume_back c program number list area p v passed)
