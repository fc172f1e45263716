-- A set of files with a volume number and a data area: its volume or its index.
--
--   SetPassed v fs area    it passes the tests of writing
--   set_back               its entries are those of its files
--   set-accepted           it is written
--   set_read_back          it is read back
--   set_only               nothing else is written
-- Assumes nothing.
use Rattle.std.specs.Prelude.{Ok}
use mathlib.Core.Path.{◌≡◌, sym, ap, ◌∙◌, subst}
use mathlib.Core.Bool.{true}
use mathlib.Core.List.{List}
use Prim.Native.Nat.{ℕ, ◌+◌, ◌^◌, ◌≤◌, ◌<◌}
use native.Mathlib.Omega.{arith}
use lib.ListN.{length}
use Rattle.cut_lists.specs.All.{All}
use Rattle.codes.specs.declared.Code.{Code}
use Rattle.entries.specs.declared.Totals.{Totals}
use Rattle.entries.specs.Walk.{walk_of}
use Rattle.lent_bytes.specs.Writing.{accepted}
use Rattle.lent_bytes.proofs.WritingLaws.{unless_accepted, unless_tells}
use Rattle.par1.specs.Claim.{ReadBack}
use Rattle.par1.proofs.ReadWritten.{ListPassed, list_passed, volume_accepted, volume_back}
use Rattle.par1_rules.specs.Layout.{version_for}
use Rattle.par1_rules.specs.Rules.{number_allowed, data_allowed}
use Rattle.par1_write.specs.VolumeWriting.{volume_bytes, walk_refusal, write_volume_of}
use Rattle.refusals.specs.Limits.{max_volume_length}
use Rattle.par1_set.specs.Calls.{write_set}
use Rattle.par1_set.specs.Claim.{FileBack}
use Rattle.par1_set.specs.Files.{File, file_count, list_for, data_size_for, FileRight, Writable}
use Rattle.par1_set.specs.Volume.{bytes_for}
use Rattle.par1_set.proofs.AcceptedCalls.{set_tells}
use Rattle.refusals.specs.declared.Refusal.{Refusal}
use Rattle.par1_set.proofs.CallLaws.{entries_written, set_then}
use Rattle.par1_set.proofs.FileEntries.{files_back, totals_for, walk_is}
use Rattle.par1_set.proofs.Layouts.{bytes_are, length_bytes}

pub record SetPassed (v : ℕ) (fs : List File) (area : List ℕ) : Type 0 where
  pub files_right : All FileRight fs
  pub number_right : number_allowed v (file_count fs) ≡ true
  pub data_right : data_allowed v (data_size_for fs) (length area) ≡ true
  pub length_right : 96 + length (list_for fs) + length area ≤ max_volume_length

module _ {v : ℕ} {fs : List File} {area : List ℕ} (s : SetPassed v fs area) where
  pub set_back : All FileBack fs
  set_back = files_back s.files_right (omega (arith, s.length_right))

  pub set_passed : ListPassed v (list_for fs) (length area)
  set_passed = record {
    totals_of_lem = totals_for fs;
    walk_is = walk_is set_back;
    tests = record { number_right = s.number_right; data_right = s.data_right; size = record { low = omega arith; high = s.length_right } };
  }

  module _ (c : Code) (program : ℕ) where
    same : volume_bytes c program v (list_for fs) area ≡ bytes_for (version_for c) program v fs area
    same = bytes_are set_back v area c program

    pub set-accepted : (room out : List ℕ) → All Writable fs → length (list_for fs) ≤ length room → length (bytes_for (version_for c) program v fs area) ≤ length out
        → write_set c program v fs area room out ≡ accepted (bytes_for (version_for c) program v fs area) out
    set-accepted room out writable list_fits fits = let size = length_bytes set_back v area c program in
        set_then c program v fs area room out (entries_written room s.files_right writable list_fits)
        ∙ volume_accepted c program v (list_for fs) area out (totals_for fs) (walk_is set_back) s.number_right s.data_right
        (omega (arith, ap length same, s.length_right)) (omega (arith, ap length same))
        ∙ ap (λ (f : List ℕ). accepted f out) same

    pub set_read_back : program < 2 ^ 32 → v < 2 ^ 64 → ReadBack (bytes_for (version_for c) program v fs area) c program v (list_for fs) area
    set_read_back p small =
        subst (λ (f : List ℕ). ReadBack f c program v (list_for fs) area) same (volume_back c program v (list_for fs) area p small set_passed)

-- the tests of writing passed, and the bytes are those of the set
pub set_only : (c : Code) (program v : ℕ) (fs : List File) (area room out : List ℕ) {n : ℕ} {after : List ℕ}
    → write_set c program v fs area room out ≡ (Ok n, after)
    → SetPassed v fs area × All Writable fs × ((Ok n, after) ≡ accepted (bytes_for (version_for c) program v fs area) out)
unfolding write_volume_of
set_only c program v fs area room out {n} {after} e = let told = set_tells c program v fs area room out e in
    let l : List ℕ = list_for fs in
    let refusal : Refusal = walk_refusal v (walk_of l) (length l) (length area) in
    let f : List ℕ = volume_bytes c program v l area in
    let fits = unless_tells refusal f out told.2 in
    let written : (Ok n, after) ≡ accepted f out = sym told.2 ∙ unless_accepted refusal f out fits.none fits.fits in
    let passed = list_passed v l (length area) fits.none in
    let high = passed.tests.size.high in
    let back = files_back told.0 (omega arith) in
    let both : Ok passed.totals_of_lem ≡ Ok (totals_for fs) = sym passed.walk_is ∙ walk_is back in
    let totals : passed.totals_of_lem ≡ totals_for fs = cc in (
      record {
        files_right = told.0;
        number_right = ap (λ (t : Totals). number_allowed v t.saved) (sym totals) ∙ passed.tests.number_right;
        data_right = ap (λ (t : Totals). data_allowed v t.greatest (length area)) (sym totals) ∙ passed.tests.data_right;
        length_right = high;
      },
      told.1,
      written ∙ ap (λ (b : List ℕ). accepted b out) (bytes_are back v area c program),
    )
