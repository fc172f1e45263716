-- Condition 2 over a set of files: it is written as the volume that the documents define, is read back, and nothing else is written.
--
--   length_data                  the data of a volume is as long as the data-size rule says
--   volume_set, index_set        volumes and indices that keep the rules pass the tests of writing
--   volume_made                  the calls give the volume, by any rule for the coefficients and with the version of any code
--   set_read, set-written, index_read, index_written, only_volumes, only_indices     the claims
-- Assumes nothing.
use Rattle.std.specs.Prelude.{Ok}
use mathlib.Core.Path.{◌≡◌, ap, ◌∙◌}
use mathlib.Core.Bool.{true}
use mathlib.Core.List.{List}
use Prim.Native.Nat.{ℕ, ◌≤◌}
use native.Mathlib.Omega.{arith}
use lib.ListN.{length}
use Rattle.cut_lists.specs.All.{All}
use Rattle.codes.specs.declared.Code.{Code}
use Rattle.lent_bytes.specs.Writing.{accepted}
use Rattle.mul_add.specs.Once.{Once}
use Rattle.par1_rules.specs.Layout.{version_for}
use Rattle.parity.specs.Coefficient.{rule_of, coefficient_answer}
use Rattle.parity.specs.Parity.{is_file}
use Rattle.parity.proofs.Coefficients.{answer_in_range}
use Rattle.parity.proofs.Files.{is_file_inside}
use Rattle.parity.proofs.Parities.{length-parity}
use Rattle.parity.proofs.Volumes.{files_parity, volume_data}
use Rattle.par1_set.specs.Calls.{add_files, write_set}
use Rattle.par1_set.specs.Claim.{SetRead, SetWritten, IndexRead, IndexWritten, OnlyVolumes, OnlyIndices}
use Rattle.par1_set.specs.Files.{File, file_count, contents_of, list_for, data_size_for, Writable}
use Rattle.par1_set.specs.Volume.{bytes_for, data_for, volume_for, VolumeRight, IndexRight}
use Rattle.par1_set.proofs.CallLaws.{entries_written}
use Rattle.par1_set.proofs.Ranges.{volume_number, number_range, volume_size, index_number, index_range, index_size, index_even}
use Rattle.par1_set.proofs.SetLaws.{SetPassed, set-accepted, set_read_back, set_only}

-- ---- volumes

pub length_data : (rule : ℕ → ℕ → ℕ) (v : ℕ) (fs : List File) → length (data_for rule v fs) ≡ data_size_for fs
length_data rule v fs = length-parity rule (file_count fs) (contents_of fs) v (data_size_for fs)

module _ {v : ℕ} {fs : List File} (right : VolumeRight v fs) where
  pub volume_set : (rule : ℕ → ℕ → ℕ) → SetPassed v fs (data_for rule v fs)
  volume_set rule = let size = length_data rule v fs in
      record {
        files_right = right.files_right;
        number_right = volume_number v (file_count fs) right.volume_low right.count_low right.volume_high;
        data_right = volume_size v _ right.volume_low size;
        length_right = omega (arith, right.length_right);
      }

  coefficients : (c : Code) (f : ℕ) → is_file (file_count fs) f ≡ true → coefficient_answer c f v ≡ Ok (rule_of c f v)
  coefficients c f e = let inside = is_file_inside (file_count fs) f e in
      answer_in_range c f v inside.0 right.volume_low (omega (arith, inside.1, right.volume_high))

  pub volume_made : (c : Code) (rule : ℕ → ℕ → ℕ) (program : ℕ) (ks room out : List ℕ) → All Writable fs → Once (is_file (file_count fs)) ks
      → length (list_for fs) ≤ length room → length (volume_for (version_for c) rule program v fs) ≤ length out
      → write_set c program v fs (add_files rule v fs ks) room out ≡ accepted (volume_for (version_for c) rule program v fs) out
  volume_made c rule program ks room out writable once list_fits fits =
      ap (λ (d : List ℕ). write_set c program v fs d room out) (files_parity rule (file_count fs) (contents_of fs) v (data_size_for fs) ks once)
      ∙ set-accepted (volume_set rule) c program room out writable list_fits fits

pub set_read : SetRead
set_read c program v fs p right = set_read_back (volume_set right (rule_of c)) c program p (omega (arith, right.volume_high))

pub set-written : SetWritten
set-written c program v fs ks room out p right writable once list_fits fits = record {
  list_is = entries_written room right.files_right writable list_fits;
  coefficients_are = coefficients right c;
  data_is = volume_data c (file_count fs) (contents_of fs) v (data_size_for fs) ks once;
  volume_is = volume_made right c (rule_of c) program ks room out writable once list_fits fits;
  read_back = set_read c program v fs p right;
}

pub only_volumes : OnlyVolumes
only_volumes c program v fs ks room out n after low once e =
    let told = set_only c program v fs (add_files (rule_of c) v fs ks) room out e in
    let s = told.0 in
    let range = number_range v (file_count fs) low s.number_right in
    let area = volume_data c (file_count fs) (contents_of fs) v (data_size_for fs) ks once in
    let size = ap length area ∙ length_data (rule_of c) v fs in (
      record {
        files_right = s.files_right;
        volume_low = low;
        volume_high = range.1;
        count_low = range.0;
        length_right = omega (arith, s.length_right);
      },
      told.1,
      told.2 ∙ ap (λ (d : List ℕ). accepted (bytes_for (version_for c) program v fs d) out) area,
    )

-- ---- the index

pub index_set : {fs : List File} {comment : List ℕ} → IndexRight fs comment → SetPassed 0 fs comment
index_set {fs} {comment} right = record {
  files_right = right.files_right;
  number_right = index_number (file_count fs) right.count_high;
  data_right = index_size (data_size_for fs) (length comment) right.comment_right;
  length_right = right.length_right;
}

pub index_read : IndexRead
index_read c program fs comment p right = set_read_back (index_set right) c program p (omega arith)

pub index_written : IndexWritten
index_written c program fs comment room out p right writable list_fits fits = record {
  index_is = set-accepted (index_set right) c program room out writable list_fits fits;
  read_back = index_read c program fs comment p right;
}

pub only_indices : OnlyIndices
only_indices c program fs comment room out n after e = let told = set_only c program 0 fs comment room out e in
    let s = told.0 in (
      record {
        files_right = s.files_right;
        count_high = index_range (file_count fs) s.number_right;
        comment_right = index_even (data_size_for fs) (length comment) s.data_right;
        length_right = s.length_right;
      },
      told.1,
      told.2,
    )
