-- "Folding obeys the sums" (document 02, 2026-12), for our calls: mul_add, and start, push and end of a running mul_add; and for those from C. Each
-- fragment of each law goes to one call, or in chunks, cut in any way, to a job of its own: `Adds` is any of these.
--
--   AddsAlike        at once and for every way of cutting a fragment, the buffer is the one that mul_add promises
--   TwoFragments     two equally long fragments with one weight: their sum, once
--   TwoWeights       one fragment with two weights: once, with the sum of the weights
--   TwiceRestores    twice restores the buffer
--   EitherOrder      two fragments in either order
--   JobsInTurn       two running mul_adds at the same time, their pushes in turns of any kind: as one after the other
--   SumCalled        the sum of two equally long buffers is a call: one is added to the other with the weight 1
--   Box code v fs ks b   a box that has folded its share ks of the saved files, for volume v of the files fs by the code, holds b
--   SomeBuffer       each box, whatever its share, holds a buffer
--   TwoBoxes         two boxes whose shares are the saved files, once each: their buffers, summed, are the full parity
--   VolumeMerged code program v fs merged room out    what write_volume makes of the merged buffer
--   MergedWritten    the two buffers summed by a call, and handed to write_volume, give the volume
-- What excludes an empty reading: for every weight, fragment, buffer and way of cutting there is a buffer after it of which `Adds` holds, from C for
-- every weight that is a byte, and there are no two (`AddsAlike`); a share may be any list of files, none too, and has its buffer (`SomeBuffer`); n
-- files have an order to be taken in (parity specs/Claim, `SomeOrder`), which may be cut in two anywhere; and a set of files with a file that is not
-- saved meets all that `TwoBoxes` and `MergedWritten` ask for (proofs/Examples.antt, `their_sum`, `their_volume`).
-- A buffer is shorter than `lend_limit`, as is every one that can be lent. That no push and no end of such a job is refused is claimed with the jobs
-- (running_mul_add specs/Claim, `MulAddChunked`; job_bytes specs/Claim, `MulAddBytesChunked`).
-- Assumes nothing.
use Rattle.std.specs.Prelude.{◌≡◌, true, List, ◌++◌, ℕ, ◌^◌, ◌<◌, ◌≤◌, length, get_or, replicate, Ok}
use Rattle.std.specs.Int.Bits.{bit_xor}
use Rattle.codes.specs.declared.Code.{Code}
use Rattle.cut_lists.specs.All.{All}
use Rattle.jobs.specs.Claim.{lend_limit}
use Rattle.lent_bytes.specs.Writing.{accepted}
use Rattle.little_endian.specs.Bytes.{Bytes}
use Rattle.mul_add.specs.MulAdd.{mul_add, sum_bytes}
use Rattle.mul_add.specs.Once.{Once}
use Rattle.par1.specs.Claim.{ReadBack}
use Rattle.par1_rules.specs.Layout.{version_for}
use Rattle.par1_set.specs.Calls.{write_set}
use Rattle.par1_set.specs.Files.{File, file_count, contents_of, list_for, data_size_for, Writable}
use Rattle.par1_set.specs.Volume.{data_for, volume_for, VolumeRight}
use Rattle.parity.specs.Coefficient.{rule_of, coefficient_answer}
use Rattle.parity.specs.Parity.{is_file}
use Rattle.running_mul_add.specs.Running.{start_mul_add}
use Rattle.mul_add_sums.specs.Adding.{Adds, AddsAll, Turn, in_turn, firsts, seconds}

-- ---- the laws

-- proved: proofs/SumLaws.antt, `adds_alike`
abbrev pub AddsAlike : Type 0
AddsAlike = (w : ℕ) (xs b c : List ℕ) → length b < lend_limit → Adds w xs b c → c ≡ mul_add w xs b

-- "folding two equally long pieces with one weight equals folding their byte-by-byte sum"; proved: proofs/SumLaws.antt, `two_fragments`
abbrev pub TwoFragments : Type 0
TwoFragments =
    (w : ℕ) (xs ys b c d e : List ℕ) → length b < lend_limit → length xs ≡ length ys
    → Adds w xs b c → Adds w ys c d → Adds w (sum_bytes xs ys) b e → d ≡ e

-- "folding one piece with two weights equals folding it once with the sum of the weights"; proved: proofs/SumLaws.antt, `two_weights`
abbrev pub TwoWeights : Type 0
TwoWeights =
    (v w : ℕ) (xs b c d e : List ℕ) → length b < lend_limit → Adds v xs b c → Adds w xs c d → Adds (bit_xor v w) xs b e → d ≡ e

-- "the same fold done twice restores the buffer"; proved: proofs/SumLaws.antt, `twice_restores`
abbrev pub TwiceRestores : Type 0
TwiceRestores = (w : ℕ) (xs b c d : List ℕ) → length b < lend_limit → Adds w xs b c → Adds w xs c d → d ≡ b

-- "folds in either order end the same"; proved: proofs/SumLaws.antt, `either_order`
abbrev pub EitherOrder : Type 0
EitherOrder =
    (v w : ℕ) (xs ys b c d c' d' : List ℕ) → length b < lend_limit
    → Adds v xs b c → Adds w ys c d → Adds w ys b c' → Adds v xs c' d' → d ≡ d'

-- proved: proofs/Turns.antt, `jobs_in_turn`
abbrev pub JobsInTurn : Type 0
JobsInTurn =
    (v w : ℕ) (turns : List Turn) (b c d : List ℕ) → length b < lend_limit
    → Adds v (firsts turns) b c → Adds w (seconds turns) c d → in_turn (start_mul_add v) (start_mul_add w) turns b ≡ d

-- "byte-by-byte sum"; "Sum is exclusive or"; proved: proofs/SumLaws.antt, `sum_called`
abbrev pub SumCalled : Type 0
SumCalled =
    (xs ys c : List ℕ) → length xs < lend_limit → length ys ≡ length xs → Bytes ys → Adds 1 ys xs c
    → (c ≡ sum_bytes xs ys) × ((p : ℕ) → get_or c p 0 ≡ bit_xor (get_or xs p 0) (get_or ys p 0))

-- ---- two boxes

-- "each folds its share once with the volume's factors into zeros of the data size": the files are those of condition 2 (par1_set)
abbrev pub Box : Code → ℕ → List File → List ℕ → List ℕ → Type 0
Box code v fs ks b = AddsAll (λ f. rule_of code f v) (contents_of fs) ks (replicate (data_size_for fs) 0) b

-- proved: proofs/Boxes.antt, `some_buffer`
abbrev pub SomeBuffer : Type 0
SomeBuffer = (code : Code) (v : ℕ) (fs : List File) (ks : List ℕ) → (b : List ℕ) × Box code v fs ks b

-- "if the saved files are split between two boxes, .. the two buffers summed are the full parity": each saved file stands in one of the shares,
-- once, and nothing else does; proved: proofs/Boxes.antt, `two_boxes`
abbrev pub TwoBoxes : Type 0
TwoBoxes =
    (code : Code) (v : ℕ) (fs : List File) (ks ls one two : List ℕ) → data_size_for fs < lend_limit → Once (is_file (file_count fs)) (ks ++ ls)
    → Box code v fs ks one → Box code v fs ls two → sum_bytes one two ≡ data_for (rule_of code) v fs

pub record VolumeMerged (code : Code) (program v : ℕ) (fs : List File) (merged room out : List ℕ) : Type 0 where
  -- `coefficient` of each saved file gives "the volume's factors"
  pub coefficients_are : (f : ℕ) → is_file (file_count fs) f ≡ true → coefficient_answer code f v ≡ Ok (rule_of code f v)
  -- "the full parity"
  pub data_is : merged ≡ data_for (rule_of code) v fs
  -- `write_entry` of each file and `write_volume` of their list and the merged buffer give the volume of condition 2
  pub volume_is : write_set code program v fs merged room out ≡ accepted (volume_for (version_for code) (rule_of code) program v fs) out
  -- `read` of it gives the parts
  pub read_back : ReadBack (volume_for (version_for code) (rule_of code) program v fs) code program v (list_for fs) merged

-- the buffer of one box is added to that of the other with the weight 1, at once or as it comes, in chunks; the rest is as in `SetWritten` of
-- par1_set; proved: proofs/Boxes.antt, `merged_written`
abbrev pub MergedWritten : Type 0
MergedWritten =
    (code : Code) (program v : ℕ) (fs : List File) (ks ls one two merged room out : List ℕ) → program < 2 ^ 32 → VolumeRight v fs → All Writable fs
    → Once (is_file (file_count fs)) (ks ++ ls) → Box code v fs ks one → Box code v fs ls two → Adds 1 two one merged
    → length (list_for fs) ≤ length room → length (volume_for (version_for code) (rule_of code) program v fs) ≤ length out
    → VolumeMerged code program v fs merged room out
