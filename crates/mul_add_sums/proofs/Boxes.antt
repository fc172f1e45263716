-- Two boxes that add their shares of the saved files, each to zeros.
--
--   all_answer       many fragments, each at once or in chunks, are those of mul_add_all
--   all_given        there is such a buffer
--   share_files      what stands in a share is a file
--   share            what a box holds; box-is, box-length, box-bytes: it does, as many bytes as the data size
--   some_buffer, two_boxes, merged_written    the claims
-- Assumes nothing.
use mathlib.Core.Path.{◌≡◌, refl, sym, ap, ap₂, ◌∙◌, subst}
use mathlib.Core.Bool.{Bool, true, false, cond}
use mathlib.Core.List.{List, [], ◌∷◌, ◌++◌}
use Prim.Native.Nat.{ℕ, ◌<◌, ◌≤◌}
use native.Mathlib.Omega.{arith}
use lib.ListN.{length, replicate, length-replicate}
use Rattle.codes.specs.declared.Code.{Code}
use Rattle.jobs.specs.Claim.{lend_limit}
use Rattle.little_endian.specs.Bytes.{Bytes}
use Rattle.mul_add.specs.MulAdd.{mul_add, mul_add_all, sum_bytes}
use Rattle.mul_add.specs.Once.{count, Once}
use Rattle.mul_add.proofs.Counts.{count_tail}
use Rattle.mul_add.proofs.MulAdds.{length-mul_add_all}
use Rattle.par1_set.specs.Calls.{write_set}
use Rattle.par1_set.specs.Files.{File, file_count, contents_of, data_size_for}
use Rattle.par1_set.specs.Volume.{data_for}
use Rattle.par1_set.proofs.Sets.{set-written}
use Rattle.parity.specs.Coefficient.{rule_of}
use Rattle.parity.specs.Parity.{is_file}
use Rattle.parity.proofs.Coefficients.{rule_byte}
use Rattle.parity.proofs.Files.{is_file_inside}
use Rattle.parity.proofs.Volumes.{volume_shares}
use Rattle.mul_add_sums.specs.Adding.{AddsAll, at_once, none, more}
use Rattle.mul_add_sums.specs.Claim.{Box, SomeBuffer, TwoBoxes, MergedWritten}
use Rattle.mul_add_sums.proofs.ByteLaws.{mul_add_all_bytes, zeros_bytes}
use Rattle.mul_add_sums.proofs.SumLaws.{adds_alike, adds_short, mul_add_one}

-- ---- many fragments

module _ (weight : ℕ → ℕ) (fragment : ℕ → List ℕ) where
  pub all_answer : {ks b c : List ℕ} → length b < lend_limit → AddsAll weight fragment ks b c → c ≡ mul_add_all weight fragment ks b
  unfolding mul_add_all
  all_answer h (none e) = e
  all_answer h (more {k} {ks} {b} {c} {d} p q) =
      simp (all_answer (adds_short (weight k) (fragment k) b c h p) q, adds_alike (weight k) (fragment k) b c h p)

  pub all_given : (ks b : List ℕ) → AddsAll weight fragment ks b (mul_add_all weight fragment ks b)
  unfolding mul_add_all
  all_given [] b = none refl
  all_given (k ∷ ks) b = more (at_once refl) (all_given ks (mul_add (weight k) (fragment k) b))

-- ---- the files of a share

count-after : (k : ℕ) (js ks : List ℕ) → 0 < count k ks → 0 < count k (js ++ ks)
count-after k [] ks h = h
count-after k (j ∷ js) ks h = count_tail k j (js ++ ks) (count-after k js ks h)

share_files : (n : ℕ) (ks ls : List ℕ) → Once (is_file n) (ks ++ ls) → (k : ℕ) → 0 < count k ls → k ≤ n
share_files n ks ls once k h = (is_file_inside n k (by (is_file n k) (once k) (count-after k ks ls h))).1
  where
    by : (t : Bool) {c : ℕ} → c ≡ cond t 1 0 → 0 < c → t ≡ true
    by true e l = refl
    by false e l = absurd (omega arith)

-- ---- two boxes

pub some_buffer : SomeBuffer
some_buffer code v fs ks = (_, all_given (λ f. rule_of code f v) (contents_of fs) _ _)

module _ (code : Code) (v : ℕ) (fs : List File) (short : data_size_for fs < lend_limit) where
  -- what a box holds, in one equation
  abbrev share : List ℕ → List ℕ
  share ks = mul_add_all (λ f. rule_of code f v) (contents_of fs) ks (replicate (data_size_for fs) 0)

  box_is : (ks : List ℕ) {b : List ℕ} → Box code v fs ks b → b ≡ share ks
  box_is ks p = all_answer (λ f. rule_of code f v) (contents_of fs) (omega (arith, length-replicate {A = ℕ} (data_size_for fs) 0)) p

  box_length : (ks : List ℕ) {b : List ℕ} → Box code v fs ks b → length b ≡ data_size_for fs
  box_length ks p = ap length (box_is ks p) ∙ length-mul_add_all (λ f. rule_of code f v) (contents_of fs) ks _ ∙ length-replicate (data_size_for fs) 0

  box_bytes : (ks ls : List ℕ) {b : List ℕ} → file_count fs < 256 → Once (is_file (file_count fs)) (ks ++ ls) → Box code v fs ls b → Bytes b
  box_bytes ks ls few once p =
      subst Bytes (sym (box_is ls p))
      (mul_add_all_bytes (λ f. rule_of code f v) (contents_of fs) ls _
      (λ k h. let file = share_files (file_count fs) ks ls once k h in rule_byte code k v (omega arith)) (zeros_bytes (data_size_for fs)))

pub two_boxes : TwoBoxes
two_boxes code v fs ks ls one two short once p q =
    ap₂ sum_bytes (box_is code v fs short ks p) (box_is code v fs short ls q) ∙ volume_shares code (file_count fs) (contents_of fs) v (data_size_for fs) ks ls once

pub merged_written : MergedWritten
merged_written code program v fs ks ls one two merged room out small right writable once p q sum list_fits fits =
    let short : data_size_for fs < lend_limit = omega (arith, right.length_right) in
    let few : file_count fs < 256 = omega (arith, right.volume_high) in
    let l₁ : length one ≡ data_size_for fs = box_length code v fs short ks p in
    let l₂ : length two ≡ data_size_for fs = box_length code v fs short ls q in
    let parity_is : merged ≡ data_for (rule_of code) v fs =
    adds_alike 1 two one merged (omega arith) sum ∙ mul_add_one one two (l₂ ∙ sym l₁) (box_bytes code v fs short ks ls few once q)
    ∙ two_boxes code v fs ks ls one two short once p q in
    let made = set-written code program v fs (ks ++ ls) room out small right writable once list_fits fits in
    record {
      coefficients_are = made.coefficients_are;
      data_is = parity_is;
      volume_is = ap (λ (d : List ℕ). write_set code program v fs d room out) (parity_is ∙ sym made.data_is) ∙ made.volume_is;
      read_back = rw parity_is made.read_back;
    }
