-- The volumes of a set are added to a catalog opened from one of them.
--
--   set_added      the claim
-- Assumes nothing.
use mathlib.Core.Path.{◌≡◌, refl, sym, ap, ◌∙◌, subst}
use mathlib.Core.Bool.{Bool, true, false, cond}
use mathlib.Core.List.Permᴰ
use mathlib.Core.List.{List, ◌∷◌, map}
use Prim.Native.Nat.{ℕ, suc, ◌^◌, ◌≤◌, ◌<◌}
use native.Mathlib.Omega.{arith}
use lib.Dec.{eqb}
use lib.ListN.{length, length-map}
use borrow.Author.Tests.{eqb-false}
use Rattle.cut_lists.specs.All.{All, all_none, all_more}
use Rattle.codes.specs.declared.Code.{Code}
use Rattle.mul_add.specs.Once.{count}
use Rattle.mul_add.proofs.Counts.{count_same}
use Rattle.par1.specs.Claim.{ReadBack}
use Rattle.par1_read.specs.Reading.{entries_in}
use Rattle.par1_rules.specs.Layout.{version_for, volume_number_of}
use Rattle.par1_set.specs.Files.{File, entry_for, list_for}
use Rattle.par1_set.specs.Volume.{data_for, volume_for, VolumeRight}
use Rattle.par1_set.proofs.FileEntries.{set-listed}
use Rattle.par1_set.proofs.SetLaws.{set_read_back}
use Rattle.par1_set.proofs.Sets.{volume_set}
use Rattle.parity.specs.Coefficient.{rule_of}
use Rattle.entries.specs.Walk.{entries_of}
use Rattle.catalog.specs.Rows.{number_of, rows_for, volume_row}
use Rattle.catalog.specs.Claim.{SetAdded}
use Rattle.catalog.proofs.HeldLaws.{rows_of, VolumeIn, In}
use Rattle.catalog.proofs.OrderLaws.{Other, Distinct, distinct_none, distinct_more}
use Rattle.catalog.proofs.ReadLaws.{told, volume_row_number}
use Rattle.catalog.proofs.RunLaws.{afresh}

module _ (code_at : ℕ → Code) (program : ℕ) (small : program < 2 ^ 32) (fs : List File) where
  abbrev volume : ℕ → List ℕ
  volume w = volume_for (version_for (code_at w)) (rule_of (code_at w)) program w fs

  back : (w : ℕ) → VolumeRight w fs → ReadBack (volume w) (code_at w) program w (list_for fs) (data_for (rule_of (code_at w)) w fs)
  back w right = set_read_back (volume_set right (rule_of (code_at w))) (code_at w) program small (omega (arith, right.volume_high))

  number_is : (w : ℕ) → VolumeRight w fs → volume_number_of (volume w) ≡ w
  number_is w right = sym (told (volume w) (back w right).read_is).number_is

  entries_are : (w : ℕ) → VolumeRight w fs → entries_in (volume w) ≡ (entries_of (list_for fs)).pieces
  entries_are w right = ap (λ (l : List ℕ). (entries_of l).pieces) (back w right).list_is

  row_number : (w : ℕ) → VolumeRight w fs → number_of (volume_row (volume w)) ≡ w
  row_number w right = volume_row_number (volume w) (told (volume w) (back w right).read_is) ∙ number_is w right

  in_set : (v w : ℕ) → VolumeRight v fs → VolumeRight w fs → VolumeIn (rows_for (entries_in (volume v))) (volume w)
  in_set v w first right = record {
    parts = _;
    read = (back w right).read_is;
    same = ap (λ es. rows_for es) (entries_are w right ∙ sym (entries_are v first));
    low = omega (arith, number_is w right, right.volume_low);
  }

  -- ---- each number once

  absent : (k : ℕ) {ws : List ℕ} → All (λ w. VolumeRight w fs) ws → count k ws ≡ 0 → All (Other k) (rows_of (map volume ws))
  unfolding count
  absent k all_none z = all_none
  absent k (all_more {x = w} {xs = ws} right a) z = by (eqb k w) refl z (absent k a)
    where
      by : (t : Bool) → eqb k w ≡ t → cond t (suc (count k ws)) (count k ws) ≡ 0 → (count k ws ≡ 0 → All (Other k) (rows_of (map volume ws)))
          → All (Other k) (rows_of (map volume (w ∷ ws)))
      by true e y more = absurd (omega arith)
      by false e y more = all_more (λ same. eqb-false k w e (sym same ∙ row_number w right)) (more y)

  distinct : {ws : List ℕ} → All (λ w. VolumeRight w fs) ws → ((k : ℕ) → count k ws ≤ 1) → Distinct (rows_of (map volume ws))
  unfolding count
  distinct all_none once = distinct_none
  distinct (all_more {x = w} {xs = ws} right a) once =
      let none : count w ws ≡ 0 = omega (arith, once w, count_same w w ws refl) in
      let number : w ≡ number_of (volume_row (volume w)) = sym (row_number w right) in
      distinct_more (subst (λ (k : ℕ). All (Other k) (rows_of (map volume ws))) number (absent w a none))
      (distinct a (λ k. fewer (eqb k w) k (once k)))
    where
      fewer : (t : Bool) (k : ℕ) → cond t (suc (count k ws)) (count k ws) ≤ 1 → count k ws ≤ 1
      fewer true k h = omega arith
      fewer false k h = h

  length_entries : (v : ℕ) → VolumeRight v fs → length (entries_in (volume v)) ≡ length fs
  length_entries v first = let listed = set-listed fs first.files_right (omega (arith, first.length_right)) in
      ap length (entries_are v first ∙ ap (λ c. c.pieces) listed.entries_are) ∙ length-map fs (λ x. entry_for x)

pub set_added : SetAdded
set_added code_at program v fs ws out small first rights once few fits = let n = length_entries code_at program small fs v first in
    let vs : List (List ℕ) = map (volume code_at program small fs) ws in
    let inside : In (record { file = volume code_at program small fs v; volumes = vs }) = record {
      parts = _;
      read = (back code_at program small fs v first).read_is;
      few = omega (arith, n);
      each = all_mapped rights;
      once = distinct code_at program small fs rights once;
    } in
    (afresh inside vs (Permᴰ.refl vs) out (omega (arith, n, length-map ws (volume code_at program small fs)))).0
  where
    all_mapped : {ws : List ℕ} → All (λ w. VolumeRight w fs) ws
        → All (VolumeIn (rows_for (entries_in (volume code_at program small fs v)))) (map (volume code_at program small fs) ws)
    all_mapped all_none = all_none
    all_mapped (all_more {x = w} right a) = all_more (in_set code_at program small fs v w first right) (all_mapped a)
