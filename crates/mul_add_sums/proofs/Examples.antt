-- Document 01, P6, by two boxes: "files (1, 2) and (3): .. volume 2 is (7, 2)". The first box folds file 1 in two chunks, the second folds file 2.
-- Assumes nothing.
use mathlib.Core.Path.{◌≡◌, refl}
use mathlib.Core.List.{List, [], ◌∷◌, flatten}
use Prim.Native.Nat.{ℕ, zero, suc, ◌≤◌}
use native.Mathlib.Omega.{arith}
use lib.ListN.{length}
use borrow.Author.Tests.{ne_eqb, le-leb, lt-leb}
use Rattle.cut_lists.specs.All.{all_none, all_more}
use Rattle.codes.specs.declared.Code.TheVariants.{Powers}
use Rattle.entries.specs.Entry.{is_counted}
use Rattle.gf256.specs.Field.{product, power}
use Rattle.gf256.specs.Polynomial.{coeff, sum_below, poly_product, remainder}
use Rattle.mul_add.specs.MulAdd.{mul_add, sum_bytes}
use Rattle.mul_add.specs.Once.{count, Once}
use Rattle.par1_rules.specs.Layout.{version_for}
use Rattle.par1_set.specs.Volume.{data_for, volume_for}
use Rattle.par1_set.proofs.Examples.{p6, p6_list, p6_right}
use Rattle.par1_set.proofs.FileEntries.{files_back}
use Rattle.par1_set.proofs.Layouts.{length_bytes}
use Rattle.par1_set.proofs.Sets.{length_data}
use Rattle.parity.specs.Coefficient.{coefficient}
use Rattle.parity.specs.Parity.{is_file}
use Rattle.running_mul_add.specs.Running.{mul_add_at, push_of}
use Rattle.mul_add_sums.specs.Adding.{Adds, at_once, in_chunks, none, more}
use Rattle.mul_add_sums.specs.Claim.{Box, VolumeMerged}
use Rattle.mul_add_sums.proofs.Boxes.{two_boxes, merged_written}

one_box : Box Powers 2 p6 (1 ∷ []) (1 ∷ 2 ∷ [])
unfolding flatten push_of mul_add_at mul_add coefficient product power is_counted sum_below poly_product remainder coeff
one_box = more (in_chunks ((1 ∷ []) ∷ (2 ∷ []) ∷ []) refl refl) (none refl)

other_box : Box Powers 2 p6 (2 ∷ []) (6 ∷ 0 ∷ [])
unfolding mul_add coefficient product power is_counted sum_below poly_product remainder coeff
other_box = more (at_once refl) (none refl)

merged : Adds 1 (6 ∷ 0 ∷ []) (1 ∷ 2 ∷ []) (7 ∷ 2 ∷ [])
unfolding mul_add product sum_below poly_product remainder coeff
merged = at_once refl

split : Once (is_file 2) (1 ∷ 2 ∷ [])
unfolding count
split zero = refl
split (suc zero) = refl
split (suc (suc zero)) = refl
split (suc (suc (suc k))) =
    simp (
      ne_eqb (suc (suc (suc k))) 1 (λ e. omega arith),
      ne_eqb (suc (suc (suc k))) 2 (λ e. omega arith),
      le-leb 1 (suc (suc (suc k))) (omega arith),
      lt-leb (suc (suc (suc k))) 2 (omega arith),
    )

-- so the premises of TwoBoxes can be met
their_sum : sum_bytes (1 ∷ 2 ∷ []) (6 ∷ 0 ∷ []) ≡ data_for coefficient 2 p6
unfolding is_counted
their_sum = two_boxes Powers 2 p6 (1 ∷ []) (2 ∷ []) (1 ∷ 2 ∷ []) (6 ∷ 0 ∷ []) (omega arith) split one_box other_box

-- the head of 96 bytes, the list and the data
length_volume : length (volume_for (version_for Powers) coefficient 1 2 p6) ≡ 272
unfolding is_counted
length_volume = let right = p6_right 2 (omega arith) (omega arith) in
    let size = length_bytes (files_back right.files_right (omega (arith, p6_list))) 2 (data_for coefficient 2 p6) Powers 1 in
    omega (arith, size, p6_list, length_data coefficient 2 p6)

-- so the premises of MergedWritten can be met, by any rooms that are long enough
their_volume : (room out : List ℕ) → 174 ≤ length room → 272 ≤ length out → VolumeMerged Powers 1 2 p6 (7 ∷ 2 ∷ []) room out
their_volume room out list_fits fits =
    merged_written Powers 1 2 p6 (1 ∷ []) (2 ∷ []) (1 ∷ 2 ∷ []) (6 ∷ 0 ∷ []) (7 ∷ 2 ∷ []) room out (omega arith) (p6_right 2 (omega arith) (omega arith))
    (all_more (omega arith) (all_more (omega arith) (all_more (omega arith) all_none))) split one_box other_box merged
    (omega (arith, p6_list)) (omega (arith, length_volume))
