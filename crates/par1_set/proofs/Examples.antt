-- Document 01, P6, as a set with a file between them that is not saved and is the longest: "files (1, 2) and (3): volume 1 is (2, 2),
-- volume 2 is (7, 2), volume 3 is (13, 2)", as long as "the greatest size among saved entries". And a set with an entry that is marked as checked
-- (document 02, 2026-09: "Old volumes that carry it are still read").
-- Assumes nothing.
use mathlib.Core.Path.{◌≡◌, refl}
use mathlib.Core.Bool.{true}
use mathlib.Core.List.{List, [], ◌∷◌, flatten}
use Prim.Native.Nat.{ℕ, ◌^◌, ◌<◌, ◌≤◌}
use native.Mathlib.Omega.{arith}
use lib.ListN.{length, length-append}
use Rattle.cut_lists.specs.All.{all_none, all_more}
use Rattle.entries.specs.Entry.{is_counted, file_size_allowed, units_of, unit_allowed, is_dots, name_allowed}
use Rattle.gf256.specs.Polynomial.{coeff, sum_below, poly_product, remainder}
use Rattle.gf256.specs.Field.{product, power}
use Rattle.lent_bytes.specs.Equal.{equal}
use Rattle.little_endian.specs.Bytes.{from_le, le_at}
use Rattle.par1_write.proofs.EntryWritingLaws.{length-entry}
use Rattle.parity.specs.Coefficient.{coefficient}
use Rattle.computed_tests.specs.Lists.{list_below}
use Rattle.parity.specs.Parity.{parity_byte, parity}
use Rattle.par1_set.specs.Files.{File, list_for, FileRight, Writable}
use Rattle.par1_set.specs.Volume.{data_for, VolumeRight}

-- a file with the name "A"
abbrev pub file : List ℕ → ℕ → File
file contents status = record { contents = contents; status = status; name = 65 ∷ 0 ∷ [] }

abbrev pub p6 : List File
p6 = file (1 ∷ 2 ∷ []) 1 ∷ file (9 ∷ 9 ∷ 9 ∷ []) 0 ∷ file (3 ∷ []) 1 ∷ []

p6-data :
    (data_for coefficient 1 p6 ≡ 2 ∷ 2 ∷ [])
    × (data_for coefficient 2 p6 ≡ 7 ∷ 2 ∷ [])
    × (data_for coefficient 3 p6 ≡ 13 ∷ 2 ∷ [])
unfolding parity list_below parity_byte coefficient product power is_counted sum_below poly_product remainder coeff
p6-data = (refl, refl, refl)

-- all saved files are empty, beside a large one that is not saved
empty_data : data_for coefficient 1 (file [] 1 ∷ file (9 ∷ 9 ∷ []) 0 ∷ []) ≡ []
unfolding parity list_below is_counted
empty_data = refl

pub p6_list : length (list_for p6) ≡ 174
unfolding flatten
p6_list = simp (length-append, length-entry)

-- the set keeps the rules, with each of its volumes
file_right : (contents : List ℕ) (status : ℕ) → file_size_allowed (length contents) ≡ true → status < 2 ^ 64 → FileRight (file contents status)
unfolding name_allowed is_dots equal units_of unit_allowed le_at from_le
file_right contents status sized small = record { size_right = sized; status_right = small; name_right = refl }

pub p6_right : (v : ℕ) → 1 ≤ v → v ≤ 253 → VolumeRight v p6
unfolding is_counted
p6_right v low high = record {
  files_right = all_more (file_right _ 1 refl (omega arith)) (all_more (file_right _ 0 refl (omega arith)) (all_more (file_right _ 1 refl (omega arith)) all_none));
  volume_low = omega arith;
  volume_high = omega arith;
  count_low = omega arith;
  length_right = omega (arith, p6_list);
}

-- files 1 and 2 of the same set, the first marked as checked: it is not written any more, and its volume is still read
abbrev marked : List File
marked = file (1 ∷ 2 ∷ []) 3 ∷ file (3 ∷ []) 1 ∷ []

marked_list : length (list_for marked) ≡ 116
unfolding flatten
marked_list = simp (length-append, length-entry)

marked_right : VolumeRight 1 marked
unfolding is_counted
marked_right = record {
  files_right = all_more (file_right _ 3 refl (omega arith)) (all_more (file_right _ 1 refl (omega arith)) all_none);
  volume_low = omega arith;
  volume_high = omega arith;
  count_low = omega arith;
  length_right = omega (arith, marked_list);
}

not_written : Writable (file (1 ∷ 2 ∷ []) 3) → ⊥
not_written h = omega arith

-- the mark does not change the parity
marked_data : data_for coefficient 2 marked ≡ data_for coefficient 2 p6
unfolding parity list_below parity_byte coefficient product power is_counted sum_below poly_product remainder coeff
marked_data = refl
