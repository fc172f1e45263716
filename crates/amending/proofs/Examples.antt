-- Changes of both kinds to document 01's P6: file 2 grows by two bytes, past the greatest size, and a byte of file 1 changes.
-- Assumes nothing.
use mathlib.Core.Path.{◌≡◌, refl}
use mathlib.Core.List.{[], ◌∷◌}
use native.Mathlib.Omega.{arith}
use Rattle.computed_tests.specs.Lists.{list_below}
use Rattle.entries.specs.Entry.{is_counted}
use Rattle.gf256.specs.Polynomial.{coeff, sum_below, poly_product, remainder}
use Rattle.gf256.specs.Field.{product, power}
use Rattle.parity.specs.Coefficient.{coefficient}
use Rattle.parity.specs.Parity.{parity_byte, parity}
use Rattle.par1_set.specs.Volume.{data_for}
use Rattle.par1_set.proofs.Examples.{p6, p6_list}
use Rattle.amending.specs.Amending.{Change, inside, on_end, amended}
use Rattle.amending.specs.Claim.{AmendRight}

abbrev grow : Change
grow = record { file = 2; place = 1; old = []; new = 7 ∷ 8 ∷ [] }

abbrev edit : Change
edit = record { file = 1; place = 1; old = 2 ∷ []; new = 3 ∷ [] }

-- the data grows with the file
grown : data_for coefficient 1 (amended grow p6) ≡ 2 ∷ 5 ∷ 8 ∷ []
unfolding parity list_below parity_byte coefficient product power is_counted sum_below poly_product remainder coeff
grown = refl

edited : data_for coefficient 2 (amended edit p6) ≡ 7 ∷ 3 ∷ []
unfolding parity list_below parity_byte coefficient product power is_counted sum_below poly_product remainder coeff
edited = refl

-- both may be made
grow_right : AmendRight grow p6
unfolding is_counted
grow_right = record {
  low = omega arith;
  high = omega arith;
  change_right = record { kind = on_end refl refl; old_true = refl };
  size_right = refl;
  length_right = omega (arith, p6_list);
}

edit_right : AmendRight edit p6
unfolding is_counted
edit_right = record {
  low = omega arith;
  high = omega arith;
  change_right = record { kind = inside refl (omega arith); old_true = refl };
  size_right = refl;
  length_right = omega (arith, p6_list);
}
