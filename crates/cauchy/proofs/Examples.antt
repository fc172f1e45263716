-- The definition run on numbers at the ends of the range; 254 is 1 exclusive-or 255, and 1 is 254 exclusive-or 255.
--
--   first_coefficient     file 1 in volume 1 has the inverse of 254
--   last_file             file 254 in volume 1 has that of 1
-- Assumes nothing.
use Rattle.std.proofs.Common.{◌≡◌, refl}
use Rattle.gf256.specs.Polynomial.{coeff, sum_below, poly_product, remainder}
use Rattle.gf256.specs.Field.{product, inverse, inverse_below}
use Rattle.cauchy.specs.Cauchy.{cauchy}

first_coefficient : cauchy 1 1 ≡ inverse 254
unfolding cauchy
first_coefficient = refl

last_file : cauchy 254 1 ≡ 1
unfolding cauchy inverse inverse_below product poly_product remainder sum_below coeff
last_file = refl
