-- `gf256::tables::Tables::new` meets its contract: each table passes the test of it.
-- Assumes nothing.
use Rattle.std.proofs.Common.{refl}
use Rattle.gf256.specs.Polynomial.{coeff, sum_below, poly_product, remainder}
use Rattle.gf256.specs.Field.{product}
use Rattle.gf256.proofs.TableLaws.{doubles_at, counts_at, powers_are, exponents_are}
use Rattle.gf256.proofs.tables.Tables.new.Goals as goal

pub returns : goal.returns
unfolding doubles_at counts_at product poly_product sum_below coeff remainder
returns c = record { powers = powers_are _ refl refl; exponents = exponents_are _ refl refl }
