-- `catalog::entry_rows::row_of` meets its contract.
-- Assumes nothing.
use mathlib.Core.Path.{refl}
use Rattle.little_endian.proofs.Numbers.{length-to_le}
use Rattle.lent_bytes.proofs.StoreLaws.{stored, stored_all}
use Rattle.catalog.proofs.RowLaws.{row-over}
use Rattle.catalog.proofs.entry_rows.row_of.Goals as goal

pub returns : goal.returns
returns c = let a = c.args in row-over a.number a.size a.hash.now refl c.requires refl
    (stored 4 (length-to_le 4 _) c.write32.ensures
    (stored 8 (length-to_le 8 _) c.write64.ensures
    (stored 16 c.requires c.put.ensures stored_all)))
