-- `catalog::opening::put_head` meets its contract.
-- Assumes nothing.
use Rattle.little_endian.proofs.Numbers.{length-to_le}
use Rattle.lent_bytes.proofs.StoreLaws.{stored, stored_all, stores_flatten}
use Rattle.catalog.specs.Rows.{catalog_head}
use Rattle.catalog.proofs.opening.put_head.Goals as goal

pub returns : goal.returns
unfolding catalog_head
returns c = stores_flatten
    (stored 4 (length-to_le 4 _) c.write32.ensures
    (stored 4 (length-to_le 4 _) c.write32-2.ensures
    (stored 4 (length-to_le 4 _) c.write32-3.ensures
    (stored 4 (length-to_le 4 _) c.write32-4.ensures stored_all))))
