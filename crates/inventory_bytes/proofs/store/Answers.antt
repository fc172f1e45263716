-- `inventory_bytes::store` meets its contract.
-- Assumes nothing.
use mathlib.Core.Path.{refl}
use Rattle.lent_bytes.proofs.WritingLaws.{numbered-none}
use Rattle.inventory_bytes.specs.Inventories.{stored, stored_by}
use Rattle.inventory_bytes.proofs.store.Goals as goal

pub returns-in-Ok : goal.returns-in-Ok
unfolding stored stored_by
returns-in-Ok c = rw c.in-Ok.is (numbered-none _ _ 0 refl c.write.ensures c.bytes_of-bytes.ensures)

pub returns-in-Err : goal.returns-in-Err
unfolding stored
returns-in-Err c = rw c.in-Err.is
