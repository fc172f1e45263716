-- `inventory_bytes::opened_by` meets its contract.
-- Assumes nothing.
use Rattle.inventory_bytes.proofs.opened_by.Goals as goal

pub returns : goal.returns
returns c = rw c.read_numbers.ensures at c.«open».ensures
