-- `inventory_bytes::bytes_of_count` meets its contract.
-- Assumes nothing.
use Rattle.little_endian.specs.Bytes.{numbers, to_le}
use Rattle.inventory_bytes.proofs.bytes_of_count.Goals as goal

pub returns : goal.returns
unfolding numbers to_le
returns c = rw (c.from.ensures, c.from-2.ensures, c.from-3.ensures) at c.write_numbers.ensures
