-- `little_endian::read64` meets its contract: the number is that of the bytes there.
-- Assumes nothing.
use Rattle.little_endian.proofs.Reading.{le_at_bytes}
use Rattle.little_endian.proofs.read64.Goals as goal

pub returns : goal.returns
returns c = rw c.from_le_bytes.ensures (le_at_bytes 7 c.bytes_at.result c.args.s.now c.args.at c.bytes_at.ensures)
