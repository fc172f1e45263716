-- `little_endian::read8` meets its contract: a number of one byte is the byte, 0 past the end.
-- Assumes nothing.
use Rattle.std.proofs.Common.{rules}
use Rattle.little_endian.proofs.Reading.{le_at_byte}
use Rattle.little_endian.proofs.read8.Goals as goal

pub returns : goal.returns
returns c = let a = c.args in rw le_at_byte (search rules)
