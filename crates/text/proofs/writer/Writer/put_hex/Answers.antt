-- `Writer::put_hex` meets its contract: two puts in a row, of the two digits.
-- Assumes nothing.
use Rattle.text.proofs.WriterLaws.{puts_then}
use Rattle.text.proofs.writer.Writer.put_hex.Goals as goal

pub returns : goal.returns
returns c = rw (← c.hex_digit.ensures, ← c.hex_digit-2.ensures) (puts_then c.put.ensures c.put-2.ensures)
