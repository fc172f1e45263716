-- `Writer::put_field` meets its contract.
-- Assumes nothing.
use Rattle.text.proofs.WriterLaws.{puts_then}
use Rattle.text.proofs.writer.Writer.put_field.Goals as goal

pub returns : goal.returns
returns c = puts_then c.put_bytes.ensures c.put_decimal.ensures
