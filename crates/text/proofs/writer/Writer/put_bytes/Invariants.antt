-- `Writer::put_bytes`: what remains of the text.
-- Assumes nothing.
use lib.ListN.{drop}
use Rattle.text.proofs.WriterLaws.{Remains}
use Rattle.text.proofs.writer.Writer.put_bytes.Given as goal

abbrev pub invariant-loop-byte : goal.invariant-loop-byte
invariant-loop-byte l = Remains l.initial.here l.here (drop l.byte-index l.text) l.text
