-- `Writer::put_hex_bytes`: the digits of the bytes that remain.
-- Assumes nothing.
use lib.ListN.{drop}
use Rattle.text.specs.Hex.{hex_bytes}
use Rattle.text.proofs.WriterLaws.{Remains}
use Rattle.text.proofs.writer.Writer.put_hex_bytes.Given as goal

abbrev pub invariant-loop-byte : goal.invariant-loop-byte
invariant-loop-byte l = Remains l.initial.here l.here (hex_bytes (drop l.byte-index l.bytes)) (hex_bytes l.bytes)
