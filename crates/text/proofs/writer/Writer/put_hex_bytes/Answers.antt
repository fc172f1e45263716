-- `Writer::put_hex_bytes` meets its contract: the digits of a byte more are put, and those of the bytes after it remain.
-- Assumes nothing.
use mathlib.Core.Path.{refl}
use native.Mathlib.Omega.{arith}
use Rattle.text.proofs.HexLaws.{hex_none, hex_more}
use Rattle.text.proofs.WriterLaws.{puts_back, remains_all, remains_less, remains_none}
use Rattle.text.proofs.writer.Writer.put_hex_bytes.Goals as goal

pub loop-byte-init : goal.loop-byte-init
loop-byte-init c = remains_all _ _ (omega arith)

pub loop-byte-preserved : goal.loop-byte-preserved
loop-byte-preserved c = remains_less c.loop-byte.invariant (hex_more c.args.bytes.now c.loop-byte.byte-index c.loop-byte-test.true) c.put_hex.ensures

pub returns : goal.returns
returns c = puts_back refl (grind arith) refl refl (remains_none c.loop-byte.invariant (hex_none c.args.bytes.now c.loop-byte.byte-index c.loop-byte-test.false))
