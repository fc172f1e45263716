-- `Writer::put_bytes` meets its contract: a byte more is put, and the text after it remains.
-- Assumes nothing.
use mathlib.Core.Path.{refl}
use native.Mathlib.Omega.{arith}
use lib.ListN.{drop_of_length-le}
use Rattle.lent_bytes.proofs.EachLaws.{drop_at}
use Rattle.text.proofs.WriterLaws.{puts_back, remains_all, remains_less, remains_none}
use Rattle.text.proofs.writer.Writer.put_bytes.Goals as goal

pub loop-byte-init : goal.loop-byte-init
loop-byte-init c = remains_all _ _ (omega arith)

pub loop-byte-preserved : goal.loop-byte-preserved
loop-byte-preserved c = remains_less c.loop-byte.invariant (drop_at c.args.text.now c.loop-byte.byte-index c.loop-byte-test.true) c.put.ensures

pub returns : goal.returns
returns c = puts_back refl (grind arith) refl refl (remains_none c.loop-byte.invariant (drop_of_length-le c.args.text.now c.loop-byte-test.false))
