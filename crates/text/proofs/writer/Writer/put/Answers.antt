-- `Writer::put` meets its contract. Inside the buffer one byte is stored; past its end the position alone moves on.
-- Assumes nothing.
use mathlib.Core.Path.{refl}
use Prim.Native.Nat.{◌+◌}
use native.Mathlib.Omega.{arith}
use Rattle.text.proofs.WriterLaws.{byte_stored, byte_counted}
use Rattle.text.proofs.writer.Writer.put.Goals as goal

pub returns-then-at-self : goal.returns-then-at-self
returns-then-at-self c = let w = c.args.self.now in record {
  same_reference = refl;
  room = omega arith;
  puts = byte_stored w.out.now w.at (w.at + 1) c.args.byte (omega arith) (omega arith) c.if-at-self.true;
}

pub returns-else-at-self : goal.returns-else-at-self
returns-else-at-self c = let w = c.args.self.now in record {
  same_reference = refl;
  room = omega arith;
  puts = byte_counted w.out.now w.at _ c.args.byte (omega arith) c.saturating_add-self.ensures c.if-at-self.false;
}
