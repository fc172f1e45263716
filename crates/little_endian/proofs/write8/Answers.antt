-- `little_endian::write8` meets its contract: its byte is stored.
-- Assumes nothing.
use native.Mathlib.Nat.{mod-eq_of_lt}
use Prim.Native.Nat.{◌<◌}
use Rattle.std.proofs.Common.{rules}
use Rattle.little_endian.specs.Bytes.{to_le}
use Rattle.little_endian.proofs.write8.Goals as goal

pub returns : goal.returns
unfolding to_le
returns c = let byte : c.args.x < 256 = search rules in rw (mod-eq_of_lt byte) c.put.ensures
