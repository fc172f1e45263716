-- `little_endian::put` meets its contract: a store of what has room is a store of all.
-- Assumes nothing.
use mathlib.Core.Path.{sym, ◌∙◌}
use native.Mathlib.Omega.{arith}
use Rattle.little_endian.proofs.Stores.{sets_out, sets_fitting}
use Rattle.little_endian.proofs.put.Goals as goal

pub returns-else-bytes-room : goal.returns-else-bytes-room
returns-else-bytes-room c = let a = c.args in c.store-else-bytes-room.ensures ∙ sets_fitting a.out.now a.bytes.now a.at _ (omega arith)

pub returns-else-at-out : goal.returns-else-at-out
returns-else-at-out c = let a = c.args in sym (sets_out a.out.now a.at a.bytes.now c.if-at-out.false)
