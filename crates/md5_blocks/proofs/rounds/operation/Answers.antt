-- `md5_blocks::rounds::operation` meets its contract.
-- Assumes nothing.
use Rattle.md5_blocks.proofs.Rows.{shift_range}
use Rattle.md5_blocks.proofs.Steps.{operation_is}
use Rattle.md5_blocks.proofs.rounds.operation.Goals as goal

pub rotl-requires : goal.rotl-requires
rotl-requires c = rw c.shift.ensures (shift_range c.args.j c.requires)

pub returns : goal.returns
returns c = let a = c.args in
    operation_is a.t.now a.x.now a.j a.a a.b a.c a.d c.requires c.word-k.ensures.1 c.auxiliary-f.ensures c.shift.ensures c.rotl.ensures
