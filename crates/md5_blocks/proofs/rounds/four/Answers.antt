-- `md5_blocks::rounds::four` meets its contract.
-- Assumes nothing.
use Rattle.md5_blocks.proofs.Steps.{four_steps}
use Rattle.md5_blocks.proofs.rounds.four.Goals as goal

pub returns : goal.returns
returns c = let a = c.args in four_steps a.t.now a.x.now a.w a.j c.operation-a.ensures c.operation-d.ensures
    c.operation-c.ensures c.operation-b.ensures
