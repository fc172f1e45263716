-- `md5_blocks::rounds::round` meets its contract.
-- Assumes nothing.
use Rattle.md5_blocks.proofs.Steps.{four_times}
use Rattle.md5_blocks.proofs.rounds.round.Goals as goal

pub returns : goal.returns
returns c = let a = c.args in four_times a.t.now a.x.now a.w a.j 4 c.four-w.ensures c.four-w-2.ensures
    c.four-w-3.ensures c.four.ensures
