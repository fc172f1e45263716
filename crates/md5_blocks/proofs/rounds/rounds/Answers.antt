-- `md5_blocks::rounds::rounds` meets its contract.
-- Assumes nothing.
use Rattle.md5_blocks.proofs.Steps.{four_times}
use Rattle.md5_blocks.proofs.rounds.rounds.Goals as goal

pub returns : goal.returns
returns c = let a = c.args in four_times a.t.now a.x.now a.w 0 16 c.round-w.ensures c.round-w-2.ensures
    c.round-w-3.ensures c.round.ensures
