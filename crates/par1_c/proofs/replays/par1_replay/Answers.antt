-- `par1_c::replays::par1_replay` meets its contract.
-- Assumes nothing.
use mathlib.Core.Path.{ap}
use Rattle.par1_c.specs.Answers.{answered_length}
use Rattle.par1_c.proofs.ReplayLaws.{replay_asked}
use Rattle.par1_c.proofs.replays.par1_replay.Goals as goal

pub answer-requires : goal.answer-requires
answer-requires c = let a = c.args in replay_asked a.log.now a.out.now c.replay.ensures c.length_told.ensures

pub returns : goal.returns
returns c = λ d D. rw c.answer.ensures (rw c.length_told.ensures (ap answered_length (c.replay.ensures d D)))
