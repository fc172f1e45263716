-- `par1_c::reads::par1_read_end` meets its contract.
-- Assumes nothing.
use mathlib.Core.Path.{ap}
use Rattle.par1_c.specs.Answers.{answered_end}
use Rattle.par1_c.proofs.AnswerLaws.{read_end_asked}
use Rattle.par1_c.proofs.reads.par1_read_end.Goals as goal

pub answer-requires : goal.answer-requires
answer-requires c = read_end_asked _ _ c.end_read.ensures

pub returns : goal.returns
returns c = rw c.answer.ensures (ap answered_end c.end_read.ensures)
