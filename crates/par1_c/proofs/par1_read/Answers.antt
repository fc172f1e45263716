-- `par1_c::par1_read` meets its contract.
-- Assumes nothing.
use mathlib.Core.Path.{ap}
use native.Mathlib.Omega.{arith}
use Rattle.par1_c.specs.Answers.{answered}
use Rattle.par1_c.proofs.AnswerLaws.{read_asked}
use Rattle.par1_c.proofs.par1_read.Goals as goal

pub answer-requires : goal.answer-requires
answer-requires c = read_asked _ _ (omega arith) (rw c.read.ensures at c.put_reading.ensures)

pub returns : goal.returns
returns c = rw c.answer.ensures (ap answered (rw c.read.ensures at c.put_reading.ensures))
