-- `par1_c::par1_amend` meets its contract.
-- Assumes nothing.
use mathlib.Core.Path.{ap}
use native.Mathlib.Omega.{arith}
use Rattle.par1_c.specs.Answers.{answered_length}
use Rattle.par1_c.proofs.AnswerLaws.{amend_asked}
use Rattle.par1_c.proofs.par1_amend.Goals as goal

pub answer-requires : goal.answer-requires
answer-requires c = amend_asked _ _ _ _ (omega arith) c.amend.ensures c.length_told.ensures

pub returns : goal.returns
returns c = rw c.answer.ensures (rw c.length_told.ensures (ap answered_length c.amend.ensures))
