-- `par1_c::texts::par1_compare` meets its contract.
-- Assumes nothing.
use mathlib.Core.Path.{ap}
use Rattle.par1_c.specs.Answers.{answered_length}
use Rattle.par1_c.proofs.AnswerLaws.{compare_asked}
use Rattle.par1_c.proofs.texts.par1_compare.Goals as goal

pub answer-requires : goal.answer-requires
answer-requires c = compare_asked _ _ _ c.compare.ensures c.length_told.ensures

pub returns : goal.returns
returns c = rw c.answer.ensures (rw c.length_told.ensures (ap answered_length c.compare.ensures))
