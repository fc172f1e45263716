-- `par1_c::texts::par1_export` meets its contract.
-- Assumes nothing.
use mathlib.Core.Path.{ap}
use native.Mathlib.Omega.{arith}
use Rattle.par1_c.specs.Answers.{answered_length}
use Rattle.par1_c.proofs.AnswerLaws.{export_asked}
use Rattle.par1_c.proofs.texts.par1_export.Goals as goal

pub answer-requires : goal.answer-requires
answer-requires c = export_asked _ _ (omega arith) c.export.ensures c.length_told.ensures

pub returns : goal.returns
returns c = rw c.answer.ensures (rw c.length_told.ensures (ap answered_length c.export.ensures))
