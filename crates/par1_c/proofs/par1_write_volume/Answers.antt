-- `par1_c::par1_write_volume` meets its contract.
-- Assumes nothing.
use mathlib.Core.Path.{ap}
use native.Mathlib.Omega.{arith}
use Rattle.lent_bytes.proofs.WritingLaws.{refused_as}
use Rattle.par1_c.specs.Answers.{answered}
use Rattle.par1_c.proofs.AnswerLaws.{volume_asked}
use Rattle.par1_c.proofs.CodeCalls.{known_told, unknown_told}
use Rattle.par1_c.proofs.par1_write_volume.Goals as goal

pub returns-in_default : goal.returns-in_default
returns-in_default c = unknown_told _ _ _ c.from.ensures c.in_default.ensures

pub answer-requires : goal.answer-requires
answer-requires c = volume_asked _ _ _ _ _ _ (omega arith) (refused_as c.refusal_of.ensures c.write_volume.ensures)

pub returns : goal.returns
returns c = known_told _ _ _ c.from.ensures c.in-Ok.ensures
    (rw c.answer.ensures (ap answered (refused_as c.refusal_of.ensures c.write_volume.ensures)))
