-- `par1_c::catalogs::par1_catalog_open` meets its contract.
-- Assumes nothing.
use mathlib.Core.Path.{ap}
use native.Mathlib.Omega.{arith}
use Rattle.par1_c.specs.Answers.{answered_length}
use Rattle.par1_c.proofs.AnswerLaws.{open_asked}
use Rattle.par1_c.proofs.catalogs.par1_catalog_open.Goals as goal

pub answer-requires : goal.answer-requires
answer-requires c = open_asked _ _ (omega arith) c.open.ensures c.length_told.ensures

pub returns : goal.returns
returns c = rw c.answer.ensures (rw c.length_told.ensures (ap answered_length c.open.ensures))
