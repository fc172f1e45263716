-- `par1_c::catalogs::par1_catalog_add` meets its contract.
-- Assumes nothing.
use mathlib.Core.Path.{ap}
use native.Mathlib.Omega.{arith}
use Rattle.par1_c.specs.Answers.{answered_length}
use Rattle.par1_c.proofs.AnswerLaws.{add_asked}
use Rattle.par1_c.proofs.catalogs.par1_catalog_add.Goals as goal

pub answer-requires : goal.answer-requires
answer-requires c = add_asked _ _ (omega arith) c.add.ensures c.length_told.ensures

pub returns : goal.returns
returns c = rw c.answer.ensures (rw c.length_told.ensures (ap answered_length c.add.ensures))
