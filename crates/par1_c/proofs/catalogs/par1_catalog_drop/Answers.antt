-- `par1_c::catalogs::par1_catalog_drop` meets its contract.
-- Assumes nothing.
use mathlib.Core.Path.{ap}
use Rattle.par1_c.specs.Answers.{answered_length}
use Rattle.par1_c.proofs.AnswerLaws.{drop_asked}
use Rattle.par1_c.proofs.catalogs.par1_catalog_drop.Goals as goal

pub answer-requires : goal.answer-requires
answer-requires c = drop_asked _ _ c.drop_volume.ensures c.length_told.ensures

pub returns : goal.returns
returns c = rw c.answer.ensures (rw c.length_told.ensures (ap answered_length c.drop_volume.ensures))
