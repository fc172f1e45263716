-- `par1_c::catalogs::load_plan` meets its contract.
-- Assumes nothing.
use mathlib.Core.Path.{ap, ◌∙◌}
use Rattle.par1_c.specs.Answers.{answer_of, length_told, filled_count, load_plan}
use Rattle.par1_c.proofs.AnswerLaws.{load_asked}
use Rattle.par1_c.proofs.catalogs.load_plan.Goals as goal

pub answer-requires : goal.answer-requires
answer-requires c = load_asked _ _ c.loading-writing.ensures c.length_told.ensures

pub returns : goal.returns
unfolding load_plan
returns c = let number = c.answer.ensures ∙ ap answer_of (c.length_told.ensures ∙ ap length_told c.loading-writing.ensures) in
    let count = c.filled.ensures ∙ ap filled_count c.loading-writing.ensures in
    λ j. record { answer = number j; count = count j }
