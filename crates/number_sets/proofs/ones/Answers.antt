-- `number_sets::ones` meets its contract.
-- Assumes nothing.
use mathlib.Core.Path.{◌∙◌}
use borrow.Author.Rules.{rules}
use lib.Count.{ones}
use Rattle.std.proofs.lemmas.Iterator.{YieldsList-from_slice, YieldsList-from_map}
use Rattle.std.proofs.lemmas.Iterator.Consumers.{sum_by_from_yields_List, fits_by_from_yields_list}
use Rattle.number_sets.proofs.Words.{size_by_sum, ones_fit}
use Rattle.number_sets.proofs.ones.Goals as goal

pub sum-requires-clause-fits : goal.sum-requires-clause-fits
sum-requires-clause-fits c = let words = c.args.words.now in
    fits_by_from_yields_list ones words c.map.result _
    (YieldsList-from_map _ ones (YieldsList-from_slice words cc) c.map.ensures.closure (λ x r q k. search rules))
    (ones_fit words (record { four = c.requires; fits = λ j. (c.type_inv.words j).fits }))

pub returns : goal.returns
returns c = let words = c.args.words.now in
    sum_by_from_yields_List ones words c.map.result c.sum.result c.sum.ensures.ran
    (YieldsList-from_map _ ones (YieldsList-from_slice words cc) c.map.ensures.closure (λ x r q k. search rules))
    ∙ size_by_sum words (record { four = c.requires; fits = λ j. (c.type_inv.words j).fits })
