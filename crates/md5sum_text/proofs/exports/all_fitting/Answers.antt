-- `md5sum_text::exports::all_fitting` meets its contract: the test of each entry.
-- Assumes nothing.
use Rattle.std.proofs.Common.{rules, tests}
use Rattle.std.proofs.lemmas.Iterator.Consumers.{YieldsList-from_first}
use Rattle.std.proofs.lemmas.Iterator.Search.{all_from_yields_List}
use Rattle.md5sum_text.specs.Names.{is_fitting}
use Rattle.md5sum_text.proofs.exports.all_fitting.Goals as goal

pub returns : goal.returns
returns c = all_from_yields_List is_fitting _ _ _ c.all.ensures.ran (YieldsList-from_first (λ x. x.now) (λ s. s) _ c.of.ensures) (λ x b q k. search (rules, tests))
