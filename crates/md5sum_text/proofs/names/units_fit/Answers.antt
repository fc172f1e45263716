-- `md5sum_text::names::units_fit` meets its contract: the test of each unit.
-- Assumes nothing.
use Rattle.std.proofs.Common.{rules, tests}
use Rattle.std.proofs.lemmas.Iterator.Consumers.{YieldsList-from_first}
use Rattle.std.proofs.lemmas.Iterator.Search.{all_from_yields_List}
use Rattle.md5sum_text.specs.Names.{unit_fits}
use Rattle.md5sum_text.proofs.names.units_fit.Goals as goal

pub returns : goal.returns
returns c = all_from_yields_List unit_fits _ _ _ c.all.ensures.ran (YieldsList-from_first (λ u. u) (λ s. s) _ c.units_of.ensures) (λ x b q k. search (rules, tests))
