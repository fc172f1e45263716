-- `entries::only_dots` meets its contract: the test of each unit.
-- Assumes nothing.
use Rattle.std.proofs.Common.{rules, tests}
use Rattle.std.proofs.lemmas.Iterator.Consumers.{YieldsList-from_first}
use Rattle.std.proofs.lemmas.Iterator.Search.{all_from_yields_List}
use Rattle.entries.specs.Entry.{is_dot}
use Rattle.entries.proofs.only_dots.Goals as goal

pub returns : goal.returns
returns c = all_from_yields_List is_dot _ _ _ c.all.ensures.ran (YieldsList-from_first (λ u. u) (λ s. s) _ c.units_of.ensures) (λ x b q k. search (rules, tests))
