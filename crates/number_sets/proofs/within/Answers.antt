-- `number_sets::within` meets its contract.
-- Assumes nothing.
use mathlib.Core.Path.{refl, ◌∙◌}
use Prim.Native.Nat.{ℕ}
use mathlib.Core.Bool.{Bool, not, ◌||◌}
use borrow.Author.Rules.{rules}
use borrow.Author.Tests.{tests}
use Rattle.std.proofs.lemmas.Iterator.{YieldsList-from_range}
use Rattle.std.proofs.lemmas.Iterator.Search.{all_from_yields_List}
use Rattle.computed_tests.specs.Numbers.{one_to}
use Rattle.number_sets.specs.Sets.{member, within}
use Rattle.number_sets.proofs.Ranges.{all_in_range}
use Rattle.number_sets.proofs.within.Goals as goal

pub returns : goal.returns
unfolding within
returns c = let a = c.args in let test : ℕ → Bool = λ k. not (member a.set k) || one_to a.m k in
    all_from_yields_List test _ _ c.all.result c.all.ensures.ran (YieldsList-from_range 0 256 256 refl refl) (λ x b q k. search (rules, tests))
    ∙ all_in_range 256 test
