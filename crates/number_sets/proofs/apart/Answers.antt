-- `number_sets::apart` meets its contract.
-- Assumes nothing.
use mathlib.Core.Path.{refl, ◌∙◌}
use Prim.Native.Nat.{ℕ}
use mathlib.Core.Bool.{Bool, not, ◌&&◌}
use borrow.Author.Rules.{rules}
use borrow.Author.Tests.{tests}
use Rattle.std.proofs.lemmas.Iterator.{YieldsList-from_range}
use Rattle.std.proofs.lemmas.Iterator.Search.{all_from_yields_List}
use Rattle.number_sets.specs.Sets.{member, apart}
use Rattle.number_sets.proofs.Ranges.{all_in_range}
use Rattle.number_sets.proofs.apart.Goals as goal

pub returns : goal.returns
unfolding apart
returns c = let a = c.args in let test : ℕ → Bool = λ k. not (member a.a k && member a.b k) in
    all_from_yields_List test _ _ c.all.result c.all.ensures.ran (YieldsList-from_range 0 256 256 refl refl) (λ x b q k. search (rules, tests))
    ∙ all_in_range 256 test
