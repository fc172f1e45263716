-- `text::scan::length_to` meets its contract.
-- Assumes nothing.
use mathlib.Core.Path.{◌≡◌, refl, ap, ◌∙◌}
use Rattle.std.proofs.Common.{rules}
use denote.Ref.{Bor}
use mathlib.Core.List.{List}
use Prim.Native.Nat.{ℕ}
use lib.ListN.{drop}
use lib.Dec.{eqb}
use Rattle.std.proofs.lemmas.Iterator.{YieldsList-from_slice}
use Rattle.std.proofs.lemmas.Iterator.Search.{position_from_yields_List}
use Rattle.text.specs.TextLines.{length_to}
use Rattle.text.proofs.ScanLaws.{rest_from, to_first}
use Rattle.text.proofs.scan.length_to.Goals as goal

pub returns : goal.returns
returns c = let a = c.args in let rest = c.unwrap_or-rest.result.now in
    let whole : rest ≡ drop a.at a.text.now = ap (λ (r : Bor (List ℕ)). r.now) c.unwrap_or-rest.ensures ∙ rest_from a.text.now a.at _ _ c.get.ensures.lookup.0 refl in
    c.unwrap_or.ensures
    ∙ to_first a.byte rest
    (position_from_yields_List (λ x. eqb x a.byte) _ _ _ c.position.ensures.ran (YieldsList-from_slice rest cc) (λ x b q k. search rules))
    ∙ ap (length_to a.byte) whole
