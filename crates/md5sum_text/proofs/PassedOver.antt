-- Names that no entry may have are listed nowhere.
--
--   names_passed_over    the claim: the entries of a file keep every rule, so none of them has such a name
-- Assumes nothing.
use mathlib.Core.Path.{sym, ◌∙◌, subst}
use mathlib.Core.Bool.{true≢false}
use mathlib.Core.List.{List, []}
use Prim.Native.Nat.{ℕ}
use lib.ListN.{get_or}
use Rattle.cut_lists.proofs.AllLaws.{all_at}
use Rattle.entries.specs.Claim.{Keeps, Unstorable, unstorable}
use Rattle.entries.specs.Entry.{name_of}
use Rattle.entries.proofs.FirstFaults.{entries_keep}
use Rattle.entries.proofs.NameFaults.{name_rule}
use Rattle.par1_rules.specs.Layout.{list_of}
use Rattle.par1_read.specs.Reading.{entries_in}
use Rattle.md5sum_text.specs.Claim.{NamesPassedOver}

pub names_passed_over : NamesPassedOver
names_passed_over f name bad listed = let e : List ℕ = get_or (entries_in f) listed.0 [] in
    let kept : Keeps e = all_at [] (entries_keep (list_of f)) listed.0 listed.1 in
    let wrong = (name_rule (name_of e)).1 (unstorable (subst Unstorable (sym listed.2.1) bad)) in
    true≢false (sym kept.name_right ∙ wrong)
