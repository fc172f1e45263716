-- `amending::planning::plan_read` meets its contract: refused by the tests, and the rest by `sized_plan`.
-- Assumes nothing.
use Rattle.std.specs.Prelude.{Ok}
use mathlib.Core.Path.{◌≡◌, sym, ap, ap₂, ◌∙◌, subst}
use mathlib.Core.Bool.{Bool, ◌&&◌}
use mathlib.Core.List.{List}
use Prim.Native.Nat.{ℕ, ◌-◌}
use lib.Dec.{leb}
use lib.ListN.{length, take, drop}
use Rattle.refusals.specs.declared.Refusal.{Refusal}
use Rattle.entries.specs.Walk.{entries_of}
use Rattle.parity.specs.Coefficient.{rule_of}
use Rattle.parity.specs.Parity.{is_file}
use Rattle.par1_read.specs.Reading.{entries_in, read_of}
use Rattle.par1_read.specs.declared.reading.Parts.{Parts}
use Rattle.amending.specs.Amending.{Change}
use Rattle.amending.specs.Call.{change_of, entry_in, file_allowed}
use Rattle.amending.specs.Plan.{span_in, tests_refusal, PartsFit, sized_plan}
use Rattle.amending.specs.declared.finding.Span.{Span}
use Rattle.amending.proofs.PlanLaws.{span_is, was_is, numbered_is, plan_refused, parts_fit, plan_sized}
use Rattle.amending.proofs.planning.plan_read.Goals as goal

-- the refusal and the place of the entry, as the code finds them
module _ (vol : List ℕ) {p : Parts} (read : read_of vol ≡ Ok p) (c : Change) (d : List ℕ) {list was : List ℕ} {span : Span} {numbered : Bool} {r : Refusal}
    (list_is : list ≡ take p.list_size (drop 96 vol)) (found : span ≡ span_in (entries_of list).pieces (c.file - 1))
    (taken : was ≡ take span.length (drop span.from list)) (number : numbered ≡ (leb 1 p.number && is_file p.saved c.file))
    (is : r ≡ tests_refusal numbered c.place (length c.old) (length c.new) was d) where
  refusal_is : r ≡ tests_refusal (file_allowed c.file vol) c.place (length c.old) (length c.new) (entry_in c.file (entries_in vol)) d
  refusal_is =
      is ∙ ap₂ (λ (b : Bool) (e : List ℕ). tests_refusal b c.place (length c.old) (length c.new) e d) (numbered_is vol read c.file number)
      (was_is vol read c.file list_is found taken)

from_is : (vol : List ℕ) {p : Parts} (read : read_of vol ≡ Ok p) (f : ℕ) {list : List ℕ} {span : Span} → list ≡ take p.list_size (drop 96 vol)
    → span ≡ span_in (entries_of list).pieces (f - 1) → span.from ≡ (span_in (entries_in vol) (f - 1)).from
from_is vol read f list_is found = ap (λ (x : Span). x.from) (span_is vol read f list_is found)

pub returns-then-refusal-ne0 : goal.returns-then-refusal-ne0
returns-then-refusal-ne0 c =
    let x = c.args.change.now in
    let change = change_of x.file x.place x.old.now x.new.now in
    plan_refused rule_of change c.args.entry.now c.args.volume.now c.requires
    (refusal_is c.args.volume.now c.requires change c.args.entry.now c.part-list.ensures c.entry_of-span.ensures c.part-was.ensures
    c.file_allowed-numbered.ensures c.tests_refusal-refusal.ensures) c.if-refusal-ne0.true

pub sized_plan-requires : goal.sized_plan-requires
sized_plan-requires c =
    let x = c.args.change.now in
    let change = change_of x.file x.place x.old.now x.new.now in
    subst (PartsFit c.args.parts c.entry_of-span.result.from x.file x.place) (sym c.read64-size.ensures)
    (parts_fit rule_of change c.args.entry.now c.args.volume.now c.requires
    (refusal_is c.args.volume.now c.requires change c.args.entry.now c.part-list.ensures c.entry_of-span.ensures c.part-was.ensures
    c.file_allowed-numbered.ensures c.tests_refusal-refusal.ensures) c.if-refusal-ne0.false
    (from_is c.args.volume.now c.requires x.file c.part-list.ensures c.entry_of-span.ensures))

pub returns : goal.returns
returns c =
    let x = c.args.change.now in
    let change = change_of x.file x.place x.old.now x.new.now in
    c.sized_plan.ensures ∙ ap (sized_plan rule_of c.args.parts c.entry_of-span.result.from x.file x.place) c.read64-size.ensures
    ∙ plan_sized rule_of change c.args.entry.now c.args.volume.now c.requires
    (refusal_is c.args.volume.now c.requires change c.args.entry.now c.part-list.ensures c.entry_of-span.ensures c.part-was.ensures
    c.file_allowed-numbered.ensures c.tests_refusal-refusal.ensures) c.if-refusal-ne0.false
    (from_is c.args.volume.now c.requires x.file c.part-list.ensures c.entry_of-span.ensures)
