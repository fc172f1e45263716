-- `catalog::entry_rows::gives_rows` meets its contract.
-- Assumes nothing.
use mathlib.Core.Path.{◌≡◌, refl, sym, ap, ◌∙◌}
use mathlib.Core.List.{flatten}
use Rattle.entries.specs.Entry.{status_of, saved_count}
use Rattle.entries.specs.Walk.{entries_of}
use Rattle.catalog.specs.Rows.{rows_after}
use Rattle.catalog.proofs.ListLaws.{left_all, left_more, rows_next, compare_next, compare_other, compare_end}
use Rattle.catalog.proofs.entry_rows.gives_rows.Goals as goal

pub loop-entry-init : goal.loop-entry-init
loop-entry-init c = let all : c.into_iter-entry-iterator.result ≡ (entries_of c.args.list.now).pieces = cc in rw all (left_all c.args.list.now, refl)

pub returns-in_default : goal.returns-in_default
returns-in_default c = let l = c.loop-entry in
    sym (compare_other _ _ l.rest.now (rows_next l.saved _ c.in-Some.ensures.steps c.entry_row-row.ensures) c.in_default.ensures.cases) ∙ l.invariant.1

pub loop-entry-preserved : goal.loop-entry-preserved
loop-entry-preserved c = let l = c.loop-entry in let some = c.in-Some-strip_prefix.ensures.cases in
    let saved : c.saved_count-saved.result ≡ saved_count (status_of c.in-Some.entry.now) = c.saved_count-saved.ensures ∙ ap saved_count c.status_of.ensures in
    rw saved (
      (left_more c.in-Some.ensures.steps l.invariant.0).left,
      sym (compare_next _ _ l.rest.now (rows_next l.saved _ c.in-Some.ensures.steps c.entry_row-row.ensures) some.0 some.1) ∙ l.invariant.1,
    )

pub returns : goal.returns
unfolding rows_after flatten
returns c = c.is_empty.ensures ∙ sym (compare_end c.loop-entry.rest.now) ∙ rw c.in-None.ensures.steps.0 at c.loop-entry.invariant.1
