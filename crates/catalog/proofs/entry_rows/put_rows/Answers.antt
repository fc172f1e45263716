-- `catalog::entry_rows::put_rows` meets its contract.
-- Assumes nothing.
use mathlib.Core.Path.{◌≡◌, refl, ap, ◌∙◌}
use native.Mathlib.Omega.{arith}
use lib.ListN.{length}
use mathlib.Core.List.{flatten}
use Rattle.entries.specs.Entry.{status_of, saved_count}
use Rattle.entries.specs.Walk.{entries_of}
use Rattle.catalog.specs.Rows.{rows_after}
use Rattle.catalog.proofs.ListLaws.{left_all, left_more, row_length, rows_next, store_next}
use Rattle.catalog.proofs.entry_rows.put_rows.Goals as goal

pub loop-entry-init : goal.loop-entry-init
loop-entry-init c = let all : c.into_iter-entry-iterator.result ≡ (entries_of c.args.list.now).pieces = cc in
    rw all (left_all c.args.list.now, c.requires, refl)

pub loop-entry-preserved : goal.loop-entry-preserved
loop-entry-preserved c = let l = c.loop-entry in let steps = c.in-Some.ensures.steps in let next = left_more steps l.invariant.0 in
    let saved : c.saved_count-saved.result ≡ saved_count (status_of c.in-Some.entry.now) = c.saved_count-saved.ensures ∙ ap saved_count c.status_of.ensures in
    let size : length c.entry_row-row.result ≡ 28 = ap length c.entry_row-row.ensures ∙ row_length _ next.long _ in
    let same : length c.put.new.out ≡ length l.out = c.put.auto.out in
    rw saved (
      next.left,
      omega (arith, ap length steps, same, l.invariant.1),
      store_next l.out c.entry_row-row.result l.at _ size (rows_next l.saved _ steps c.entry_row-row.ensures) c.put.ensures ∙ l.invariant.2,
    )

pub returns : goal.returns
unfolding rows_after flatten
returns c = rw c.in-None.ensures.steps.0 at c.loop-entry.invariant.2
