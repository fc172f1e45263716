-- `listing::lines::put_entries` meets its contract. The loop's invariant: the lines of the entries that remain are to be put.
-- Assumes nothing.
use mathlib.Core.Path.{◌≡◌, ap}
use native.Mathlib.Omega.{arith}
use lib.ListN.{length}
use Rattle.entries.specs.Walk.{entries_of}
use Rattle.entries.proofs.WalkLaws.{entries_most, saved_most}
use Rattle.text.proofs.WriterLaws.{remains_all, remains_less, remains_none}
use Rattle.listing.specs.Lines.{entry_lines}
use Rattle.listing.proofs.LineLaws.{lines_more}
use Rattle.listing.proofs.lines.put_entries.Goals as goal

pub loop-entry-init : goal.loop-entry-init
loop-entry-init c = let all : c.into_iter-entry-iterator.result ≡ (entries_of c.args.list.now).pieces = cc in
    rw all (omega (arith, entries_most c.args.list.now), remains_all _ _ (omega arith))

pub overflow_add-saved : goal.overflow_add-saved
overflow_add-saved c = omega (arith, ap length c.in-Some.ensures.steps, c.saved_count-saved.ensures, saved_most c.status_of-status.result)

pub loop-entry-preserved : goal.loop-entry-preserved
loop-entry-preserved c = let l = c.loop-entry in let more = c.saved_count-saved.ensures in
    let steps = c.in-Some.ensures.steps in
    let line = lines_more l.saved steps c.status_of-status.ensures c.file_size_of.ensures c.name_of-name.ensures more in
    (omega (arith, ap length steps, more, saved_most c.status_of-status.result), remains_less l.invariant.1 line c.put_line.ensures)

pub returns : goal.returns
unfolding entry_lines
returns c = remains_none c.loop-entry.invariant.1 (ap (entry_lines c.loop-entry.saved) c.in-None.ensures.steps.0)
