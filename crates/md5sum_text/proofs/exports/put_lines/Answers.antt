-- `md5sum_text::exports::put_lines` meets its contract. The loop's invariant: the entries that remain fit, and their lines are to be put.
-- Assumes nothing.
use mathlib.Core.Path.{◌≡◌, ap}
use native.Mathlib.Omega.{arith}
use Rattle.computed_tests.proofs.Tests.{and_both}
use Rattle.entries.specs.Walk.{entries_of}
use Rattle.text.proofs.WriterLaws.{remains_all, remains_less, remains_none}
use Rattle.md5sum_text.specs.Names.{is_fitting}
use Rattle.md5sum_text.specs.Export.{export_text}
use Rattle.md5sum_text.proofs.exports.put_lines.Goals as goal

pub loop-entry-init : goal.loop-entry-init
loop-entry-init c = let all : c.into_iter-entry-iterator.result ≡ (entries_of c.args.list.now).pieces = cc in
    rw all (c.requires, remains_all _ _ (omega arith))

pub put_line-requires : goal.put_line-requires
put_line-requires c = (and_both (is_fitting c.in-Some.entry.now) _ (rw c.in-Some.ensures.steps at c.loop-entry.invariant.0)).0

pub loop-entry-preserved : goal.loop-entry-preserved
unfolding export_text
loop-entry-preserved c = let l = c.loop-entry in let steps = c.in-Some.ensures.steps in
    ((and_both (is_fitting c.in-Some.entry.now) _ (rw steps at l.invariant.0)).1, remains_less l.invariant.1 (ap export_text steps) c.put_line.ensures)

pub returns : goal.returns
unfolding export_text
returns c = remains_none c.loop-entry.invariant.1 (ap export_text c.in-None.ensures.steps.0)
