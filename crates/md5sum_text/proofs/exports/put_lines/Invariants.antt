-- `md5sum_text::exports::put_lines` meets its contract. The loop's invariant: the entries that remain fit, and their lines are to be put.
-- Assumes nothing.
use mathlib.Core.Path.{◌≡◌}
use mathlib.Core.Bool.{true}
use Rattle.entries.specs.Walk.{entries_of}
use Rattle.text.proofs.WriterLaws.{Remains}
use Rattle.md5sum_text.specs.Export.{export_text, all_fitting}
use Rattle.md5sum_text.proofs.exports.put_lines.Given as goal

abbrev pub invariant-loop-entry : goal.invariant-loop-entry
invariant-loop-entry l =
    (all_fitting l.entry-iterator ≡ true)
    × Remains l.initial.writer l.writer (export_text l.entry-iterator) (export_text (entries_of l.list).pieces)
