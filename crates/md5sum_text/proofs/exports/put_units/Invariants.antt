-- `md5sum_text::exports::put_units` meets its contract. The loop's invariant: the units that remain fit, and are to be put.
-- Assumes nothing.
use mathlib.Core.Path.{◌≡◌}
use mathlib.Core.Bool.{true}
use Rattle.entries.specs.Entry.{units_of}
use Rattle.text.proofs.WriterLaws.{Remains}
use Rattle.md5sum_text.specs.Names.{units_fit}
use Rattle.md5sum_text.proofs.exports.put_units.Given as goal

abbrev pub invariant-loop-unit : goal.invariant-loop-unit
invariant-loop-unit l = (units_fit l.unit-iterator ≡ true) × Remains l.initial.writer l.writer l.unit-iterator (units_of l.name)
