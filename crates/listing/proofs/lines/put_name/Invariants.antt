-- `listing::lines::put_name` meets its contract. The loop's invariant: the characters of the units that remain are to be put.
-- Assumes nothing.
use mathlib.Core.List.{map}
use Rattle.entries.specs.Entry.{units_of}
use Rattle.text.proofs.WriterLaws.{Remains}
use Rattle.listing.specs.Lines.{shown}
use Rattle.listing.proofs.lines.put_name.Given as goal

abbrev pub invariant-loop-unit : goal.invariant-loop-unit
invariant-loop-unit l = Remains l.initial.writer l.writer (map shown l.unit-iterator) (map shown (units_of l.name))
