-- `listing::lines::put_name` meets its contract. The loop's invariant: the characters of the units that remain are to be put.
-- Assumes nothing.
use mathlib.Core.Path.{◌≡◌, ap}
use mathlib.Core.List.{map}
use native.Mathlib.Omega.{arith}
use Rattle.entries.specs.Entry.{units_of}
use Rattle.text.proofs.WriterLaws.{remains_all, remains_less, remains_none}
use Rattle.listing.specs.Lines.{shown}
use Rattle.listing.proofs.lines.put_name.Goals as goal

pub loop-unit-init : goal.loop-unit-init
loop-unit-init c = let all : c.into_iter-unit-iterator.result ≡ units_of c.args.name.now = cc in rw all (remains_all _ _ (omega arith))

pub loop-unit-preserved : goal.loop-unit-preserved
loop-unit-preserved c = remains_less c.loop-unit.invariant (ap (map shown) c.in-Some.ensures.steps) (rw c.shown.ensures at c.put.ensures)

pub returns : goal.returns
returns c = remains_none c.loop-unit.invariant (ap (map shown) c.in-None.ensures.steps.0)
