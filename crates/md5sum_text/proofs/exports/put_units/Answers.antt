-- `md5sum_text::exports::put_units` meets its contract. The loop's invariant: the units that remain fit, and are to be put.
-- Assumes nothing.
use mathlib.Core.Path.{◌≡◌}
use native.Mathlib.Omega.{arith}
use Rattle.entries.specs.Entry.{units_of}
use Rattle.text.proofs.WriterLaws.{remains_all, remains_less, remains_none}
use Rattle.md5sum_text.proofs.NameLaws.{fits_first, fits_rest}
use Rattle.md5sum_text.proofs.exports.put_units.Goals as goal

pub loop-unit-init : goal.loop-unit-init
loop-unit-init c = let all : c.into_iter-unit-iterator.result ≡ units_of c.args.name.now = cc in rw all (c.requires, remains_all _ _ (omega arith))

pub overflow_cast-unit : goal.overflow_cast-unit
overflow_cast-unit c = omega (arith, fits_first c.in-Some.ensures.steps c.loop-unit.invariant.0)

pub loop-unit-preserved : goal.loop-unit-preserved
loop-unit-preserved c = (fits_rest c.in-Some.ensures.steps c.loop-unit.invariant.0, remains_less c.loop-unit.invariant.1 c.in-Some.ensures.steps c.put.ensures)

pub returns : goal.returns
returns c = remains_none c.loop-unit.invariant.1 c.in-None.ensures.steps.0
