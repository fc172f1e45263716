-- `md5sum_text::sums::again_for` meets its contract.
-- Assumes nothing.
use mathlib.Core.Path.{refl}
use native.Mathlib.Omega.{arith}
use Rattle.md5sum_text.proofs.SumLaws.{fits_as, again_none, again_seen, found_as, seen_sum}
use Rattle.md5sum_text.proofs.sums.again_for.Goals as goal

pub returns-then-not-units_fit : goal.returns-then-not-units_fit
returns-then-not-units_fit c =
    again_none c.args.text.now c.args.entry.now c.args.count c.requires (fits_as c.args.entry.now c.name_of-name.ensures c.units_fit.ensures c.if-not-units_fit.true)

pub seek-first-requires : goal.seek-first-requires
seek-first-requires c = (omega arith, c.requires, refl)

pub seek-other-requires : goal.seek-other-requires
seek-other-requires c = let f = c.seek-first.ensures in (f.sought.high, c.requires, f.stands)

pub returns : goal.returns
returns c = let t = c.args.text.now in
    let e = c.args.entry.now in
    let name = c.name_of-name.ensures in
    let first = c.seek-first in
    again_seen t e c.args.count c.requires (fits_as e name c.units_fit.ensures c.if-not-units_fit.false) (found_as t e name first.ensures)
    (λ h. seen_sum t first.result first.ensures.stands c.part-sum.ensures (omega (arith, c.requires)))
    (found_as t e name c.seek-other.ensures)
