-- `md5sum_text::sums::answer_for` meets its contract.
-- Assumes nothing.
use mathlib.Core.Path.{refl, sym}
use native.Mathlib.Omega.{arith}
use Rattle.md5sum_text.specs.Lines.{lines_of}
use Rattle.md5sum_text.proofs.SumLaws.{fits_as, found_as, seen_sum, answer_unfit, answer_over, answer_byte}
use Rattle.md5sum_text.proofs.sums.answer_for.Goals as goal

pub returns-then-not-units_fit : goal.returns-then-not-units_fit
returns-then-not-units_fit c =
    sym (answer_unfit (lines_of c.args.text.now).pieces c.args.entry.now (fits_as c.args.entry.now c.name_of-name.ensures c.units_fit.ensures c.if-not-units_fit.true))

pub seek-first-requires : goal.seek-first-requires
seek-first-requires c = (omega arith, omega (arith, c.requires), refl)

pub returns-then-first-count : goal.returns-then-first-count
returns-then-first-count c = let t = c.args.text.now in
    let e = c.args.entry.now in
    sym
    (answer_over t e c.args.count c.requires (fits_as c.args.entry.now c.name_of-name.ensures c.units_fit.ensures c.if-not-units_fit.false)
    (found_as t e c.name_of-name.ensures c.seek-first.ensures) c.if-first-count.true)

pub returns-then-is_sum : goal.returns-then-is_sum
returns-then-is_sum c = let t = c.args.text.now in
    let e = c.args.entry.now in
    let first = found_as t e c.name_of-name.ensures c.seek-first.ensures in
    answer_byte t e c.args.count c.requires (fits_as c.args.entry.now c.name_of-name.ensures c.units_fit.ensures c.if-not-units_fit.false) first c.if-first-count.false
    (seen_sum t c.seek-first.result c.seek-first.ensures.stands c.part.ensures (omega (arith, first.high, c.requires, c.if-first-count.false)))
    c.is_sum.ensures c.if-is_sum.true

pub returns-else-is_sum : goal.returns-else-is_sum
returns-else-is_sum c = let t = c.args.text.now in
    let e = c.args.entry.now in
    let first = found_as t e c.name_of-name.ensures c.seek-first.ensures in
    answer_byte t e c.args.count c.requires (fits_as c.args.entry.now c.name_of-name.ensures c.units_fit.ensures c.if-not-units_fit.false) first c.if-first-count.false
    (seen_sum t c.seek-first.result c.seek-first.ensures.stands c.part.ensures (omega (arith, first.high, c.requires, c.if-first-count.false)))
    c.is_sum.ensures c.if-is_sum.false
