-- `par1_read::read_from` meets its contract: refused by the tests in turn, or by the walk, and accepted.
-- Assumes nothing.
use Rattle.std.proofs.lemmas.Result.{err_from_is_err_and}
use mathlib.Core.Path.{◌≡◌, refl, sym, ap, ◌∙◌}
use Rattle.refusals.specs.declared.Refusal.{Refusal}
use Rattle.refusals.proofs.TestLaws.{told_ok, told_err}
use Rattle.par1_read.proofs.ReadingLaws.{from_header, from_control, list_refused, list_accepted}
use Rattle.par1_read.proofs.reading.read_from.Goals as goal

pub returns-in_err-header_tests : goal.returns-in_err-header_tests
returns-in_err-header_tests c =
    let p = err_from_is_err_and c.from_residual.result c.from_residual.ensures.1 in rw (p.1, p.2) (sym (from_header _ _ _ _ _ c.in_err-header_tests.ensures))

pub returns-in_err-control_test : goal.returns-in_err-control_test
returns-in_err-control_test c =
    let r = c.from_residual-in_err-control_test in
    let p = err_from_is_err_and r.result r.ensures.1 in
    rw (p.1, p.2) (sym (from_control _ _ _ _ _ c.in_ok-header_tests.ensures c.in_err-control_test.ensures))

pub returns-in_err-totals_tests-in-Ok : goal.returns-in_err-totals_tests-in-Ok
returns-in_err-totals_tests-in-Ok c =
    let r = c.from_residual-in_err-totals_tests-in-Ok in
    let p = err_from_is_err_and r.result r.ensures.1 in
    let t = told_err _ c.in_err-totals_tests-in-Ok.ensures in
    rw (p.1, p.2, c.in-Ok.is) (sym (list_refused _ _ _ _ _ c.in_ok-header_tests.ensures c.in_ok-control_test.ensures t.0
    (λ z. t.1 (sym (ap (λ (r : Refusal). r.number) t.0) ∙ z))))

pub returns-in_ok-totals_tests-in-Ok : goal.returns-in_ok-totals_tests-in-Ok
returns-in_ok-totals_tests-in-Ok c =
    rw c.in-Ok.is (sym (list_accepted _ _ _ _ _ c.in_ok-header_tests.ensures c.in_ok-control_test.ensures (told_ok _ c.in_ok-totals_tests-in-Ok.ensures) c.parts_from.ensures))

pub returns-in-Err : goal.returns-in-Err
returns-in-Err c =
    rw c.in-Err.is (sym (list_accepted _ _ _ _ _ c.in_ok-header_tests.ensures c.in_ok-control_test.ensures c.if-refusal-eq0.true c.parts_from-in-Err.ensures))

pub returns-in-Err-2 : goal.returns-in-Err-2
returns-in-Err-2 c =
    let same : c.in-Err.refusal ≡ c.in-Err-2.refusal = cc in
    rw c.in-Err-2.is (sym (list_refused _ _ _ _ _ c.in_ok-header_tests.ensures c.in_ok-control_test.ensures refl
    (λ z. c.if-refusal-eq0.false (ap (λ (r : Refusal). r.number) same ∙ z))))
