-- `text::closure::written_by` meets its contract.
-- Assumes nothing.
use native.Mathlib.Omega.{arith}
use Rattle.text.proofs.FitLaws.{fit_none, fit_written, fit_refused}
use Rattle.text.proofs.closure.written_by.Goals as goal

pub returns-then-length-eq0 : goal.returns-then-length-eq0
returns-then-length-eq0 g c = λ t puts.
    fit_none c.args.out.now _ c.new-measured.ensures.starts (puts _ _ c.put.ensures) c.position-length.ensures (omega arith) (omega arith)
    c.if-length-eq0.true

pub returns-then-length-out : goal.returns-then-length-out
returns-then-length-out g c = λ t puts.
    fit_written c.args.out.now _ c.new-measured.ensures.starts (puts _ _ c.put.ensures) c.position-length.ensures (omega arith) (omega arith)
    (omega arith) c.new.ensures.starts (puts _ _ c.put-then-length-out.ensures) (grind arith)

pub returns : goal.returns
returns g c = λ t puts. rw c.bare.ensures
    (fit_refused c.args.out.now _ c.new-measured.ensures.starts (puts _ _ c.put.ensures) c.position-length.ensures (omega arith) (omega arith)
    c.if-length-out.false)
