-- `text::fitting::written` meets its contract.
-- Assumes nothing.
use native.Mathlib.Omega.{arith}
use Rattle.text.proofs.FitLaws.{fit_none, fit_written, fit_refused}
use Rattle.text.proofs.fitting.written.Goals as goal

pub returns-then-length-eq0 : goal.returns-then-length-eq0
returns-then-length-eq0 g c = fit_none c.args.out.now _ c.new-measured.ensures.starts c.put.ensures c.position-length.ensures (omega arith) (omega arith)
    c.if-length-eq0.true

pub returns-then-length-out : goal.returns-then-length-out
returns-then-length-out g c = fit_written c.args.out.now _ c.new-measured.ensures.starts c.put.ensures c.position-length.ensures (omega arith) (omega arith)
    (omega arith) c.new.ensures.starts c.put-then-length-out.ensures (grind arith)

pub returns : goal.returns
returns g c = rw c.bare.ensures
    (fit_refused c.args.out.now _ c.new-measured.ensures.starts c.put.ensures c.position-length.ensures (omega arith) (omega arith) c.if-length-out.false)
