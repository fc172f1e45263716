-- `replay::replay` meets its contract.
-- Assumes nothing.
use native.Mathlib.Omega.{arith}
use Rattle.text.proofs.FitLaws.{fit_written, fit_refused}
use Rattle.replay.proofs.replay.Goals as goal

pub returns-then-length-out : goal.returns-then-length-out
returns-then-length-out c = λ d D.
    fit_written c.args.out.now _ c.new-measured.ensures.starts (c.put_replay.ensures d D) c.position-length.ensures (omega arith) (omega arith)
    c.if-length-out.true c.new.ensures.starts (c.put_replay-then-length-out.ensures d D) (grind (arith, (c.put_replay-then-length-out.ensures d D).same_reference))

pub returns : goal.returns
returns c = λ d D. rw c.bare.ensures
    (fit_refused c.args.out.now _ c.new-measured.ensures.starts (c.put_replay.ensures d D) c.position-length.ensures (omega arith) (omega arith)
    c.if-length-out.false)
