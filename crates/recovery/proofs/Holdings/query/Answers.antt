-- `recovery::Holdings::query` meets its contract.
-- Assumes nothing.
use native.Mathlib.Numerals.{add-one}
use Rattle.recovery.specs.Answers.{present, undetermined, no_room, recoverable}
use Rattle.recovery.proofs.Holdings.query.Goals as goal

pub returns-then-has : goal.returns-then-has
returns-then-has c = present (cc (add-one c.args.column))

pub returns-in_default : goal.returns-in_default
returns-in_default c = undetermined (cc (add-one c.args.column)) c.in_default.ensures.0 c.in_default.ensures.1

pub returns-then-out-lt-WEIGHTS : goal.returns-then-out-lt-WEIGHTS
returns-then-out-lt-WEIGHTS c = no_room (cc (add-one c.args.column)) c.in-Some.weights c.in-Some.ensures c.if-out-lt-WEIGHTS.true

pub returns : goal.returns
returns c = recoverable (cc (add-one c.args.column)) c.in-Some.weights c.in-Some.ensures c.if-out-lt-WEIGHTS.false _ c.write.ensures
