-- `replay::lines::put_number` meets its contract.
-- Assumes nothing.
use Rattle.replay.proofs.lines.put_number.Goals as goal

pub returns-then-any : goal.returns-then-any
returns-then-any c = rw c.if-any.true c.put_field.ensures

pub returns-else-any : goal.returns-else-any
returns-else-any c = rw c.if-any.false c.put_decimal.ensures
