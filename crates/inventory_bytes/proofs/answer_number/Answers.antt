-- `inventory_bytes::answer_number` meets its contract.
-- Assumes nothing.
use Rattle.inventory.specs.Steps.{answer_number}
use Rattle.inventory_bytes.proofs.answer_number.Goals as goal

pub returns-in-Present : goal.returns-in-Present
unfolding answer_number
returns-in-Present c = rw c.in-Present.is

pub returns-in-Recoverable : goal.returns-in-Recoverable
unfolding answer_number
returns-in-Recoverable c = rw c.in-Recoverable.is

pub returns-in-Undetermined : goal.returns-in-Undetermined
unfolding answer_number
returns-in-Undetermined c = rw c.in-Undetermined.is

pub returns-in-Refused : goal.returns-in-Refused
unfolding answer_number
returns-in-Refused c = rw c.in-Refused.is
