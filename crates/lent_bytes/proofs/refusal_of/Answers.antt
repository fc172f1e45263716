-- `lent_bytes::refusal_of` meets its contract.
-- Assumes nothing.
use Rattle.lent_bytes.proofs.refusal_of.Goals as goal

pub returns-in-Ok : goal.returns-in-Ok
returns-in-Ok c = rw c.in-Ok.is c.bare.ensures
