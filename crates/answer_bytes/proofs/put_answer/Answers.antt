-- `answer_bytes::put_answer` meets its contract.
-- Assumes nothing.
use Rattle.answer_bytes.specs.Results.{byte_into}
use Rattle.answer_bytes.proofs.put_answer.Goals as goal

pub returns-in-Err : goal.returns-in-Err
unfolding byte_into
returns-in-Err c = rw c.in-Err.is

pub returns-in-Ok : goal.returns-in-Ok
unfolding byte_into
returns-in-Ok c = rw c.in-Ok.is c.write.ensures
