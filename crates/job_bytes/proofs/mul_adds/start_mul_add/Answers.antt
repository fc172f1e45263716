-- `job_bytes::mul_adds::start_mul_add` meets its contract.
-- Assumes nothing.
use Rattle.job_bytes.proofs.mul_adds.start_mul_add.Goals as goal

pub returns : goal.returns
returns c = cc
