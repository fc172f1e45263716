-- `job_bytes::reads::end_read` meets its contract.
-- Assumes nothing.
use Rattle.job_bytes.proofs.ReadLaws.{ended_by}
use Rattle.job_bytes.proofs.reads.end_read.Goals as goal

pub returns : goal.returns
returns c = ended_by _ _ c.loaded.ensures c.end-ended.ensures c.put_reading-answer.ensures c.job_number.ensures
    c.store.ensures
