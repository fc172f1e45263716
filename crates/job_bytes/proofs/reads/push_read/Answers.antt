-- `job_bytes::reads::push_read` meets its contract.
-- Assumes nothing.
use Rattle.job_bytes.proofs.ReadLaws.{pushed_by}
use Rattle.job_bytes.proofs.reads.push_read.Goals as goal

pub returns : goal.returns
returns c = pushed_by _ _ c.loaded.ensures c.push-pushed.ensures c.store.ensures
