-- `job_bytes::reads::put_words` meets its contract.
-- Assumes nothing.
use native.Mathlib.Omega.{arith}
use Rattle.job_bytes.proofs.ReadLaws.{words_stored}
use Rattle.job_bytes.proofs.reads.put_words.Goals as goal

pub overflow_add-at-3 : goal.overflow_add-at-3
overflow_add-at-3 c = omega (arith, c.requires)

pub returns : goal.returns
returns c = let a = c.args in words_stored _ a.at a.words c.write32.ensures c.write32-2.ensures c.write32-3.ensures c.write32-4.ensures
