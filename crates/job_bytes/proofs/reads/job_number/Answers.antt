-- `job_bytes::reads::job_number` meets its contract.
-- Assumes nothing.
use borrow.Author.Tests.{eq-eqb, ne_eqb}
use Rattle.job_bytes.proofs.reads.job_number.Goals as goal

pub returns-then-number-eq-JOB : goal.returns-then-number-eq-JOB
returns-then-number-eq-JOB c = simp (eq-eqb _ _ c.if-number-eq-JOB.true)

pub returns-else-number-eq-JOB : goal.returns-else-number-eq-JOB
returns-else-number-eq-JOB c = simp (ne_eqb _ _ c.if-number-eq-JOB.false)
