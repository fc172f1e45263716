-- `job_bytes::reads::store` meets its contract.
-- Assumes nothing.
use mathlib.Core.Path.{refl}
use Rattle.lent_bytes.proofs.WritingLaws.{unless_refused, numbered_as, numbered-none}
use Rattle.job_bytes.specs.Reads.{read_stored}
use Rattle.job_bytes.proofs.reads.store.Goals as goal

pub returns-then-number-ne0 : goal.returns-then-number-ne0
unfolding read_stored
returns-then-number-ne0 c = numbered_as refl (unless_refused _ _ refl c.if-number-ne0.true refl)

pub returns : goal.returns
unfolding read_stored
returns c = numbered-none _ _ _ c.if-number-ne0.false c.write.ensures c.bytes_of-bytes.ensures
