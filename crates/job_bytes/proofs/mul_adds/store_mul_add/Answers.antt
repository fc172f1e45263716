-- `job_bytes::mul_adds::store_mul_add` meets its contract.
-- Assumes nothing.
use mathlib.Core.Path.{refl}
use Rattle.lent_bytes.proofs.WritingLaws.{unless_refused, numbered_as, numbered-none}
use Rattle.job_bytes.specs.MulAdds.{mul_add_stored}
use Rattle.job_bytes.proofs.mul_adds.store_mul_add.Goals as goal

pub returns-then-outcome-ne0 : goal.returns-then-outcome-ne0
unfolding mul_add_stored
returns-then-outcome-ne0 c = numbered_as refl (unless_refused _ _ refl c.if-outcome-ne0.true refl)

pub returns : goal.returns
unfolding mul_add_stored
returns c = numbered-none _ _ _ c.if-outcome-ne0.false c.write.ensures c.bytes_of-bytes.ensures
