-- `par1_c::par1_write_entry` meets its contract.
-- Assumes nothing.
use Rattle.lent_bytes.proofs.WritingLaws.{numbered_as}
use Rattle.par1_c.proofs.par1_write_entry.Goals as goal

pub returns : goal.returns
returns c = numbered_as c.refusal_of.ensures c.write_entry.ensures
