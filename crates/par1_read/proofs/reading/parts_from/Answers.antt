-- `par1_read::reading::parts_from` meets its contract: each field of the header, and the code of its version.
-- Assumes nothing.
use Rattle.par1_read.proofs.reading.parts_from.Goals as goal

pub returns : goal.returns
returns c = cc
