-- `little_endian::write64` meets its contract: the bytes of the number are stored.
-- Assumes nothing.
use mathlib.Core.Path.{ap, ◌∙◌}
use lib.Seq.{sets}
use Rattle.little_endian.proofs.Numbers.{low_first}
use Rattle.little_endian.proofs.write64.Goals as goal

pub returns : goal.returns
returns c = let a = c.args in c.put.ensures ∙ ap (sets a.out.now a.at) (c.to_le_bytes.ensures ∙ low_first 8 a.x)
