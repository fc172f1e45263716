-- `par1_write::volume_writing::put_body` meets its contract: its parts, stored one after another.
-- Assumes nothing.
use mathlib.Core.Path.{refl}
use Rattle.lent_bytes.proofs.StoreLaws.{stored_all, stored, stored_as, stores_flatten}
use Rattle.par1_write.specs.VolumeWriting.{body_bytes}
use Rattle.par1_rules.proofs.HashLaws.{length-set_hash}
use Rattle.little_endian.proofs.NumberLists.{length-numbers}
use Rattle.par1_write.proofs.volume_writing.put_body.Goals as goal

pub returns : goal.returns
unfolding body_bytes
returns c = stores_flatten
    (stored_as 16 (length-set_hash _) c.of_set-set_hash.ensures c.put.ensures
    (stored 48 (length-numbers _) c.put_numbers.ensures
    (stored _ refl c.put-2.ensures (stored _ refl c.put-3.ensures stored_all))))
