-- `par1_write::volume_writing::put_head` meets its contract: its fields, stored one after another.
-- Assumes nothing.
use mathlib.Core.Path.{sym, ap}
use Rattle.lent_bytes.proofs.StoreLaws.{stored_all, stored, stored_as, stores_flatten}
use Rattle.little_endian.proofs.Numbers.{length-to_le}
use Rattle.par1_rules.proofs.HashLaws.{length-md5}
use Rattle.little_endian.specs.Bytes.{to_le}
use Rattle.par1_write.specs.VolumeWriting.{head_bytes}
use Rattle.par1_rules.proofs.RuleLaws.{signature_is}
use Rattle.par1_write.proofs.volume_writing.put_head.Goals as goal

pub returns : goal.returns
unfolding head_bytes
returns c = let version = c.version_of-version.ensures in stores_flatten
    (stored_as 8 (length-to_le 8 _) (ap (to_le 8) (sym signature_is)) c.write64.ensures
    (stored_as 4 (length-to_le 4 _) (ap (to_le 4) version) c.write32.ensures
    (stored 4 (length-to_le 4 _) c.write32-2.ensures
    (stored_as 16 (length-md5 _) c.digest-control_hash.ensures c.put.ensures stored_all))))
