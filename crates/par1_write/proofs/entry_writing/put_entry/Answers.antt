-- `par1_write::entry_writing::put_entry` meets its contract: the fields, stored one after another, are the entry.
-- Assumes nothing.
use mathlib.Core.Path.{refl, ap, ◌∙◌}
use Prim.Native.Nat.{ℕ}
use mathlib.Core.List.{List}
use Rattle.lent_bytes.proofs.StoreLaws.{stored_all, stored, stored_as, stores_flatten}
use Rattle.little_endian.proofs.Numbers.{length-to_le}
use Rattle.par1_rules.proofs.HashLaws.{length-md5}
use Rattle.md5_digest.specs.Digest.{md5}
use Rattle.par1_write.specs.EntryWriting.{entry_bytes}
use Rattle.par1_write.proofs.entry_writing.put_entry.Goals as goal

pub returns : goal.returns
unfolding entry_bytes
returns c = let m = c.args.contents.now in let first = c.digest-first.ensures ∙ ap (λ (l : List ℕ). md5 l) c.first_part.ensures in
    stores_flatten
    (stored 8 (length-to_le 8 _) c.write64.ensures
    (stored 8 (length-to_le 8 _) c.write64-2.ensures
    (stored 8 (length-to_le 8 _) c.write64-3.ensures
    (stored_as 16 (length-md5 m) c.digest-whole.ensures c.put.ensures
    (stored_as 16 (length-md5 _) first c.put-2.ensures
    (stored _ refl c.put-3.ensures stored_all))))))
