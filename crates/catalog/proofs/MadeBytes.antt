-- What is written is bytes.
--
--   bytes_none, bytes_cons, bytes_zeros, bytes_flatten     lists of bytes
--   bytes_entry, bytes_volume     an entry and a volume, as written
-- Assumes nothing.
use mathlib.Core.List.{List, [], ◌∷◌, ◌++◌, flatten}
use Prim.Native.Nat.{ℕ, zero, suc, ◌+◌, ◌<◌}
use native.Mathlib.Omega.{arith}
use lib.ListN.{length, replicate}
use Rattle.codes.specs.declared.Code.{Code}
use Rattle.cut_lists.specs.All.{All, all_none, all_more}
use Rattle.little_endian.specs.Bytes.{Bytes, to_le, numbers}
use Rattle.little_endian.proofs.Numbers.{bytes_append, bytes_to_le}
use Rattle.md5_digest.specs.Digest.{output, md5}
use Rattle.par1_rules.specs.Layout.{signature, version_for}
use Rattle.par1_rules.specs.Hashes.{set_hash}
use Rattle.entries.specs.Walk.{entries_of}
use Rattle.par1_write.specs.VolumeWriting.{body_bytes, head_bytes, volume_bytes}
use Rattle.par1_write.specs.EntryWriting.{entry_bytes}

pub bytes_none : Bytes []
bytes_none i = omega arith

pub bytes_cons : (a : ℕ) (s : List ℕ) → a < 256 → Bytes s → Bytes (a ∷ s)
bytes_cons a s h b zero = h
bytes_cons a s h b (suc i) = b i

pub bytes_zeros : (n : ℕ) → Bytes (replicate n 0)
bytes_zeros zero = bytes_none
bytes_zeros (suc n) = bytes_cons 0 (replicate n 0) (omega arith) (bytes_zeros n)

bytes_flatten : {ps : List (List ℕ)} → All Bytes ps → Bytes (flatten ps)
unfolding flatten
bytes_flatten all_none = bytes_none
bytes_flatten (all_more {x} {xs} b bs) = bytes_append x (flatten xs) b (bytes_flatten bs)

bytes_numbers : (ns : List ℕ) → Bytes (numbers ns)
unfolding numbers
bytes_numbers [] = bytes_none
bytes_numbers (n ∷ ns) = bytes_append (to_le 8 n) (numbers ns) (bytes_to_le 8 n) (bytes_numbers ns)

bytes_four : (a b c d : ℕ) → Bytes (to_le 4 a ++ to_le 4 b ++ to_le 4 c ++ to_le 4 d)
bytes_four a b c d =
    bytes_append (to_le 4 a ++ to_le 4 b ++ to_le 4 c) (to_le 4 d)
    (bytes_append (to_le 4 a ++ to_le 4 b) (to_le 4 c) (bytes_append (to_le 4 a) (to_le 4 b) (bytes_to_le 4 a) (bytes_to_le 4 b)) (bytes_to_le 4 c))
    (bytes_to_le 4 d)

bytes_md5 : (m : List ℕ) → Bytes (md5 m)
unfolding md5 output
bytes_md5 m = bytes_four _ _ _ _

bytes_set : (es : List (List ℕ)) → Bytes (set_hash es)
unfolding set_hash
bytes_set es = bytes_md5 _

pub bytes_entry : (m : List ℕ) (status : ℕ) (name : List ℕ) → Bytes name → Bytes (entry_bytes m status name)
unfolding entry_bytes
bytes_entry m status name b =
    bytes_flatten (all_more (bytes_to_le 8 (56 + length name)) (all_more (bytes_to_le 8 status) (all_more (bytes_to_le 8 (length m))
    (all_more (bytes_md5 m) (all_more (bytes_md5 _) (all_more b all_none))))))

pub bytes_volume : (c : Code) (program number : ℕ) (list area : List ℕ) → Bytes list → Bytes area → Bytes (volume_bytes c program number list area)
unfolding volume_bytes body_bytes head_bytes
bytes_volume c program number list area b d = let body : List ℕ = body_bytes (length (entries_of list).pieces) number list area in
    bytes_append (head_bytes c program body) body
    (bytes_flatten (all_more (bytes_to_le 8 signature) (all_more (bytes_to_le 4 (version_for c)) (all_more (bytes_to_le 4 program) (all_more (bytes_md5 body) all_none)))))
    (bytes_flatten (all_more (bytes_set _) (all_more (bytes_numbers _) (all_more b (all_more d all_none)))))
