-- The hashes of a Par 1.0 file (document 01, "Byte layout").
--
--   set_hash es         the set hash of the entries es
--   hash_entry h st m   the running hash h after an entry with the status st and the whole-file MD5 m
--   control_hash f      the control hash of the file f
--   md5_first m         the MD5 of the first 16,384 bytes of the contents m, of all of them where they are fewer
-- Assumes nothing.
use Rattle.std.specs.Prelude.{ℕ, cond, take}
use mathlib.Core.List.{List, map, flatten}
use Rattle.md5_digest.specs.declared.Md5.{Md5}
use Rattle.md5_digest.specs.Digest.{md5}
use Rattle.md5_digest.specs.Running.{pushed}
use Rattle.entries.specs.Entry.{is_saved, md5_of}
use Rattle.entries.specs.Numbering.{saved_of}
use Rattle.par1_rules.specs.Layout.{hashed_of}

-- "The set hash is the MD5 of the saved entries' whole-file MD5s, joined in list order."
unfoldable pub set_hash : List (List ℕ) → List ℕ
set_hash es = md5 (flatten (map (λ e. md5_of e) (saved_of es)))

-- an entry that is not saved does not count
abbrev pub hash_entry : Md5 → ℕ → List ℕ → Md5
hash_entry h status m = cond (is_saved status) (pushed h m) h

-- "At 16: control hash, the MD5 of all bytes from 32 to the end."
abbrev pub control_hash : List ℕ → List ℕ
control_hash f = md5 (hashed_of f)

-- "MD5 of its first 16,384 bytes (of all of it when shorter)"
abbrev pub md5_first : List ℕ → List ℕ
md5_first m = md5 (take 16384 m)
