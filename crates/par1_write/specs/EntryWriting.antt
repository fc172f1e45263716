-- What writing an entry gives (document 01: "Writing an entry from contents, status and name bytes tests 6 (contents too long, status
-- above 3, bad name), then 14"; document 02 has 17 and 18 where 01 has 6, 2026-01, and no status above 1, 2026-09).
--
--   entry_bytes m st name            the entry of a file with the contents m and the status st
--   status_allowed st                whether entries are written with the status st
--   entry_refusal n st name          the number of the refusal of contents of n bytes by the tests before 14, 0 where there is none
--   write_entry_of m st name out      what writing gives
-- Assumes nothing.
use Rattle.std.specs.Prelude.{ℕ, ◌+◌, Bool, leb, length}
use mathlib.Core.List.{List, [], ◌∷◌, flatten}
use Rattle.lent_bytes.specs.Writing.{written_unless}
use Rattle.lent_bytes.specs.Writing.{Writing}
use Rattle.little_endian.specs.Bytes.{to_le}
use Rattle.md5_digest.specs.Digest.{md5}
use Rattle.entries.specs.Entry.{name_allowed, file_size_allowed}
use Rattle.entries.specs.Walk.{fault_number}
use Rattle.entries.specs.declared.Fault.TheVariants as fault
use Rattle.par1_rules.specs.Hashes.{md5_first}
use Rattle.refusals.specs.Tests.{bare, test}

-- "64-bit entry size (itself included), 64-bit status, 64-bit file size, MD5 of the whole file, MD5 of its first 16,384 bytes (of all
-- of it when shorter), then the name"
unfoldable pub entry_bytes : List ℕ → ℕ → List ℕ → List ℕ
entry_bytes m status name =
    flatten (to_le 8 (56 + length name) ∷ to_le 8 status ∷ to_le 8 (length m) ∷ md5 m ∷ md5_first m ∷ name ∷ [])

-- document 02, 2026-09: "entries are written with status 0 or 1 only", "writing an entry with status 2 or 3 now gives 17"
abbrev pub status_allowed : ℕ → Bool
status_allowed status = leb status 1

-- "17 file size above the limit (and contents or status in writing an entry); 18 name unit not allowed (in writing also a name empty or of
-- odd length)"; 2026-14, for names: "18, as for the slashes"
unfoldable pub entry_refusal : ℕ → ℕ → List ℕ → ℕ
entry_refusal size status name =
    test (fault_number fault.FileSize) (file_size_allowed size)
    (test (fault_number fault.FileSize) (status_allowed status)
    (test (fault_number fault.Name) (name_allowed name) 0))

-- "place 0, as for a lone entry"
unfoldable pub write_entry_of : List ℕ → ℕ → List ℕ → List ℕ → Writing × List ℕ
write_entry_of m status name out =
    written_unless (bare (entry_refusal (length m) status name)) (entry_bytes m status name) out
