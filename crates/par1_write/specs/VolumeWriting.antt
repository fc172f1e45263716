-- What writing an index or a volume gives (document 01: "Writing a volume from program identifier, number (0 writes an index), list and
-- data tests 6 (the list's rules; it makes the count itself), 7, 9, 1 (the total), 14"; document 02, 2026-01, has 16 to 18, with the place of
-- the entry, where 01 has 6).
--
--   number_bytes v n l d                 the six numbers of volume v with n entries, l bytes of list and d bytes of data
--   body_bytes n v list data             the bytes of volume v from 32 to the end, with n entries in the list
--   head_bytes c p body                  the bytes of a file of the code c before body, which the program p writes
--   volume_bytes c p v list data         the bytes of volume v of the code c, written by the program p
--   volume_refusal v t l d               the number of the refusal by the tests 7, 9 and 1, where the walk over the list gave the totals t, and list and
--                                       data have l and d bytes
--   walk_refusal v w l d                 the refusal by the tests before 14, from the walk w over the list; its number is 0 where there is none
--   write_volume_of c p v list data out   what writing gives
-- Assumes nothing.
use Rattle.std.specs.Prelude.{ℕ, ◌+◌, length, Ok, Err}
use mathlib.Core.List.{List, [], ◌∷◌, ◌++◌, flatten}
use Rattle.lent_bytes.specs.Writing.{written_unless}
use Rattle.lent_bytes.specs.Writing.{Writing}
use Rattle.little_endian.specs.Bytes.{to_le, numbers}
use Rattle.md5_digest.specs.Digest.{md5}
use Rattle.codes.specs.declared.Code.{Code}
use Rattle.entries.specs.Walk.{entries_of, walk_of}
use Rattle.entries.specs.declared.Totals.{Totals}
use Rattle.entries.specs.Walk.{Walked}
use Rattle.par1_rules.specs.Layout.{signature, version_for}
use Rattle.par1_rules.specs.Hashes.{set_hash}
use Rattle.refusals.specs.Tests.{bare, test}
use Rattle.refusals.specs.declared.Refusal.{Refusal}
use Rattle.par1_rules.specs.Rules.{length_allowed, number_allowed, data_allowed}

-- "Then six 64-bit numbers: at 48 volume number (0 for the index), at 56 number of entries, at 64 list start, at 72 list size, at 80 data
-- start, at 88 data size"
abbrev pub number_bytes : ℕ → ℕ → ℕ → ℕ → List ℕ
number_bytes number n list-len data-len = numbers (number ∷ n ∷ 96 ∷ list-len ∷ (96 + list-len) ∷ data-len ∷ [])

-- "At 32: set hash." Then the numbers, the list and the data
unfoldable pub body_bytes : ℕ → ℕ → List ℕ → List ℕ → List ℕ
body_bytes n number list «data» =
    flatten (set_hash (entries_of list).pieces ∷ number_bytes number n (length list) (length «data») ∷ list ∷ «data» ∷ [])

-- "At 0: "PAR" and five zero bytes. At 8: 32-bit version, 65,536. At 12: 32-bit program identifier, any. At 16: control hash, the MD5 of
-- all bytes from 32 to the end."; document 02, 2026-13: "writing .. told the code", whose version is written
unfoldable pub head_bytes : Code → ℕ → List ℕ → List ℕ
head_bytes c program body = flatten (to_le 8 signature ∷ to_le 4 (version_for c) ∷ to_le 4 program ∷ md5 body ∷ [])

unfoldable pub volume_bytes : Code → ℕ → ℕ → List ℕ → List ℕ → List ℕ
volume_bytes c program number list «data» =
    let body : List ℕ = body_bytes (length (entries_of list).pieces) number list «data» in head_bytes c program body ++ body

unfoldable pub volume_refusal : ℕ → Totals → ℕ → ℕ → ℕ
volume_refusal number t list-len data-len =
    test 7 (number_allowed number t.saved)
    (test 9 (data_allowed number t.greatest data-len)
    (test 1 (length_allowed (96 + list-len + data-len)) 0))

abbrev pub walk_refusal : ℕ → Walked → ℕ → ℕ → Refusal
walk_refusal number (Ok t) list-len data-len = bare (volume_refusal number t list-len data-len)
walk_refusal number (Err r) list-len data-len = r

unfoldable pub write_volume_of : Code → ℕ → ℕ → List ℕ → List ℕ → List ℕ → Writing × List ℕ
write_volume_of c program number list «data» out =
    written_unless (walk_refusal number (walk_of list) (length list) (length «data»)) (volume_bytes c program number list «data») out
