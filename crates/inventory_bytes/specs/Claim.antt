-- Inventories in lent bytes, there and back: from C a call goes on from what the last one handed back.
--
--   Held s        bytes can hold the inventory s: n is a u64, and each set is four words
--   InventoryAt s b     the parts of the inventory s stand in the bytes b where include/par1.h has them
--   InventoryPlaced     so they do in its own bytes
--   LoadedBack    the bytes of an inventory are that inventory
--   StoredBack    144 bytes whose code is one are the bytes of the inventory that they are
--   OtherBytes    all other bytes are zeros, which no calls give: every call refuses it with 10
--   RefusedZeros  what a refused opening hands back is 144 bytes that are 0
--   CountAt f v q out     the numbers of a count stand in out: files at 0, volumes at 8, those in quarantine at 16 (include/par1.h: PAR1_COUNT_..)
--   CountPlaced   so do those that an accepted count writes
-- Assumes nothing.
use Rattle.std.specs.Prelude.{◌≡◌, ◌⊎◌, ◌≢◌, true, false, List, ℕ, ◌^◌, ◌<◌, length, replicate}
use Rattle.codes.specs.Codes.{is_code, code_number}
use Rattle.codes.specs.declared.Code.{Code}
use Rattle.little_endian.specs.Bytes.{Bytes, le_at, numbers_at}
use Rattle.number_sets.specs.Sets.{Words}
use Rattle.inventory.specs.Model.{counts}
use Rattle.inventory.specs.Steps.{zeros, open_step}
use Rattle.inventory.specs.declared.Inventory.{Inventory}
use Rattle.inventory_bytes.specs.Inventories.{code_number_in, inventory_of, inventory_bytes, counted_into}

pub record Held (s : Inventory) : Type 0 where
  pub small : s.n < 2 ^ 64
  pub files : Words s.files
  pub volumes : Words s.volumes
  pub nonempty : Words s.nonempty
  pub quarantined : Words s.quarantined

-- 18 numbers: n; four words each of the files and the volumes present, the files of size 1 or more, the volumes in quarantine; the code
pub record InventoryAt (s : Inventory) (b : List ℕ) : Type 0 where
  pub n_in : le_at 8 b 0 ≡ s.n
  pub files_in : numbers_at 4 b 8 ≡ s.files
  pub volumes_in : numbers_at 4 b 40 ≡ s.volumes
  pub nonempty_in : numbers_at 4 b 72 ≡ s.nonempty
  pub quarantined_in : numbers_at 4 b 104 ≡ s.quarantined
  pub code_in : le_at 8 b 136 ≡ code_number s.code

-- proved: proofs/BackLaws.antt, `inventory_placed`
abbrev pub InventoryPlaced : Type 0
InventoryPlaced = (s : Inventory) → Held s → InventoryAt s (inventory_bytes s)

-- proved: proofs/BackLaws.antt, `loaded_back`
abbrev pub LoadedBack : Type 0
LoadedBack = (s : Inventory) → Held s → inventory_of (inventory_bytes s) ≡ s

-- proved: proofs/BackLaws.antt, `stored_back`
abbrev pub StoredBack : Type 0
StoredBack = (b : List ℕ) → Bytes b → length b ≡ 144 → is_code (code_number_in b) ≡ true → inventory_bytes (inventory_of b) ≡ b

-- of another length, or whose last number is that of no code
-- proved: proofs/BackLaws.antt, `other_bytes`
abbrev pub OtherBytes : Type 0
OtherBytes = (b : List ℕ) → (length b ≢ 144) ⊎ (is_code (code_number_in b) ≡ false) → inventory_of b ≡ zeros

-- document 01: "Where a refused opening must hand back a sheet, every part of it is 0"
-- proved: proofs/BackLaws.antt, `refused-zeros`
abbrev pub RefusedZeros : Type 0
RefusedZeros = (c : Code) (n : ℕ) (sizes : List ℕ) → (open_step c n sizes).number ≢ 0 → inventory_bytes (open_step c n sizes).next ≡ replicate 144 0

-- "how many files and how many volumes are in hand"; document 02, 2026-10: "The sheet also counts those set aside."
pub record CountAt (files volumes quarantined : ℕ) (out : List ℕ) : Type 0 where
  pub files_at : le_at 8 out 0 ≡ files
  pub volumes_at : le_at 8 out 8 ≡ volumes
  pub quarantined_at : le_at 8 out 16 ≡ quarantined

-- proved: proofs/CountPlaces.antt, `count_placed`
abbrev pub CountPlaced : Type 0
CountPlaced =
    (f v q : ℕ) → f < 2 ^ 64 → v < 2 ^ 64 → q < 2 ^ 64 → (out out' : List ℕ) → counted_into (counts f v q) out ≡ (0, out') → CountAt f v q out'
