-- Worked examples of the definitions, computed: entries at the edges of the rules, names, and the numbering of saved entries.
-- Assumes nothing.
use Rattle.std.specs.Prelude.{Some, None, Ok, Err}
use mathlib.Core.Path.{◌≡◌, refl}
use mathlib.Core.Bool.{true, false}
use mathlib.Core.List.{List, [], ◌∷◌, ◌++◌}
use Prim.Native.Nat.{ℕ}
use lib.ListN.{replicate}
use Rattle.little_endian.specs.Bytes.{from_le, to_le, le_at}
use Rattle.lent_bytes.specs.Equal.{equal}
use Rattle.entries.specs.Entry.{units_of, unit_allowed, is_dots, name_allowed, entry_size_allowed, body_allowed, entry_allowed}
use Rattle.entries.specs.Numbering.{file_number}
use Rattle.entries.specs.Walk.{fault_of, first_of}
use Rattle.entries.specs.declared.Fault.TheVariants as fault

-- an entry that says it has n bytes, of a file of k bytes, with a name of one unit
entry : ℕ → ℕ → ℕ → List ℕ
entry n k unit = to_le 8 n ++ to_le 8 1 ++ to_le 8 k ++ replicate 32 0 ++ to_le 2 unit

edges :
    (first_of [] ≡ Ok None)
    × (first_of (entry 58 16777216 65) ≡ Ok (Some (record { length = 58; status = 1; size = 16777216 })))
    × (first_of (entry 56 0 65) ≡ Err fault.Size)
    × (first_of (entry 57 0 65) ≡ Err fault.Size)
    × (first_of (entry 60 0 65) ≡ Err fault.Size)
    × (first_of (entry 58 16777217 65) ≡ Err fault.FileSize)
    × (first_of (entry 58 0 47) ≡ Err fault.Name)
    × (first_of (entry 58 0 92) ≡ Err fault.Name)
    × (first_of (entry 58 0 46) ≡ Err fault.Name)
unfolding entry from_le to_le le_at units_of unit_allowed is_dots equal name_allowed entry_size_allowed body_allowed entry_allowed fault_of first_of
edges = (refl, refl, refl, refl, refl, refl, refl, refl, refl)

-- the units 0, "/", ":" and "\\" in a name, "." and ".."; and names that have a dot
names :
    (name_allowed (to_le 2 0) ≡ false)
    × (name_allowed (to_le 2 65 ++ to_le 2 0) ≡ false)
    × (name_allowed (to_le 2 47) ≡ false)
    × (name_allowed (to_le 2 58) ≡ false)
    × (name_allowed (to_le 2 65 ++ to_le 2 58 ++ to_le 2 66) ≡ false)
    × (name_allowed (to_le 2 92) ≡ false)
    × (name_allowed (to_le 2 46) ≡ false)
    × (name_allowed (to_le 2 46 ++ to_le 2 46) ≡ false)
    × (name_allowed (to_le 2 46 ++ to_le 2 46 ++ to_le 2 46) ≡ true)
    × (name_allowed (to_le 2 46 ++ to_le 2 97) ≡ true)
    × (name_allowed (to_le 2 97 ++ to_le 2 46) ≡ true)
    × (name_allowed (to_le 2 46 ++ to_le 2 46 ++ to_le 2 97) ≡ true)
    × (name_allowed (to_le 2 11776) ≡ true)
unfolding from_le to_le le_at units_of unit_allowed is_dots equal name_allowed
names = (refl, refl, refl, refl, refl, refl, refl, refl, refl, refl, refl, refl, refl)

-- no more than a status, which tells whether the entry is saved
status : ℕ → List ℕ
status n = replicate 8 0 ++ to_le 8 n

numbering :
    (file_number (status 1 ∷ status 2 ∷ status 3 ∷ []) 0 ≡ 1)
    × (file_number (status 1 ∷ status 2 ∷ status 3 ∷ []) 1 ≡ 0)
    × (file_number (status 1 ∷ status 2 ∷ status 3 ∷ []) 2 ≡ 2)
unfolding status from_le to_le le_at
numbering = (refl, refl, refl)
