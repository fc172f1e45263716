-- Statuses without their marks, and two sets of files that differ in marks only.
-- Assumes nothing.
use mathlib.Core.Path.{◌≡◌, refl}
use mathlib.Core.List.{[], ◌∷◌}
use Prim.Native.Nat.{ℕ, ◌^◌, ◌<◌}
use native.Mathlib.Omega.{arith}
use Rattle.par1_set.specs.Files.{File}
use Rattle.checked_mark.specs.Marks.{unmarked, Pairs, pairs_none, pairs_more, FileAlike}

-- bit 0 stays, and the others go
statuses : (unmarked 0 ≡ 0) × (unmarked 1 ≡ 1) × (unmarked 2 ≡ 0) × (unmarked 3 ≡ 1) × (unmarked 5 ≡ 1) × (unmarked 7 ≡ 1) × (unmarked 8 ≡ 0)
statuses = (refl, refl, refl, refl, refl, refl, refl)

abbrev file : ℕ → File
file status = record { contents = 1 ∷ 2 ∷ []; status = status; name = 65 ∷ 0 ∷ [] }

files_alike : (st su : ℕ) → unmarked st ≡ unmarked su → su < 2 ^ 64 → FileAlike (file st) (file su)
files_alike st su e small = record { contents_same = refl; status_alike = e; status_fits = small; name_same = refl }

-- saved files, the first with bit 1 in one set and the second with bit 2 in the other
marked : Pairs FileAlike (file 3 ∷ file 1 ∷ []) (file 1 ∷ file 5 ∷ [])
marked = pairs_more (files_alike 3 1 refl (omega arith)) (pairs_more (files_alike 1 5 refl (omega arith)) pairs_none)
