-- Worked examples of the definitions, computed: the version number of a Par 1.0 file as its four bytes, a number that runs past
-- the end, and a write that does.
--
--   examples     all of them
-- Assumes nothing.
use mathlib.Core.Path.{◌≡◌, refl}
use mathlib.Core.List.{[], ◌∷◌}
use lib.Seq.{sets}
use Rattle.little_endian.specs.Bytes.{from_le, to_le, le_at}

pub examples :
    (to_le 4 65536 ≡ 0 ∷ 0 ∷ 1 ∷ 0 ∷ [])
    × (from_le (0 ∷ 0 ∷ 1 ∷ 0 ∷ []) ≡ 65536)
    × (to_le 2 65537 ≡ 1 ∷ 0 ∷ [])
    × (le_at 2 (7 ∷ 1 ∷ 2 ∷ 3 ∷ []) 1 ≡ 513)
    × (le_at 4 (7 ∷ 1 ∷ 2 ∷ []) 1 ≡ 513)
    × (sets (7 ∷ 7 ∷ 7 ∷ []) 2 (to_le 2 513) ≡ 7 ∷ 7 ∷ 1 ∷ [])
unfolding from_le to_le le_at
examples = (refl, refl, refl, refl, refl, refl)
