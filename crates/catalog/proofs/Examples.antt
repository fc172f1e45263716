-- The layout of a catalog on examples, computed.
--
--   volume_row_laid     the row of a volume: number, data size, control hash
--   catalog_laid        a catalog of a saved entry, one that is not, and a volume
-- Assumes nothing.
use mathlib.Core.Path.{◌≡◌, refl}
use mathlib.Core.List.{[], ◌∷◌, ◌++◌, flatten}
use lib.ListN.{replicate}
use Rattle.little_endian.specs.Bytes.{to_le, le_at, from_le}
use Rattle.catalog.specs.Rows.{row, volume_row, catalog_head, catalog_bytes}

-- control hash of ones at byte 16, set hash of twos at 32, number 5 at 48, data size 3 at 88
pub volume_row_laid : volume_row
    (replicate 16 0 ++ (replicate 16 1 ++ (replicate 16 2 ++ (5 ∷ replicate 39 0 ++ (3 ∷ replicate 7 0)))))
    ≡ 5 ∷ 0 ∷ 0 ∷ 0 ∷ 3 ∷ 0 ∷ 0 ∷ 0 ∷ 0 ∷ 0 ∷ 0 ∷ 0 ∷ replicate 16 1
unfolding row to_le le_at from_le flatten
volume_row_laid = refl

pub catalog_laid : catalog_bytes (row 1 3 (replicate 16 7) ∷ row 0 300 (replicate 16 8) ∷ []) (row 200 3 (replicate 16 9) ∷ [])
    ≡ 2 ∷ 0 ∷ 0 ∷ 0 ∷ 1 ∷ 0 ∷ 0 ∷ 0 ∷ 16 ∷ 0 ∷ 0 ∷ 0 ∷ 72 ∷ 0 ∷ 0 ∷ 0
    ∷ 1 ∷ 0 ∷ 0 ∷ 0 ∷ 3 ∷ 0 ∷ 0 ∷ 0 ∷ 0 ∷ 0 ∷ 0 ∷ 0 ∷ replicate 16 7
    ++ (0 ∷ 0 ∷ 0 ∷ 0 ∷ 44 ∷ 1 ∷ 0 ∷ 0 ∷ 0 ∷ 0 ∷ 0 ∷ 0 ∷ replicate 16 8
    ++ (200 ∷ 0 ∷ 0 ∷ 0 ∷ 3 ∷ 0 ∷ 0 ∷ 0 ∷ 0 ∷ 0 ∷ 0 ∷ 0 ∷ replicate 16 9))
unfolding catalog_bytes catalog_head row to_le flatten
catalog_laid = refl
