-- What a missing file's weights are made of (document 01, "The sheet": the recipe), over any rule for the coefficients: `rule f v`
-- is that of file f in volume v. A set of files is `nonempty`, those of size 1 or more, or `present`.
--
--   column_in nonempty present g      whether file g is a column: of size 1 or more, and not present
--   table_of rule nonempty present volumes v i     the coefficient of file i + 1 in volume v + 1, if it is a column and the volume is
--                                    present, else 0
--   row_of rule nonempty present v    the coefficients of the columns in volume v, file i + 1 in place i
--   volume_added rule nonempty present volumes v s     the elimination s after the row of volume v, if it is present
--   volumes_added rule nonempty present volumes k s    the elimination s after the rows of the volumes present, of the first k
--   columns_below nonempty present m      how many of the first m files are columns
--   IsColumns nonempty present files width     the files of the columns one after another, and how many there are
--   renumbered rule files, numbers_to width     the columns as a set of files of its own: its rule, and its numbers
--   weight_at rows w v                the weight of volume v, of `rows` volumes; 0 for no such volume
--   Solved rule nonempty present volumes rows i ws found      whether weights of the rows sum them to 1 in column i and to 0 in the
--                                    others, and these weights by volume number, or zeros
--   SolvedColumns rule nonempty present volumes rows r      r is the set of the files whose columns are so solved
--   file_weight rule present ws m i   the sum, over the first m volumes, of weight times the coefficient of file i + 1, if it is present
-- An elimination is its matrix and its owners.
-- Assumes nothing.
use Rattle.std.specs.Prelude.{◌≡◌, Bool, true, false, not, cond, ◌&&◌, List, ℕ, zero, suc, ◌-◌, ◌<◌, leb, get_or, replicate}
use Rattle.computed_tests.specs.Lists.{list_below}
use Rattle.gf256.specs.Polynomial.{sum_below}
use Rattle.gf256.specs.Field.{product}
use Rattle.elimination.specs.Matrix.{IsSolution, IsKernelVector}
use Rattle.elimination.specs.Reduction.{row_added}
use Rattle.elimination.specs.ByteField.{Byte, byte_field, to_byte}
use Rattle.number_sets.specs.Sets.{member, inserted, size_below, Words}

-- ---- the rows

abbrev pub column_in : List ℕ → List ℕ → ℕ → Bool
column_in nonempty present g = leb g 255 && (member nonempty g && not (member present g))

module _ (rule : ℕ → ℕ → ℕ) (nonempty present : List ℕ) where
  unfoldable pub row_of : ℕ → List ℕ
  row_of v = list_below 256 (λ i. cond (column_in nonempty present (suc i)) (rule (suc i) v) 0)

module _ (rule : ℕ → ℕ → ℕ) (nonempty present volumes : List ℕ) where
  unfoldable pub table_of : ℕ → ℕ → Byte
  table_of v i = to_byte (cond (member volumes (suc v)) (cond (column_in nonempty present (suc i)) (rule (suc i) (suc v)) 0) 0)

  unfoldable pub volume_added : ℕ → List ℕ × List ℕ → List ℕ × List ℕ
  volume_added v s = cond (member volumes v) (row_added (row_of rule nonempty present v) v s.0 s.1) s

  unfoldable pub volumes_added : ℕ → List ℕ × List ℕ → List ℕ × List ℕ
  volumes_added zero s = s
  volumes_added (suc v) s = volume_added (suc v) (volumes_added v s)

-- ---- the columns numbered anew, which the elimination takes: a set of files of its own, all of size 1 or more and none present

abbrev pub columns_below : List ℕ → List ℕ → ℕ → ℕ
columns_below nonempty present m = size_below m (λ i. column_in nonempty present (suc i))

-- a column stands after those before it
pub record IsColumns (nonempty present files : List ℕ) (width : ℕ) : Type 0 where
  pub counted : width ≡ columns_below nonempty present 255
  pub each : (i : ℕ) → column_in nonempty present (suc i) ≡ true → get_or files (columns_below nonempty present i) 0 ≡ suc i
  pub bytes : (p : ℕ) → get_or files p 0 < 256

unfoldable pub renumbered : (ℕ → ℕ → ℕ) → List ℕ → ℕ → ℕ → ℕ
renumbered rule files p v = rule (get_or files (p - 1) 0) v

unfoldable pub numbers_to : ℕ → List ℕ
numbers_to zero = replicate 4 0
numbers_to (suc n) = inserted (suc n) (numbers_to n)

-- ---- the weights

-- the weights of the first `rows` volumes, by volume number
unfoldable pub weight_at : ℕ → (ℕ → Byte) → ℕ → ℕ
weight_at rows w zero = 0
weight_at rows w (suc v) = cond (leb (suc v) rows) (w v).0 0

pub data Solved (rule : ℕ → ℕ → ℕ) (nonempty present volumes : List ℕ) (rows i : ℕ) (ws : List ℕ) : Bool → Type 0 where
  solved : (w : ℕ → Byte) → IsSolution byte_field (table_of rule nonempty present volumes) 256 rows i w
      → ((v : ℕ) → v < 256 → get_or ws v 0 ≡ weight_at rows w v) → Solved rule nonempty present volumes rows i ws true
  unsolved : (x : ℕ → Byte) → IsKernelVector byte_field (table_of rule nonempty present volumes) 256 rows i x
      → ws ≡ replicate 256 0 → Solved rule nonempty present volumes rows i ws false

-- ---- all columns at once

pub record SolvedColumns (rule : ℕ → ℕ → ℕ) (nonempty present volumes : List ℕ) (rows : ℕ) (r : List ℕ) : Type 0 where
  pub words : Words r
  pub columns : (f : ℕ) → member r f ≡ true → (0 < f) × (column_in nonempty present f ≡ true)
  pub each : (i : ℕ) → i < 255 → (ws : List ℕ) × Solved rule nonempty present volumes rows i ws (member r (suc i))

-- ---- the weights of the files

unfoldable pub file_weight : (ℕ → ℕ → ℕ) → List ℕ → List ℕ → ℕ → ℕ → ℕ
file_weight rule present ws m i =
    sum_below m (λ v. product (get_or ws (suc v) 0) (cond (member present (suc i)) (rule (suc i) (suc v)) 0))
