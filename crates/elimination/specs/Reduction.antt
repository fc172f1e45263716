-- What the calls of this crate do to a matrix of bytes, 256 to a row, and to the owners of its columns.
--
--   entry m i j                    the entry of m in row i and column j
--   with_diagonal n m               m with the first n entries of its diagonal set to 1
--   row_product u m j               entry j of the row u times m
--   pivot_of y owners               the first column without an owner in which y is not 0, or 256
--   swept_entry y k scale m i j     an entry of m after a multiple of y was added to its row: `scale` times the entry in column k
--   swept y k scale m              m with each row so swept
--   column_taken u number m owners k     the matrix and the owners after the row u took column k
--   row_added u number m owners     the matrix and the owners after the row u was added
--   in_blocks width                 a width in whole blocks of 16
--   row_product_within w, pivot_within w, swept_within w, column_taken_within w, row_added_within w     the same within a width: of the first
--                                  w rows and columns, and the others stay
--   Apart w m                      m keeps to the width w, so that nothing is left out: proofs/Within, `added_within`
--   is_solvable m owners f          whether row f of m is 0 in each column without an owner
--   weight_of m owners f v          what stands in row f of m in the columns that v owns
-- Assumes nothing.
use Rattle.std.specs.Prelude.{◌≡◌, Bool, not, cond, ◌&&◌, List, ℕ, zero, suc, ◌+◌, ◌*◌, ◌/◌, ◌%◌, ◌<◌, ◌≤◌, eqb, ltb, get_or, set}
use Rattle.std.specs.Int.Bits.{bit_xor}
use Rattle.computed_tests.specs.Lists.{list_below, first_below}
use Rattle.gf256.specs.Polynomial.{sum_below}
use Rattle.gf256.specs.Field.{product, inverse}

abbrev pub entry : List ℕ → ℕ → ℕ → ℕ
entry m i j = get_or m (i * 256 + j) 0

unfoldable pub with_diagonal : ℕ → List ℕ → List ℕ
with_diagonal zero m = m
with_diagonal (suc n) m = set (with_diagonal n m) (n * 256 + n) 1

-- ---- a row added

unfoldable pub row_product : List ℕ → List ℕ → ℕ → ℕ
row_product u m j = sum_below 256 (λ i. product (get_or u i 0) (entry m i j))

unfoldable pub pivot_of : (ℕ → ℕ) → List ℕ → ℕ
pivot_of y owners = first_below 256 (λ k. eqb (get_or owners k 0) 0 && not (eqb (y k) 0))

unfoldable pub swept_entry : (ℕ → ℕ) → ℕ → ℕ → List ℕ → ℕ → ℕ → ℕ
swept_entry y k scale m i j = bit_xor (entry m i j) (product (product scale (entry m i k)) (y j))

unfoldable pub swept : (ℕ → ℕ) → ℕ → ℕ → List ℕ → List ℕ
swept y k scale m = list_below 65536 (λ p. swept_entry y k scale m (p / 256) (p % 256))

-- the row's product with the matrix becomes 1 in its column and 0 in the others
unfoldable pub column_taken : List ℕ → ℕ → List ℕ → List ℕ → ℕ → List ℕ × List ℕ
column_taken u number m owners k =
    (swept (λ j. bit_xor (row_product u m j) (cond (eqb k j) 1 0)) k (inverse (row_product u m k)) m, set owners k number)

-- where no column is free for it, nothing changes
unfoldable pub row_added : List ℕ → ℕ → List ℕ → List ℕ → List ℕ × List ℕ
row_added u number m owners =
    let k = pivot_of (row_product u m) owners in
    cond (ltb k 256) (column_taken u number m owners k) (m, owners)

-- ---- a row added within a width

unfoldable pub in_blocks : ℕ → ℕ
in_blocks width = (width + 15) / 16 * 16

unfoldable pub row_product_within : ℕ → List ℕ → List ℕ → ℕ → ℕ
row_product_within w u m j = sum_below w (λ i. product (get_or u i 0) (entry m i j))

unfoldable pub pivot_within : ℕ → (ℕ → ℕ) → List ℕ → ℕ
pivot_within w y owners = first_below w (λ k. eqb (get_or owners k 0) 0 && not (eqb (y k) 0))

unfoldable pub swept_within : ℕ → (ℕ → ℕ) → ℕ → ℕ → List ℕ → List ℕ
swept_within w y k scale m =
    list_below 65536 (λ p. cond (ltb (p / 256) w && ltb (p % 256) w) (swept_entry y k scale m (p / 256) (p % 256)) (get_or m p 0))

unfoldable pub column_taken_within : ℕ → List ℕ → ℕ → List ℕ → List ℕ → ℕ → List ℕ × List ℕ
column_taken_within w u number m owners k =
    (swept_within w (λ j. bit_xor (row_product_within w u m j) (cond (eqb k j) 1 0)) k (inverse (row_product_within w u m k)) m, set owners k number)

unfoldable pub row_added_within : ℕ → List ℕ → ℕ → List ℕ → List ℕ → List ℕ × List ℕ
row_added_within w u number m owners =
    let k = pivot_within w (row_product_within w u m) owners in
    cond (ltb k w) (column_taken_within w u number m owners k) (m, owners)

-- each entry is 0 that joins a row below w and a column from w on, or the other way
pub record Apart (w : ℕ) (m : List ℕ) : Type 0 where
  pub right : (i j : ℕ) → i < w → w ≤ j → j < 256 → entry m i j ≡ 0
  pub below : (i j : ℕ) → w ≤ i → i < 256 → j < w → entry m i j ≡ 0

-- ---- what is read off

unfoldable pub is_solvable : List ℕ → List ℕ → ℕ → Bool
is_solvable m owners f = eqb (pivot_of (entry m f) owners) 256

unfoldable pub weight_of : List ℕ → List ℕ → ℕ → ℕ → ℕ
weight_of m owners f v = sum_below 256 (λ k. cond (eqb (get_or owners k 0) v) (entry m f k) 0)
