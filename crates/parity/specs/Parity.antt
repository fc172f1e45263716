-- The parity of the contents of files (document 01, "The parity bytes"), over any rule for the coefficients: `rule f v`
-- is that of file f in volume v.
--
--   Contents                    the bytes of each file, by its number
--   is_file n f                  whether f is the number of one of n files
--   greatest n size             the greatest of n sizes
--   parity_byte rule n X v p     byte p of volume v
--   parity rule n X v m         the bytes of volume v below m
-- Assumes nothing.
use Rattle.std.specs.Prelude.{ℕ, zero, suc, max, Bool, List, get_or}
use Rattle.computed_tests.specs.Lists.{list_below}
use Rattle.computed_tests.specs.Numbers.{one_to}
use Rattle.gf256.specs.Polynomial.{sum_below}
use Rattle.gf256.specs.Field.{product}

abbrev pub Contents : Type 0
Contents = ℕ → List ℕ

-- "Files are numbered 1 to n"
abbrev pub is_file : ℕ → ℕ → Bool
is_file n f = one_to n f

-- "the greatest file size"
unfoldable pub greatest : ℕ → (ℕ → ℕ) → ℕ
greatest zero size = 0
greatest (suc n) size = max (greatest n size) (size (suc n))

-- "Byte p of volume v is the sum, over all saved files, of factor times byte p; a file that has ended counts as zero"
unfoldable pub parity_byte : (ℕ → ℕ → ℕ) → ℕ → Contents → ℕ → ℕ → ℕ
parity_byte rule n X v p = sum_below n (λ i. product (rule (suc i) v) (get_or (X (suc i)) p 0))

-- "a volume's data", of m bytes
unfoldable pub parity : (ℕ → ℕ → ℕ) → ℕ → Contents → ℕ → ℕ → List ℕ
parity rule n X v m = list_below m (parity_byte rule n X v)
