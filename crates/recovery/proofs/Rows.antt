-- The parity of contents as rows over the field of bytes: row s is volume s + 1, column i is file i + 1.
--
--   eqb_suc               column and file number: successors are equal where the numbers are
--   K                     the field of bytes
--   mask                  a byte where the test holds, else 0
--   mask_mul, mask_same, mask_zero     in a product; on a byte that is 0 where the test does not hold; on 0
--   cell, cell_value      byte p of file i + 1, as a byte of the field
--   coef, coef_value      the coefficient of file i + 1 in volume s + 1, as such a byte
--   in_column              whether column i is a missing file that is not empty
--   matrix                the coefficients of these files in the volumes present, else 0
--   in_column_file, in_column_past       among the files it is as `column` says, past them false
--   matrix_present, matrix_absent, matrix_off     an entry by its volume and its column
--   rows-sum              a row at a vector, over the files alone
--   parity-sum            a parity byte as a sum of coefficients times cells
-- Assumes nothing.
use mathlib.Core.Path.{◌≡◌, refl, sym, ap, ap₂, ◌∙◌}
use mathlib.Core.Bool.{Bool, true, false, ◌&&◌}
use Prim.Native.Nat.{ℕ, suc, ◌<◌, ◌≤◌}
use native.Mathlib.Nat.{suc_inj}
use native.Mathlib.Omega.{arith}
use native.Mathlib.Decide.{ℕ_discrete}
use lib.Dec.{eqb}
use lib.ListN.{get_or}
use borrow.Author.Tests.{le-leb, lt-leb, eq-eqb, ne_eqb}
use Rattle.computed_tests.proofs.Tests.{one_to_in}
use Rattle.gf256.specs.Field.{product}
use Rattle.gf256.proofs.Polynomials.{sum_below-same}
use Rattle.parity.specs.Parity.{Contents, is_file, parity_byte}
use Rattle.elimination.specs.Field.{Field, sum}
use Rattle.elimination.proofs.Sums as S
use Rattle.elimination.specs.ByteField.{Byte, to_byte, byte_field}
use Rattle.elimination.proofs.ByteField.{to_byte_value, sum_value}
use Rattle.recovery.specs.Recoverable.{State, IsContents, column}

pub eqb_suc : (i j : ℕ) → eqb (suc i) (suc j) ≡ eqb i j
eqb_suc i j =
    elim (ℕ_discrete i j) [
      | yes e ↦ eq-eqb (suc i) (suc j) (ap suc e) ∙ sym (eq-eqb i j e)
      | no q ↦ ne_eqb (suc i) (suc j) (λ e. q (suc_inj e)) ∙ sym (ne_eqb i j q)
    ]

abbrev pub K : Field Byte
K = byte_field

open K use {𝟘, 𝟙, add as ◌⊕◌, mul as ◌⊗◌}

infixl 60 ◌⊕◌
infixl 70 ◌⊗◌
-- the byte where the test holds, else 0
unfoldable pub mask : Bool → Byte → Byte
mask true b = b
mask false b = 𝟘

pub mask_mul : (b : Bool) (x y : Byte) → mask b x ⊗ y ≡ x ⊗ mask b y
unfolding mask
mask_mul true x y = refl
mask_mul false x y = S.zero-mul K y ∙ sym (S.mul-zero K x)

pub mask_same : (b : Bool) (x : Byte) → (b ≡ false → x ≡ 𝟘) → mask b x ≡ x
unfolding mask
mask_same true x h = refl
mask_same false x h = sym (h refl)

mask_zero : (b : Bool) → mask b 𝟘 ≡ 𝟘
unfolding mask
mask_zero true = refl
mask_zero false = refl

-- byte p of file i + 1
unfoldable pub cell : Contents → ℕ → ℕ → Byte
cell X p i = to_byte (get_or (X (suc i)) p 0)

module _ (rule : ℕ → ℕ → ℕ) (small : (f v : ℕ) → f < 256 → rule f v < 256) (t : State) (fits : t.n ≤ 254) where
  unfoldable pub coef : ℕ → ℕ → Byte
  coef i s = to_byte (rule (suc i) (suc s))

  pub coef_value : (i s : ℕ) → i < 255 → (coef i s).0 ≡ rule (suc i) (suc s)
  unfolding coef
  coef_value i s l = to_byte_value (rule (suc i) (suc s)) (small (suc i) (suc s) (omega arith))

  abbrev pub in_column : ℕ → Bool
  in_column i = is_file t.n (suc i) && column t (suc i)

  unfoldable pub matrix : ℕ → ℕ → Byte
  matrix s i = mask (t.volumes (suc s)) (mask (in_column i) (coef i s))

  -- ---- entries of the matrix

  pub in_column_file : (i : ℕ) → i < t.n → in_column i ≡ column t (suc i)
  in_column_file i l = ap (λ (b : Bool). b && column t (suc i)) (one_to_in t.n (suc i) (omega arith) l)

  pub in_column_past : (i : ℕ) → t.n ≤ i → in_column i ≡ false
  in_column_past i l =
      ap (λ (b : Bool). b && column t (suc i))
      (ap₂ (λ (a b : Bool). a && b) (le-leb 1 (suc i) (omega arith)) (lt-leb (suc i) t.n (omega arith)))

  pub matrix_present : (s i : ℕ) → t.volumes (suc s) ≡ true → in_column i ≡ true → matrix s i ≡ coef i s
  unfolding matrix mask
  matrix_present s i e h = ap₂ (λ (a b : Bool). mask a (mask b (coef i s))) e h

  pub matrix_absent : (s i : ℕ) → t.volumes (suc s) ≡ false → matrix s i ≡ 𝟘
  unfolding matrix mask
  matrix_absent s i e = ap (λ (a : Bool). mask a (mask (in_column i) (coef i s))) e

  pub matrix_off : (s i : ℕ) → in_column i ≡ false → matrix s i ≡ 𝟘
  unfolding matrix mask
  matrix_off s i e = ap (λ (b : Bool). mask (t.volumes (suc s)) (mask b (coef i s))) e ∙ mask_zero (t.volumes (suc s))

  pub rows-sum : (s : ℕ) (z : ℕ → Byte) → sum K 256 (λ i. matrix s i ⊗ z i) ≡ sum K t.n (λ i. matrix s i ⊗ z i)
  rows-sum s z =
      S.sum_first K t.n 256 (λ i. matrix s i ⊗ z i) (omega arith)
      (λ i l h. ap (λ (x : Byte). x ⊗ z i) (matrix_off s i (in_column_past i l)) ∙ S.zero-mul K (z i))

  -- ---- parity

  pub cell_value : (X : Contents) → IsContents t X → (p i : ℕ) → i < t.n → (cell X p i).0 ≡ get_or (X (suc i)) p 0
  unfolding cell
  cell_value X h p i l = to_byte_value (get_or (X (suc i)) p 0) ((h (suc i) (one_to_in t.n (suc i) (omega arith) l)).1 p)

  pub parity-sum : (X : Contents) → IsContents t X → (s p : ℕ)
      → parity_byte rule t.n X (suc s) p ≡ (sum K t.n (λ i. coef i s ⊗ cell X p i)).0
  unfolding parity_byte
  parity-sum X h s p =
      sum_below-same t.n (λ i. product (rule (suc i) (suc s)) (get_or (X (suc i)) p 0)) (λ i. (coef i s ⊗ cell X p i).0)
      (λ i l. sym (ap₂ product (coef_value i s (omega arith)) (cell_value X h p i l)))
      ∙ sym (sum_value t.n (λ i. coef i s ⊗ cell X p i))
