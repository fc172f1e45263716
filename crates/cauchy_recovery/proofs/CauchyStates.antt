-- The rows of a state with Cauchy coefficients, and its volumes and missing files counted.
--
--   in_column, is_row          whether column i is a missing file that is not empty; whether row s is a volume present
--   columns_size, rows_size  how many there are
--   entry_matrix             where both hold, the entry of the matrix is the inverse of the sum of two numbers, all of which differ
--   solution                 with no more columns than rows there are weights for each column
--   kernel                   with fewer rows than columns there is a kernel vector for each column
-- Assumes nothing.
use mathlib.Core.Path.{◌≡◌, refl, sym, ap, ◌∙◌}
use mathlib.Core.Logic.{◌≢◌, ◌⊎◌, inl, inr}
use mathlib.Core.Bool.{Bool, true, false, ◌&&◌, true≢false}
use Prim.Native.Nat.{ℕ, suc, ◌<◌, ◌≤◌, ◌-◌}
use native.Mathlib.Nat.{suc_inj}
use native.Mathlib.Omega.{arith}
use lib.Bits.{bit_xor}
use Rattle.computed_tests.proofs.Tests.{and_both, one_to_in, one_to_inside, one_to_outside}
use Rattle.gf256.specs.Field.{inverse}
use Rattle.parity.specs.Parity.{is_file}
use Rattle.number_sets.specs.Sets.{size_below}
use Rattle.elimination.specs.Field.{sum, δ}
use Rattle.elimination.specs.Matrix.{IsSolution, IsKernelVector}
use Rattle.elimination.specs.ByteField.{Byte, byte_eq, to_byte}
use Rattle.elimination.proofs.Sums as S
use Rattle.elimination.proofs.ByteField.{to_byte_value, is_zero}
use Rattle.elimination.proofs.Solutions.{decide}
use Rattle.cauchy.specs.Cauchy.{row_point, cauchy}
use Rattle.cauchy.proofs.Coefficients.{cauchy_byte}
use Rattle.recovery.specs.Recoverable.{State, is_volume, column}
use Rattle.inventory.specs.Model.{remove}
use Rattle.inventory.proofs.ModelSets.{remove_here, remove_inside}
use Rattle.recovery.proofs.Rows as R
use Rattle.recovery.proofs.Rows.{K, mask}
use Rattle.inventory.proofs.Sizes.{size_shifted, size_remove}
use Rattle.cauchy_recovery.specs.Claim.{volumes_present, nonempty_missing}
use Rattle.cauchy_recovery.proofs.CauchyRows as C
use Rattle.cauchy_recovery.proofs.CauchyRows.{Apart, apart_turned, apart_fewer, no_kernel}
open K use {𝟘, mul as ◌⊗◌, inv}

infixl 70 ◌⊗◌
-- the numbers that stand for file i + 1 and for volume s + 1
column_byte : ℕ → Byte
column_byte i = to_byte (suc i)

row_byte : ℕ → Byte
row_byte s = to_byte (256 - suc s)

-- the inverse of their sum, and the same with rows and columns exchanged
abbrev entry : ℕ → ℕ → Byte
entry s i = C.entry K column_byte row_byte s i

abbrev turned : ℕ → ℕ → Byte
turned g s = C.entry K row_byte column_byte g s

module _ (t : State) (fits : t.n ≤ 254) where
  abbrev pub matrix : ℕ → ℕ → Byte
  matrix s i = R.matrix cauchy cauchy_byte t fits s i

  abbrev pub in_column : ℕ → Bool
  in_column i = R.in_column cauchy cauchy_byte t fits i

  abbrev pub is_row : ℕ → Bool
  is_row s = is_volume t.n (suc s) && t.volumes (suc s)

  column_inside : (i : ℕ) → in_column i ≡ true → i < t.n
  column_inside i e = (one_to_inside t.n (suc i) (and_both (is_file t.n (suc i)) (column t (suc i)) e).0).1

  row_inside : (s : ℕ) → is_row s ≡ true → s < 255 - t.n
  row_inside s e = (one_to_inside (255 - t.n) (suc s) (and_both (is_volume t.n (suc s)) (t.volumes (suc s)) e).0).1

  row-present : (s : ℕ) → is_row s ≡ true → t.volumes (suc s) ≡ true
  row-present s e = (and_both (is_volume t.n (suc s)) (t.volumes (suc s)) e).1

  -- ---- how many

  columns_size : nonempty_missing t ≡ size_below 256 in_column
  columns_size =
      size_shifted 256 (λ g. is_file t.n g && column t g) refl
      (ap (λ (b : Bool). b && column t 256) (one_to_outside t.n 256 (λ a b. omega arith)))

  rows_size : volumes_present t ≡ size_below 256 is_row
  rows_size =
      size_shifted 256 (λ v. is_volume t.n v && t.volumes v) refl
      (ap (λ (b : Bool). b && t.volumes 256) (one_to_outside (255 - t.n) 256 (λ a b. omega arith)))

  -- ---- the entries are inverses of sums

  column_value : (i : ℕ) → in_column i ≡ true → (column_byte i).0 ≡ suc i
  unfolding column_byte
  column_value i e = let l = column_inside i e in to_byte_value (suc i) (omega arith)

  row_value : (s : ℕ) → (row_byte s).0 ≡ 256 - suc s
  unfolding row_byte
  row_value s = to_byte_value (256 - suc s) (omega arith)

  points_apart : Apart K column_byte row_byte in_column is_row
  points_apart = record {
    columns = λ i j p q d e. d (suc_inj (sym (column_value i p) ∙ ap (λ (b : Byte). b.0) e ∙ column_value j q));
    rows = λ s q p r d e.
        let same : 256 - suc s ≡ 256 - suc q = sym (row_value s) ∙ ap (λ (b : Byte). b.0) e ∙ row_value q in
        let ls = row_inside s p in
        let lq = row_inside q r in
        d (omega arith);
    both = λ i s p q e.
        let same : suc i ≡ 256 - suc s = sym (column_value i p) ∙ ap (λ (b : Byte). b.0) e ∙ row_value s in
        let li = column_inside i p in
        let ls = row_inside s q in
        omega arith;
  }

  entry_coef : (s i : ℕ) → in_column i ≡ true → entry s i ≡ R.coef cauchy cauchy_byte t fits i s
  unfolding cauchy row_byte to_byte
  entry_coef s i e = let l = column_inside i e in
      byte_eq (entry s i) (R.coef cauchy cauchy_byte t fits i s)
      (ap (λ (x : ℕ). inverse (bit_xor x (row_point (suc s)))) (column_value i e)
      ∙ sym (R.coef_value cauchy cauchy_byte t fits i s (omega arith)))

  entry_matrix : (s i : ℕ) → is_row s ≡ true → in_column i ≡ true → entry s i ≡ matrix s i
  entry_matrix s i p q = entry_coef s i q ∙ sym (R.matrix_present cauchy cauchy_byte t fits s i (row-present s p) q)

  -- ---- no more columns than rows: no kernel vector

  module _ (enough : nonempty_missing t ≤ volumes_present t) (f : ℕ) (in_f : in_column f ≡ true) where
    no_kernel_vector : (x : ℕ → Byte) → IsKernelVector K matrix 256 (255 - t.n) f x → ⊥
    unfolding mask
    no_kernel_vector x k = let l = column_inside f in_f in
        k.asked
        (sym (ap (λ (b : Bool). mask b (x f)) in_f)
        ∙ no_kernel K column_byte row_byte 256 is_row 256 in_column points_apart (omega (arith, columns_size, rows_size)) masked
        (λ i e. ap (λ (b : Bool). mask b (x i)) e) (λ s _ e. row s e) f (omega arith))
      where
        masked : ℕ → Byte
        masked i = mask (in_column i) (x i)

        each : (s i : ℕ) → is_row s ≡ true → (b : Bool) → in_column i ≡ b → mask b (x i) ⊗ entry s i ≡ matrix s i ⊗ x i
        each s i p true q = ap (λ (y : Byte). x i ⊗ y) (entry_matrix s i p q) ∙ K.mul_comm (x i) (matrix s i)
        each s i p false q = simp (S.zero-mul K (entry s i), S.zero-mul K (x i), R.matrix_off cauchy cauchy_byte t fits s i q)

        row : (s : ℕ) → is_row s ≡ true → sum K 256 (λ i. mask (in_column i) (x i) ⊗ entry s i) ≡ 𝟘
        row s e =
            S.sum_cong K 256 (λ i. mask (in_column i) (x i) ⊗ entry s i) (λ i. matrix s i ⊗ x i)
            (λ i _. each s i e (in_column i) refl)
            ∙ k.rows s (row_inside s e)

    pub solution : (w : ℕ → Byte) × IsSolution K matrix 256 (255 - t.n) f w
    solution = go (decide K is_zero matrix 256 (255 - t.n) f (let l = column_inside f in_f in omega arith))
      where
        go : ((w : ℕ → Byte) × IsSolution K matrix 256 (255 - t.n) f w) ⊎ ((x : ℕ → Byte) × IsKernelVector K matrix 256 (255 - t.n) f x)
            → (w : ℕ → Byte) × IsSolution K matrix 256 (255 - t.n) f w
        go (inl w) = w
        go (inr (x, k)) = absurd (no_kernel_vector x k)

  -- ---- fewer rows than columns: no weights, for without column f there are still no fewer columns than rows

  module _ (few : volumes_present t < nonempty_missing t) (f : ℕ) (in_f : in_column f ≡ true) where
    no_solution : (w : ℕ → Byte) → IsSolution K matrix 256 (255 - t.n) f w → ⊥
    unfolding mask
    no_solution w W =
        K.one_ne_zero
        (sym (S.δ-same K f f refl) ∙ sym (at_column f in_f)
        ∙ S.sum-none K 256 (λ s. masked s ⊗ turned f s)
        (λ s l. ap (λ (y : Byte). y ⊗ turned f s) (none s l) ∙ S.zero-mul K (turned f s)))
      where
        masked : ℕ → Byte
        masked s = mask (is_row s) (w s)

        off : (s : ℕ) → is_row s ≡ false → masked s ≡ 𝟘
        off s e = ap (λ (b : Bool). mask b (w s)) e

        each : (g : ℕ) → in_column g ≡ true → (s : ℕ) → s < 255 - t.n → (b : Bool) → is_row s ≡ b
            → mask b (w s) ⊗ turned g s ≡ w s ⊗ matrix s g
        each g q s l true e = ap (λ (y : Byte). w s ⊗ y) (ap inv (K.add_comm (row_byte s) (column_byte g)) ∙ entry_matrix s g e q)
        each g q s l false e =
            S.zero-mul K (turned g s) ∙ sym (S.mul-zero K (w s))
            ∙ ap (λ (y : Byte). w s ⊗ y)
            (sym (R.matrix_absent cauchy cauchy_byte t fits s g
            (sym (ap (λ (b : Bool). b && t.volumes (suc s)) (one_to_in (255 - t.n) (suc s) (omega arith) l)) ∙ e)))

        at_column : (g : ℕ) → in_column g ≡ true → sum K 256 (λ s. masked s ⊗ turned g s) ≡ δ K f g
        at_column g q = let l = column_inside g q in
            S.sum_first K (255 - t.n) 256 (λ s. masked s ⊗ turned g s) (omega arith)
            (λ s m _.
            ap (λ (y : Byte). y ⊗ turned g s)
            (off s (ap (λ (b : Bool). b && t.volumes (suc s)) (one_to_outside (255 - t.n) (suc s) (λ a b. omega arith))))
            ∙ S.zero-mul K (turned g s))
            ∙ S.sum_cong K (255 - t.n) (λ s. masked s ⊗ turned g s) (λ s. w s ⊗ matrix s g)
            (λ s m. each g q s m (is_row s) refl)
            ∙ W.sums g (omega arith)

        other : (g : ℕ) → remove f in_column g ≡ true → f ≢ g
        other g e z = true≢false (sym e ∙ ap (remove f in_column) (sym z) ∙ remove_here in_column f)

        none : (s : ℕ) → s < 256 → masked s ≡ 𝟘
        none = let l = column_inside f in_f in
            no_kernel K row_byte column_byte 256 (remove f in_column) 256 is_row
            (apart_turned K column_byte row_byte (remove f in_column) is_row (apart_fewer K column_byte row_byte in_column is_row f points_apart))
            (omega (arith, columns_size, rows_size, size_remove 256 in_column f (omega arith) in_f)) masked off
            (λ g _ e. at_column g (remove_inside in_column f g e) ∙ S.δ-other K f g (other g e))

    pub kernel : (x : ℕ → Byte) × IsKernelVector K matrix 256 (255 - t.n) f x
    kernel = go (decide K is_zero matrix 256 (255 - t.n) f (let l = column_inside f in_f in omega arith))
      where
        go : ((w : ℕ → Byte) × IsSolution K matrix 256 (255 - t.n) f w) ⊎ ((x : ℕ → Byte) × IsKernelVector K matrix 256 (255 - t.n) f x)
            → (x : ℕ → Byte) × IsKernelVector K matrix 256 (255 - t.n) f x
        go (inl (w, W)) = absurd (no_solution w W)
        go (inr k) = k
