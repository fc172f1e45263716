-- Whether a missing file is recoverable and a volume used, by numbers that can be computed with.
--
--   weights_recoverable    weights of the first m volumes that sum the coefficients to 1 in the file and 0 in other columns: recoverable
--   cancel_undetermined    bytes, one a file, that each volume present sums to 0, and that are not 0 in the file: not recoverable
--   cancel_used            bytes that each lower volume present sums to 0, and this one does not: the volume is used
-- Assumes nothing.
use mathlib.Core.Path.{◌≡◌, refl, sym, ap, ◌∙◌}
use mathlib.Core.Logic.{◌≢◌, ◌⊎◌, inl, inr}
use mathlib.Core.Bool.{Bool, true, false, cond, true≢false}
use Prim.Native.Nat.{ℕ, suc, ◌<◌, ◌≤◌, ◌-◌}
use native.Mathlib.Omega.{arith}
use lib.Dec.{eqb}
use Rattle.computed_tests.proofs.Tests.{and_both, one_to_inside}
use Rattle.gf256.specs.Polynomial.{sum_below}
use Rattle.gf256.specs.Field.{product}
use Rattle.gf256.proofs.Polynomials.{sum_below-same}
use Rattle.gf256.proofs.Products.{product_zero_l, product_zero_r}
use Rattle.parity.specs.Parity.{is_file}
use Rattle.elimination.specs.Field.{sum, δ}
use Rattle.elimination.specs.Matrix.{Dependent, IsSolution, IsKernelVector}
use Rattle.elimination.proofs.Sums as S
use Rattle.elimination.proofs.Solutions as Solutions
use Rattle.elimination.specs.ByteField.{Byte, byte_eq}
use Rattle.elimination.proofs.ByteField.{is_zero, sum_value, δ-value}
use Rattle.recovery.specs.Recoverable.{State, column, Recoverable, Used}
use Rattle.recovery.proofs.Rows as R
use Rattle.recovery.proofs.Rows.{K, eqb_suc}
use Rattle.recovery.proofs.Recovery as Recovery
use Rattle.recovery.proofs.Weights as Weights
open K use {𝟘, mul as ◌⊗◌}

infixl 70 ◌⊗◌
module _ (rule : ℕ → ℕ → ℕ) (small : (f v : ℕ) → f < 256 → rule f v < 256) (t : State) (fits : t.n ≤ 254) where
  abbrev matrix : ℕ → ℕ → Byte
  matrix s i = R.matrix rule small t fits s i

  abbrev in_column : ℕ → Bool
  in_column i = R.in_column rule small t fits i

  in_file : (i : ℕ) → in_column i ≡ true → i < t.n
  in_file i e = (one_to_inside t.n (suc i) (and_both (is_file t.n (suc i)) (column t (suc i)) e).0).1

  -- ---- weights

  module _ (f m : ℕ) (inside : f < t.n) (m-small : m ≤ 255 - t.n) (is_column : column t (suc f) ≡ true) (w : ℕ → Byte)
      (absent : (s : ℕ) → t.volumes (suc s) ≡ false → w s ≡ 𝟘) (past : (s : ℕ) → m ≤ s → w s ≡ 𝟘)
      (sums : (g : ℕ) → is_file t.n g ≡ true → column t g ≡ true
      → sum_below m (λ s. product (w s).0 (rule g (suc s))) ≡ cond (eqb (suc f) g) 1 0) where
    term : (s i : ℕ) → in_column i ≡ true → (w s ⊗ matrix s i).0 ≡ product (w s).0 (rule (suc i) (suc s))
    term s i e = go (t.volumes (suc s)) refl
      where
        go : (b : Bool) → t.volumes (suc s) ≡ b → (w s ⊗ matrix s i).0 ≡ product (w s).0 (rule (suc i) (suc s))
        go true h = let l = in_file i e in
            simp (R.matrix_present, R.coef_value rule small t fits i s (omega arith))
        go false h = simp (absent, product_zero_l)

    unit : (i : ℕ) → sum K (255 - t.n) (λ s. w s ⊗ matrix s i) ≡ δ K f i
    unit i =
        S.sum_first K m (255 - t.n) (λ s. w s ⊗ matrix s i) m-small
        (λ s l h. ap (λ (x : Byte). x ⊗ matrix s i) (past s l) ∙ S.zero-mul K (matrix s i))
        ∙ go (in_column i) refl
      where
        go : (b : Bool) → in_column i ≡ b → sum K m (λ s. w s ⊗ matrix s i) ≡ δ K f i
        go true e = let both = and_both (is_file t.n (suc i)) (column t (suc i)) e in
            byte_eq (sum K m (λ s. w s ⊗ matrix s i)) (δ K f i)
            (sum_value m (λ s. w s ⊗ matrix s i)
            ∙ sum_below-same m (λ s. (w s ⊗ matrix s i).0) (λ s. product (w s).0 (rule (suc i) (suc s))) (λ s l. term s i e)
            ∙ sums (suc i) both.0 both.1 ∙ ap (λ (b : Bool). cond b 1 0) (eqb_suc f i) ∙ sym (δ-value f i))
        go false e =
            S.sum-none K m (λ s. w s ⊗ matrix s i)
            (λ s l. ap (λ (x : Byte). w s ⊗ x) (R.matrix_off rule small t fits s i e) ∙ S.mul-zero K (w s))
            ∙ sym (S.δ-other K f i (λ z. true≢false
            (sym (R.in_column_file rule small t fits f inside ∙ is_column) ∙ ap (R.in_column rule small t fits) z ∙ e)))

    no_kernel : (x : ℕ → Byte) → IsKernelVector K matrix 256 (255 - t.n) f x → ⊥
    no_kernel x k =
        k.asked
        (sym (S.sum-δ K 256 f x (omega arith))
        ∙ S.sum_cong K 256 (λ g. δ K f g ⊗ x g) (λ g. sum K (255 - t.n) (λ s. w s ⊗ matrix s g) ⊗ x g)
        (λ g l. ap (λ (y : Byte). y ⊗ x g) (sym (unit g)))
        ∙ Solutions.by_columns K matrix 256 (255 - t.n) w x
        ∙ S.sum-none K (255 - t.n) (λ s. w s ⊗ sum K 256 (λ g. matrix s g ⊗ x g))
        (λ s l. ap (λ (y : Byte). w s ⊗ y) (k.rows s l) ∙ S.mul-zero K (w s)))

    pub weights_recoverable : Recoverable rule t (suc f)
    weights_recoverable = go (Solutions.decide K is_zero matrix 256 (255 - t.n) f (omega arith))
      where
        go : ((w : ℕ → Byte) × IsSolution K matrix 256 (255 - t.n) f w)
            ⊎ ((x : ℕ → Byte) × IsKernelVector K matrix 256 (255 - t.n) f x) → Recoverable rule t (suc f)
        go (inl (u, W)) = Recovery.solution_recoverable rule small t fits f inside u W
        go (inr (x, k)) = absurd (no_kernel x k)

  -- ---- bytes that cancel

  module _ (x : ℕ → Byte) (off : (i : ℕ) → i < t.n → column t (suc i) ≡ false → x i ≡ 𝟘) where
    abbrev at_row : ℕ → ℕ
    at_row s = sum_below t.n (λ i. product (rule (suc i) (suc s)) (x i).0)

    cell : (s i : ℕ) → i < t.n → t.volumes (suc s) ≡ true → (matrix s i ⊗ x i).0 ≡ product (rule (suc i) (suc s)) (x i).0
    cell s i l h = go (in_column i) refl
      where
        go : (b : Bool) → in_column i ≡ b → (matrix s i ⊗ x i).0 ≡ product (rule (suc i) (suc s)) (x i).0
        go true e = simp (R.matrix_present, R.coef_value rule small t fits i s (omega arith))
        go false e = let z = off i l (sym (R.in_column_file rule small t fits i l) ∙ e) in
            simp (z, product_zero_r)

    row_value : (s : ℕ) → t.volumes (suc s) ≡ true → (sum K 256 (λ i. matrix s i ⊗ x i)).0 ≡ at_row s
    row_value s h =
        ap (λ (y : Byte). y.0) (R.rows-sum rule small t fits s x) ∙ sum_value t.n (λ i. matrix s i ⊗ x i)
        ∙ sum_below-same t.n (λ i. (matrix s i ⊗ x i).0) (λ i. product (rule (suc i) (suc s)) (x i).0) (λ i l. cell s i l h)

    row_zero : (s : ℕ) → (t.volumes (suc s) ≡ true → at_row s ≡ 0) → sum K 256 (λ i. matrix s i ⊗ x i) ≡ 𝟘
    row_zero s h = go (t.volumes (suc s)) refl
      where
        go : (b : Bool) → t.volumes (suc s) ≡ b → sum K 256 (λ i. matrix s i ⊗ x i) ≡ 𝟘
        go true e = byte_eq (sum K 256 (λ i. matrix s i ⊗ x i)) 𝟘 (row_value s e ∙ h e)
        go false e =
            S.sum-none K 256 (λ i. matrix s i ⊗ x i)
            (λ i l. ap (λ (y : Byte). y ⊗ x i) (R.matrix_absent rule small t fits s i e) ∙ S.zero-mul K (x i))

    pub cancel_undetermined : (f : ℕ) → f < t.n → column t (suc f) ≡ true → x f ≢ 𝟘
        → ((s : ℕ) → t.volumes (suc s) ≡ true → at_row s ≡ 0) → ¬ Recoverable rule t (suc f)
    cancel_undetermined f inside is_column asked zero-rows =
        Recovery.kernel_unrecoverable rule small t fits f inside is_column x
        (record { rows = λ s l. row_zero s (zero-rows s); asked = asked })

    pub cancel_used : (s : ℕ) → s < 255 - t.n → t.volumes (suc s) ≡ true → at_row s ≢ 0
        → ((r : ℕ) → r < s → t.volumes (suc r) ≡ true → at_row r ≡ 0) → Used rule t (suc s)
    unfolding Dependent
    cancel_used s inside here other lower = Weights.independent_used rule small t fits s inside independent
      where
        independent : ¬ Dependent K matrix 256 s
        independent (c, h) =
            other
            (sym (row_value s here)
            ∙ ap (λ (y : Byte). y.0)
            (S.sum_cong K 256 (λ i. matrix s i ⊗ x i) (λ i. sum K s (λ r. c r ⊗ matrix r i) ⊗ x i)
            (λ i l. ap (λ (y : Byte). y ⊗ x i) (h i l))
            ∙ Solutions.by_columns K matrix 256 s c x
            ∙ S.sum-none K s (λ r. c r ⊗ sum K 256 (λ i. matrix r i ⊗ x i))
            (λ r l. ap (λ (y : Byte). c r ⊗ y) (row_zero r (lower r l)) ∙ S.mul-zero K (c r))))
