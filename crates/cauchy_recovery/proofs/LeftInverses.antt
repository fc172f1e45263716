-- Each part of the matrix of Cauchy coefficients with no more columns than rows has a left inverse: the weights of the files of a state in
-- which just these files are missing, all of one byte, and just these volumes are present.
--
--   left_inverses     the claim
-- Assumes nothing.
use mathlib.Core.Path.{◌≡◌, refl, sym, ap, ap₂, ◌∙◌}
use mathlib.Core.Bool.{Bool, true, false, not, cond, ◌&&◌, false≢true}
use Prim.Native.Nat.{ℕ, zero, suc, ◌<◌, ◌≤◌, ◌-◌}
use native.Mathlib.Omega.{arith}
use lib.Dec.{eqb}
use Rattle.computed_tests.proofs.Tests.{and_both, one_to_inside}
use Rattle.gf256.specs.Polynomial.{sum_below}
use Rattle.gf256.specs.Field.{product}
use Rattle.gf256.proofs.Polynomials.{sum_below-same}
use Rattle.gf256.proofs.Products.{product_zero_r}
use Rattle.codes.specs.declared.Code.TheVariants.{Cauchy}
use Rattle.parity.specs.Parity.{is_file}
use Rattle.number_sets.specs.Sets.{size_below}
use Rattle.elimination.specs.Matrix.{IsSolution}
use Rattle.elimination.specs.ByteField.{Byte}
use Rattle.elimination.proofs.ByteField.{sum_value, δ-value}
use Rattle.cauchy.specs.Cauchy.{cauchy}
use Rattle.cauchy.proofs.Coefficients.{cauchy_byte}
use Rattle.recovery.specs.Recoverable.{State, is_volume, column}
use Rattle.recovery.proofs.Rows as R
use Rattle.recovery.proofs.Rows.{K, eqb_suc}
use Rattle.inventory.proofs.Sizes.{size_same}
use Rattle.cauchy_recovery.specs.Claim.{volumes_present, nonempty_missing, LeftInverses}
use Rattle.cauchy_recovery.proofs.CauchyStates.{matrix, solution}
open K use {mul as ◌⊗◌}

infixl 70 ◌⊗◌
-- weights by the volume's number
by_volume : (ℕ → Byte) → ℕ → ℕ
by_volume w zero = 0
by_volume w (suc s) = (w s).0

by_volume_byte : (w : ℕ → Byte) (v : ℕ) → by_volume w v < 256
unfolding by_volume
by_volume_byte w zero = omega arith
by_volume_byte w (suc s) = (w s).1

module _ (n : ℕ) (fits : n ≤ 254) (files volumes : ℕ → Bool)
    (enough : size_below 256 (λ f. is_file n f && files f) ≤ size_below 256 (λ v. is_volume n v && volumes v)) where
  abbrev t : State
  t = record { n = n; size = λ f. 1; files = λ f. not (files f); volumes = volumes; quarantined = λ v. false; code = Cauchy }

  is_column : (g : ℕ) → column t g ≡ files g
  is_column g = go (files g)
    where
      go : (b : Bool) → (not (not b) && true) ≡ b
      go true = refl
      go false = refl

  as_many : nonempty_missing t ≤ volumes_present t
  as_many =
      let same = size_same 256 (λ g. is_file n g && column t g) (λ g. is_file n g && files g)
      (λ g l. ap (λ (b : Bool). is_file n g && b) (is_column g)) in
      omega arith

  abbrev in_column : ℕ → Bool
  in_column f = R.in_column cauchy cauchy_byte t fits f

  weights_if : (f : ℕ) (b : Bool) → in_column f ≡ b → ℕ → Byte
  weights_if f true e = (solution t fits as_many f e).0
  weights_if f false e = λ s. K.𝟘

  weights_solve : (f : ℕ) (b : Bool) (e : in_column f ≡ b) → in_column f ≡ true
      → IsSolution K (matrix t fits) 256 (255 - n) f (weights_if f b e)
  unfolding weights_if
  weights_solve f true e h = (solution t fits as_many f e).1
  weights_solve f false e h = absurd (false≢true (sym e ∙ h))

  left : ℕ → ℕ → ℕ
  left zero v = 0
  left (suc f) v = by_volume (weights_if f (in_column f) refl) v

  left_byte : (f v : ℕ) → left f v < 256
  unfolding left
  left_byte zero v = omega arith
  left_byte (suc f) v = by_volume_byte (weights_if f (in_column f) refl) v

  in_columns : (f : ℕ) → is_file n (suc f) ≡ true → files (suc f) ≡ true → in_column f ≡ true
  in_columns f p q = ap₂ (λ (a b : Bool). a && b) p (is_column (suc f) ∙ q)

  each : (w : ℕ → Byte) (s g : ℕ) → in_column g ≡ true → (b : Bool) → volumes (suc s) ≡ b
      → (w s ⊗ matrix t fits s g).0 ≡ cond b (product (w s).0 (cauchy (suc g) (suc s))) 0
  each w s g h true e = let l = one_to_inside n (suc g) (and_both (is_file n (suc g)) (column t (suc g)) h).0 in
      simp (R.matrix_present cauchy cauchy_byte t fits s g e h, R.coef_value cauchy cauchy_byte t fits g s (omega arith))
  each w s g h false e = ap (λ (x : Byte). (w s ⊗ x).0) (R.matrix_absent cauchy cauchy_byte t fits s g e) ∙ product_zero_r (w s).0

  left_sums : (f g : ℕ) → is_file n f ≡ true → files f ≡ true → is_file n g ≡ true → files g ≡ true
      → sum_below (255 - n) (λ s. cond (volumes (suc s)) (product (left f (suc s)) (cauchy g (suc s))) 0) ≡ cond (eqb f g) 1 0
  unfolding left by_volume
  left_sums zero g p q a b = absurd (false≢true p)
  left_sums (suc f) zero p q a b = absurd (false≢true a)
  left_sums (suc f) (suc g) p q a b = let l = one_to_inside n (suc g) a in
      sum_below-same (255 - n) (λ s. cond (volumes (suc s)) (product (left (suc f) (suc s)) (cauchy (suc g) (suc s))) 0)
      (λ s. (w s ⊗ matrix t fits s g).0) (λ s _. sym (each w s g (in_columns g a b) (volumes (suc s)) refl))
      ∙ sym (sum_value (255 - n) (λ s. w s ⊗ matrix t fits s g))
      ∙ ap (λ (x : Byte). x.0) ((weights_solve f (in_column f) refl (in_columns f p q)).sums g (omega arith))
      ∙ δ-value f g ∙ sym (ap (λ (b : Bool). cond b 1 0) (eqb_suc f g))
    where
      w : ℕ → Byte
      w = weights_if f (in_column f) refl

pub left_inverses : LeftInverses
left_inverses n fits files volumes enough =
    (left n fits files volumes enough, left_byte n fits files volumes enough, left_sums n fits files volumes enough)
