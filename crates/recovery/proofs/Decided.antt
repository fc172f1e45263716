-- Whether a file is missing and recoverable is decided in each state of at most 254 files.
--
--   recoverable_decided     by an elimination
-- Assumes nothing.
use mathlib.Core.Path.{◌≡◌, refl, sym, ap₂, ◌∙◌}
use mathlib.Core.Logic.{◌↔◌, ◌⊎◌, inl, inr}
use mathlib.Core.Bool.{Bool, true, false, not, ◌&&◌, true≢false, false≢true}
use Prim.Native.Nat.{ℕ, zero, suc, ◌<◌, ◌≤◌, ◌-◌}
use native.Mathlib.Nat.{not-suc-le-zero}
use native.Mathlib.Omega.{arith}
use lib.Dec.{leb}
use borrow.Author.Tests.{leb-false}
use Rattle.computed_tests.proofs.Tests.{one_to_inside}
use Rattle.parity.specs.Parity.{is_file}
use Rattle.elimination.specs.Matrix.{IsSolution, IsKernelVector}
use Rattle.elimination.specs.ByteField.{Byte}
use Rattle.elimination.proofs.ByteField.{is_zero}
use Rattle.elimination.proofs.Solutions.{decide}
use Rattle.recovery.specs.Recoverable.{State, RecoverableNow}
use Rattle.recovery.proofs.Rows.{K, matrix}
use Rattle.recovery.proofs.Recovery.{solution_recoverable, kernel_unrecoverable, empty_recoverable}

module _ (rule : ℕ → ℕ → ℕ) (small : (f v : ℕ) → f < 256 → rule f v < 256) (t : State) (few : t.n ≤ 254) where
  abbrev Decided : ℕ → Type 0
  Decided f = (b : Bool) × ((b ≡ true) ↔ RecoverableNow rule t f)

  never : (f : ℕ) → (RecoverableNow rule t f → ⊥) → Decided f
  never f h = (false, (λ e. absurd (false≢true e), λ now. absurd (h now)))

  module _ (i : ℕ) (in_range : is_file t.n (suc i) ≡ true) (missing : t.files (suc i) ≡ false) where
    below : i < t.n
    below = (one_to_inside t.n (suc i) in_range).1

    by_elimination : leb 1 (t.size (suc i)) ≡ true
        → ((w : ℕ → Byte) × IsSolution K (matrix rule small t few) 256 (255 - t.n) i w)
        ⊎ ((x : ℕ → Byte) × IsKernelVector K (matrix rule small t few) 256 (255 - t.n) i x) → Decided (suc i)
    by_elimination e (inl (w, W)) = (true, (λ _. (in_range, missing, solution_recoverable rule small t few i below w W), λ _. refl))
    by_elimination e (inr (x, X)) =
        never (suc i) (λ now. kernel_unrecoverable rule small t few i below (ap₂ (λ (a b : Bool). not a && b) missing e) x X now.2)

    missing_decided : (b : Bool) → leb 1 (t.size (suc i)) ≡ b → Decided (suc i)
    missing_decided false e = let l = leb-false 1 (t.size (suc i)) e in
        (true, (λ _. (in_range, missing, empty_recoverable rule t (suc i) in_range (omega arith)), λ _. refl))
    missing_decided true e = by_elimination e (decide K is_zero (matrix rule small t few) 256 (255 - t.n) i (let l = below in omega arith))

  file_decided : (i : ℕ) (a b : Bool) → is_file t.n (suc i) ≡ a → t.files (suc i) ≡ b → Decided (suc i)
  file_decided i false b e h = never (suc i) (λ now. false≢true (sym e ∙ now.0))
  file_decided i true true e h = never (suc i) (λ now. true≢false (sym h ∙ now.1))
  file_decided i true false e h = missing_decided i e h (leb 1 (t.size (suc i))) refl

  pub recoverable_decided : (f : ℕ) → (b : Bool) × ((b ≡ true) ↔ RecoverableNow rule t f)
  recoverable_decided zero = never zero (λ now. not-suc-le-zero (one_to_inside t.n zero now.0).0)
  recoverable_decided (suc i) = file_decided i (is_file t.n (suc i)) (t.files (suc i)) refl refl
