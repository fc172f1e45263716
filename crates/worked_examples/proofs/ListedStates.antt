-- States given by lists of the missing files and of the volumes present: what is recoverable, by tests that antt computes.
--
--   of_volume, sums_at             the tests of one weight, and of one file
--   solves, recoverable_by       weights of the first volumes that make a file recoverable: the test, and that they do
--   cancels, undetermined_by     files whose coefficients cancel in each volume present: the test, and that none of them
--                                is recoverable
-- Assumes nothing.
use mathlib.Core.Path.{◌≡◌, sym, ap, ◌∙◌}
use mathlib.Core.Bool.{Bool, true, false, not, cond, ◌&&◌, ◌||◌, false≢true}
use mathlib.Core.List.{List, [], ◌∷◌}
use Prim.Native.Nat.{ℕ, zero, suc, ◌<◌, ◌≤◌, ◌-◌}
use native.Mathlib.Omega.{arith}
use native.Mathlib.Decide.{dec_lt}
use lib.Dec.{eqb, ltb, leb}
use lib.ListN.{length, get_or, get_or-eq_default}
use borrow.Author.Tests.{eqb-true, ltb-true, leb-true, not-true, not-false, le-leb}
use Rattle.computed_tests.specs.Numbers.{all_below}
use Rattle.computed_tests.proofs.Tests.{and_both, all_at, one_to_inside}
use Rattle.gf256.specs.Polynomial.{sum_below}
use Rattle.gf256.specs.Field.{product}
use Rattle.codes.specs.declared.Code.TheVariants.{Powers}
use Rattle.parity.specs.Coefficient.{coefficient}
use Rattle.parity.specs.Parity.{is_file}
use Rattle.parity.proofs.Coefficients.{coefficient_byte}
use Rattle.elimination.specs.ByteField.{Byte, byte_eq}
use Rattle.recovery.specs.Recoverable.{State, column, Recoverable}
use Rattle.recovery.proofs.Rows.{K}
use Rattle.worked_examples.specs.Examples.{listed, state_of, NoneEmpty}
use Rattle.worked_examples.proofs.Determined as Determined
use Rattle.worked_examples.proofs.Tests.{every, every_at, all_listed, each-listed}
use Rattle.worked_examples.proofs.Chosen.{cancels_at, chosen_undetermined}
open K use {𝟘}

-- ---- the tests

-- weight s + 1 is a byte, and 0 if volume s + 1 is not present
unfoldable pub of_volume : List ℕ → List ℕ → ℕ → Bool
of_volume volumes c s = ltb (get_or c s 0) 256 && (listed (suc s) volumes || eqb (get_or c s 0) 0)

-- the weights sum the coefficients of file g to 1 if it is file f + 1, else to 0
unfoldable pub sums_at : ℕ → List ℕ → ℕ → Bool
sums_at f c g = eqb (sum_below (length c) (λ s. product (get_or c s 0) (coefficient g (suc s)))) (cond (eqb (suc f) g) 1 0)

-- all that makes a file recoverable by the weights c
unfoldable pub solves : ℕ → List ℕ → List ℕ → ℕ → List ℕ → Bool
solves n missing volumes zero c = false
solves n missing volumes (suc f) c =
    every (leb n 254 ∷ all_listed (is_file n) missing ∷ listed (suc f) missing ∷ leb (length c) (255 - n)
    ∷ all_below (length c) (of_volume volumes c) ∷ all_listed (sums_at f c) missing ∷ [])

-- all that makes a file, one of l, not recoverable
unfoldable pub cancels : ℕ → List ℕ → List ℕ → ℕ → List ℕ → Bool
cancels n missing volumes zero l = false
cancels n missing volumes (suc f) l =
    every (leb n 254 ∷ all_listed (is_file n) missing ∷ listed (suc f) l ∷ all_listed (λ g. listed g missing) l
    ∷ all_listed (cancels_at n l) volumes ∷ [])

module _ (n : ℕ) (fits : n ≤ 254) (missing volumes : List ℕ) (files : all_listed (is_file n) missing ≡ true) (size : ℕ → ℕ)
    (full : NoneEmpty n size) where
  abbrev t : State
  t = state_of Powers n size missing volumes

  is_column : (g : ℕ) → listed g missing ≡ true → column t g ≡ true
  is_column g e = simp (e, le-leb 1 (size g) (full g (each-listed (is_file n) missing files g e)))

  is_missing : (g : ℕ) → column t g ≡ true → listed g missing ≡ true
  is_missing g e =
      not-false (listed g missing)
      (not-true (not (listed g missing)) (and_both (not (not (listed g missing))) (leb 1 (size g)) e).0)

  inside : (f : ℕ) → listed (suc f) missing ≡ true → f < n
  inside f e = (one_to_inside n (suc f) (each-listed (is_file n) missing files (suc f) e)).1

  -- ---- weights

  module _ (f : ℕ) (asked : listed (suc f) missing ≡ true) (c : List ℕ) (few : length c ≤ 255 - n)
      (of_volumes : all_below (length c) (of_volume volumes c) ≡ true) (sums : all_listed (sums_at f c) missing ≡ true) where
    at_volume : (s : ℕ) → s < length c → (get_or c s 0 < 256) × ((listed (suc s) volumes || eqb (get_or c s 0) 0) ≡ true)
    unfolding of_volume
    at_volume s l =
        let both = and_both (ltb (get_or c s 0) 256) (listed (suc s) volumes || eqb (get_or c s 0) 0)
        (all_at (length c) (of_volume volumes c) of_volumes s l) in
        (ltb-true (get_or c s 0) 256 both.0, both.1)

    byte : (s : ℕ) → get_or c s 0 < 256
    byte s = elim (dec_lt s (length c)) [
      | yes l ↦ (at_volume s l).0
      | no q ↦ rw (get_or-eq_default c 0 {n = s} (omega arith)) (omega arith)
    ]

    weight : ℕ → Byte
    weight s = (get_or c s 0, byte s)

    past : (s : ℕ) → length c ≤ s → weight s ≡ 𝟘
    unfolding weight
    past s l = byte_eq (weight s) 𝟘 (get_or-eq_default c 0 l)

    absent : (s : ℕ) → listed (suc s) volumes ≡ false → weight s ≡ 𝟘
    unfolding weight
    absent s e = elim (dec_lt s (length c)) [
      | yes l ↦ byte_eq (weight s) 𝟘 (eqb-true (get_or c s 0) 0 (sym (ap (λ (b : Bool). b || eqb (get_or c s 0) 0) e) ∙ (at_volume s l).1))
      | no q ↦ past s (omega arith)
    ]

    by_weights : Recoverable coefficient t (suc f)
    unfolding weight sums_at
    by_weights =
        Determined.weights_recoverable coefficient coefficient_byte t fits f (length c) (inside f asked) few (is_column (suc f) asked)
        weight absent past
        (λ g l e.
        eqb-true (sum_below (length c) (λ s. product (get_or c s 0) (coefficient g (suc s)))) (cond (eqb (suc f) g) 1 0)
        (each-listed (sums_at f c) missing sums g (is_missing g e)))

  -- ---- files that cancel

  by_files : (f : ℕ) (l : List ℕ) → listed (suc f) l ≡ true → all_listed (λ g. listed g missing) l ≡ true
      → all_listed (cancels_at n l) volumes ≡ true → ¬ Recoverable coefficient t (suc f)
  by_files f l asked among cancel =
      chosen_undetermined t fits l (λ g e. is_column g (each-listed (λ g. listed g missing) l among g e)) f
      (inside f (each-listed (λ g. listed g missing) l among (suc f) asked)) asked
      (λ s e. each-listed (cancels_at n l) volumes cancel (suc s) e)

-- ---- by one test each

module _ (n : ℕ) (missing volumes : List ℕ) where
  pub recoverable_by : (f : ℕ) (c : List ℕ) → solves n missing volumes f c ≡ true → (size : ℕ → ℕ) → NoneEmpty n size
      → Recoverable coefficient (state_of Powers n size missing volumes) f
  unfolding solves
  recoverable_by zero c h size full = absurd (false≢true h)
  recoverable_by (suc f) c h size full = let at = every_at _ h in
      by_weights n (leb-true n 254 (at 0)) missing volumes (at 1) size full f (at 2) c (leb-true (length c) (255 - n) (at 3)) (at 4)
      (at 5)

  pub undetermined_by : (f : ℕ) (l : List ℕ) → cancels n missing volumes f l ≡ true → (size : ℕ → ℕ) → NoneEmpty n size
      → ¬ Recoverable coefficient (state_of Powers n size missing volumes) f
  unfolding cancels
  undetermined_by zero l h size full = absurd (false≢true h)
  undetermined_by (suc f) l h size full = let at = every_at _ h in
      by_files n (leb-true n 254 (at 0)) missing volumes (at 1) size full f l (at 2) (at 3) (at 4)
