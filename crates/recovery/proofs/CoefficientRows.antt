-- The rows that are solved are those of the state that the sets stand for, over any rule for the coefficients that gives bytes.
--
--   table_matrix     the table of the sets is the matrix of their state
-- Assumes nothing.
use mathlib.Core.Path.{◌≡◌, refl, sym, ap, ◌∙◌, fun_ext}
use mathlib.Core.Bool.{Bool, true, false, not, cond, ◌&&◌, and-false}
use mathlib.Core.List.{List}
use Prim.Native.Nat.{ℕ, suc, ◌<◌, ◌≤◌}
use native.Mathlib.Omega.{arith}
use native.Mathlib.Decide.{dec_lt}
use lib.Dec.{leb}
use borrow.Author.Tests.{le-leb, lt-leb}
use Rattle.codes.specs.declared.Code.{Code}
use Rattle.parity.specs.Parity.{is_file}
use Rattle.elimination.specs.ByteField.{to_byte, byte_field}
use Rattle.elimination.proofs.ByteField.{to_byte_of_value}
use Rattle.number_sets.specs.Sets.{member}
use Rattle.volume_weights.specs.Weights.{column_in, table_of}
use Rattle.recovery.specs.Recoverable.{State}
use Rattle.recovery.specs.Answers.{state_of, InRange, Matches}
use Rattle.recovery.proofs.Rows as R
use Rattle.recovery.proofs.Rows.{mask}

-- a file that is not empty and not present is a column
column_bits : (n : ℕ) (files nonempty : List ℕ) → InRange n nonempty → (g : ℕ) → g < 256
    → (member nonempty g && not (member files g)) ≡ (is_file n g && (not (member files g) && member nonempty g))
column_bits n files nonempty in_range g l = go (member nonempty g) refl (member files g)
  where
    go : (a : Bool) → member nonempty g ≡ a → (b : Bool) → (a && not b) ≡ (is_file n g && (not b && a))
    go true e true = sym (and-false (is_file n g))
    go true e false = sym (ap (λ (c : Bool). c && true) (in_range g l e))
    go false e true = sym (and-false (is_file n g))
    go false e false = sym (and-false (is_file n g))

module _ (rule : ℕ → ℕ → ℕ) (small : (f v : ℕ) → f < 256 → rule f v < 256) (n : ℕ) (few : n ≤ 254) (files volumes nonempty : List ℕ)
    (in_range : InRange n nonempty) (aside : ℕ → Bool) (d : Code) (size : ℕ → ℕ) (matches : Matches n nonempty size) where
  abbrev state : State
  state = state_of n files volumes aside d size

  abbrev in_column : ℕ → Bool
  in_column = R.in_column rule small state few

  sized : (i : ℕ) → (is_file n (suc i) && (not (member files (suc i)) && member nonempty (suc i))) ≡ in_column i
  sized i = go (is_file n (suc i)) refl
    where
      go : (b : Bool) → is_file n (suc i) ≡ b
          → (b && (not (member files (suc i)) && member nonempty (suc i))) ≡ (b && (not (member files (suc i)) && leb 1 (size (suc i))))
      go true e = ap (λ (c : Bool). not (member files (suc i)) && c) (matches (suc i) e)
      go false e = refl

  column-same : (i : ℕ) → column_in nonempty files (suc i) ≡ in_column i
  column-same i =
      elim (dec_lt i 255) [
        | yes l ↦
            ap (λ (b : Bool). b && (member nonempty (suc i) && not (member files (suc i)))) (le-leb (suc i) 255 (omega arith))
            ∙ column_bits n files nonempty in_range (suc i) (omega arith) ∙ sized i
        | no q ↦
            ap (λ (b : Bool). b && (member nonempty (suc i) && not (member files (suc i)))) (lt-leb (suc i) 255 (omega arith))
            ∙ sym (R.in_column_past rule small state few i (omega (arith, few)))
      ]

  pub table_matrix : table_of rule nonempty files volumes ≡ R.matrix rule small state few
  unfolding table_of R.matrix R.coef mask
  table_matrix = fun_ext (λ v. fun_ext (λ i. at v i))
    where
      masked : (a b : Bool) (x : ℕ) → to_byte (cond a (cond b x 0) 0) ≡ mask a (mask b (to_byte x))
      masked true true x = refl
      masked true false x = to_byte_of_value byte_field.𝟘
      masked false b x = to_byte_of_value byte_field.𝟘

      at : (v i : ℕ) → table_of rule nonempty files volumes v i ≡ R.matrix rule small state few v i
      at v i =
          masked (member volumes (suc v)) (column_in nonempty files (suc i)) (rule (suc i) (suc v))
          ∙ ap (λ (b : Bool). mask (member volumes (suc v)) (mask b (to_byte (rule (suc i) (suc v))))) (column-same i)
