-- The answers are those of the notions, whatever the sizes are, over any rule for the coefficients that gives bytes.
--
--   found_byte        the weights that are found are bytes
--   recovered, unrecovered     a file is recoverable exactly where weights are found for it
--   written_weights     what is written are its 255 weights
--   answers_there     there is an answer
-- Assumes nothing.
use mathlib.Core.Path.{◌≡◌, refl, sym, ap, ap₂, ◌∙◌, subst}
use mathlib.Core.Logic.{◌⊎◌, inl, inr}
use mathlib.Core.Bool.{Bool, true, false, not, cond, ◌&&◌, false≢true}
use mathlib.Core.List.{List, []}
use Prim.Native.Nat.{ℕ, zero, suc, ◌<◌, ◌≤◌, ◌+◌, ◌-◌}
use native.Mathlib.Decide.{dec_le, dec_lt}
use native.Mathlib.Omega.{arith}
use lib.Dec.{leb}
use lib.ListN.{length, get_or, replicate, take, get_or-eq_default}
use lib.Seq.{get_or-take, length-take-le}
use borrow.Author.Tests.{leb-false}
use Rattle.computed_tests.specs.Lists.{list_below}
use Rattle.computed_tests.proofs.Lists.{list_below_at}
use Rattle.computed_tests.proofs.Tests.{one_to_in}
use Rattle.gf256.specs.Field.{product}
use Rattle.gf256.proofs.Polynomials.{sum_below-same, sum_below-none}
use Rattle.gf256.proofs.Products.{product_zero_r}
use Rattle.codes.specs.declared.Code.{Code}
use Rattle.parity.specs.Parity.{is_file}
use Rattle.elimination.specs.Matrix.{IsSolution, IsKernelVector}
use Rattle.elimination.specs.ByteField.{Byte, byte_field}
use Rattle.elimination.proofs.ByteField.{is_zero}
use Rattle.elimination.proofs.Solutions.{decide}
use Rattle.number_sets.specs.Sets.{member}
use Rattle.volume_weights.specs.Weights.{table_of, weight_at, solved, unsolved, file_weight}
use Rattle.volume_weights.proofs.Steps.{weight_below}
use Rattle.recovery.specs.Recoverable.{State, column, place, weighted, Recoverable, IsWeights}
use Rattle.recovery.specs.Answers.{state_of, InRange, Matches, Found, empty, not_empty, Written, Answers, present, undetermined, no_room, recoverable}
use Rattle.recovery.specs.declared.Answer.{Answer}
use Rattle.recovery.proofs.Rows as R
use Rattle.recovery.proofs.Recovery.{solution_recoverable, kernel_unrecoverable, empty_recoverable}
use Rattle.recovery.proofs.Weights.{Weighs, solution_weighs, zero_weighs, is_weights}
use Rattle.recovery.proofs.CoefficientRows.{table_matrix}
use Rattle.recovery.proofs.Written.{weights_written, written_byte}

-- ---- the weights that are found

-- a solution's weights are bytes
weight_at_byte : (rows : ℕ) (w : ℕ → Byte) (v : ℕ) → weight_at rows w v < 256
unfolding weight_at
weight_at_byte rows w zero = omega arith
weight_at_byte rows w (suc v) = go (leb (suc v) rows)
  where
    go : (b : Bool) → cond b (w v).0 0 < 256
    go true = (w v).1
    go false = omega arith

found_byte : (rule : ℕ → ℕ → ℕ) (n : ℕ) (files volumes nonempty : List ℕ) (i : ℕ) (ws : List ℕ) → Found rule n files volumes nonempty i true ws
    → (v : ℕ) → v < 256 → get_or ws v 0 < 256
found_byte rule n files volumes nonempty i ws (empty e y z) v l = rw (z v) (omega arith)
found_byte rule n files volumes nonempty i ws (not_empty e (solved w W h)) v l = rw (h v l) (weight_at_byte (255 - n) w v)

-- ---- what they say

module _ (rule : ℕ → ℕ → ℕ) (small : (f v : ℕ) → f < 256 → rule f v < 256) (n : ℕ) (few : n ≤ 254) (files volumes nonempty : List ℕ)
    (in_range : InRange n nonempty) (aside : ℕ → Bool) (d : Code) (size : ℕ → ℕ) (matches : Matches n nonempty size)
    (i : ℕ) (below : i < n) (missing : member files (suc i) ≡ false) where
  abbrev state : State
  state = state_of n files volumes aside d size

  abbrev table : ℕ → ℕ → Byte
  table = table_of rule nonempty files volumes

  abbrev matrix : ℕ → ℕ → Byte
  matrix = R.matrix rule small state few

  same : table ≡ matrix
  same = table_matrix rule small n few files volumes nonempty in_range aside d size matches

  is_file_here : is_file n (suc i) ≡ true
  is_file_here = one_to_in n (suc i) (omega arith) below

  is_column : member nonempty (suc i) ≡ true → column state (suc i) ≡ true
  is_column e = ap₂ (λ (a b : Bool). not a && b) missing (sym (matches (suc i) is_file_here) ∙ e)

  empty_file : member nonempty (suc i) ≡ false → size (suc i) ≡ 0
  empty_file e = let b : size (suc i) < 1 = leb-false 1 (size (suc i)) (sym (matches (suc i) is_file_here) ∙ e) in
      omega arith

  solution_in : (w : ℕ → Byte) → IsSolution byte_field table 256 (255 - n) i w → IsSolution byte_field matrix 256 (255 - n) i w
  solution_in w W = subst (λ (A : ℕ → ℕ → Byte). IsSolution byte_field A 256 (255 - n) i w) same W

  pub recovered : (ws : List ℕ) → Found rule n files volumes nonempty i true ws → Recoverable rule state (suc i)
  recovered ws (empty e y z) = empty_recoverable rule state (suc i) is_file_here (empty_file e)
  recovered ws (not_empty e (solved w W h)) = solution_recoverable rule small state few i below w (solution_in w W)

  pub unrecovered : (ws : List ℕ) → Found rule n files volumes nonempty i false ws → ¬ Recoverable rule state (suc i)
  unrecovered ws (empty e y z) = absurd (false≢true y)
  unrecovered ws (not_empty e (unsolved x X z)) = λ r.
      kernel_unrecoverable rule small state few i below (is_column e) x
      (subst (λ (A : ℕ → ℕ → Byte). IsKernelVector byte_field A 256 (255 - n) i x) same X) r

  -- ---- the weights in the room

  module _ (room ws room' : List ℕ) (long : 255 ≤ length room) (W : Written rule n files ws room room' 255)
      (F : Found rule n files volumes nonempty i true ws) where
    written : List ℕ
    written = take 255 room'

    written_long : length written ≡ 255
    unfolding written
    written_long = let e = W.same_length in length-take-le 255 room' (omega arith)

    written_at : (p : ℕ) → p < 255 → get_or written p 0 ≡ get_or room' p 0
    unfolding written
    written_at p l = get_or-take 255 room' p 0 l

    written_bytes : (p : ℕ) → get_or written p 0 < 256
    written_bytes p =
        elim (dec_lt p 255) [
          | yes l ↦
              rw (written_at p l)
              (written_byte rule n files ws room small few (found_byte rule n files volumes nonempty i ws F) room' W p l)
          | no q ↦ subst (λ (x : ℕ). x < 256) (sym (get_or-eq_default written 0 (omega (arith, written_long)))) (omega arith)
        ]

    written_volume : (v : ℕ) → v < 255 - n → get_or written (n + v) 0 ≡ get_or ws (suc v) 0
    written_volume v l =
        written_at (n + v) (omega arith) ∙ W.of_volumes (n + v) (omega arith) (omega arith)
        ∙ ap (λ (k : ℕ). get_or ws k 0) (omega arith)

    -- the weight of a file by its bit
    file_term : (b : Bool) (g v : ℕ) → member files (suc g) ≡ b
        → product (get_or ws (suc v) 0) (cond (member files (suc g)) (rule (suc g) (suc v)) 0)
        ≡ cond b (product (get_or ws (suc v) 0) (rule (suc g) (suc v))) 0
    file_term true g v e = ap (λ (b : Bool). product (get_or ws (suc v) 0) (cond b (rule (suc g) (suc v)) 0)) e
    file_term false g v e =
        ap (λ (b : Bool). product (get_or ws (suc v) 0) (cond b (rule (suc g) (suc v)) 0)) e
        ∙ product_zero_r (get_or ws (suc v) 0)

    present_weight : (g : ℕ) → g < n → member files (suc g) ≡ true → get_or written g 0 ≡ weighted rule state written (suc g)
    unfolding file_weight weighted
    present_weight g l e =
        written_at g (omega arith) ∙ W.of_files g (omega arith) l
        ∙ sum_below-same (255 - n)
        (λ v. product (get_or ws (suc v) 0) (cond (member files (suc g)) (rule (suc g) (suc v)) 0))
        (λ v. product (place written (n + suc v)) (rule (suc g) (suc v)))
        (λ v h.
        file_term true g v e
        ∙ ap (λ (x : ℕ). product x (rule (suc g) (suc v)))
        (sym (written_volume v h) ∙ ap (λ (k : ℕ). get_or written k 0) (omega arith)))

    missing_weight : (g : ℕ) → g < n → member files (suc g) ≡ false → get_or written g 0 ≡ 0
    unfolding file_weight
    missing_weight g l e =
        written_at g (omega arith) ∙ W.of_files g (omega arith) l
        ∙ sum_below-same (255 - n)
        (λ v. product (get_or ws (suc v) 0) (cond (member files (suc g)) (rule (suc g) (suc v)) 0)) (λ v. 0)
        (λ v h. file_term false g v e)
        ∙ sum_below-none (255 - n)

    weights_of : (w : ℕ → Byte) → Weighs rule small state few (suc i) w → ((v : ℕ) → v < 255 - n → get_or ws (suc v) 0 ≡ (w v).0)
        → IsWeights rule state (suc i) written
    weights_of w weighs h =
        is_weights rule small state few (suc i) w weighs written written_long written_bytes
        (λ v l. written_volume v l ∙ h v l) present_weight missing_weight

    pub written_weights : IsWeights rule state (suc i) (take 255 room')
    unfolding written
    written_weights = go F
      where
        go : Found rule n files volumes nonempty i true ws → IsWeights rule state (suc i) (take 255 room')
        go (empty e y z) =
            weights_of (λ v. byte_field.𝟘)
            (zero_weighs rule small state few (suc i) (ap₂ (λ (a b : Bool). not a && b) missing (sym (matches (suc i) is_file_here) ∙ e)))
            (λ v l. z (suc v))
        go (not_empty e (solved w X h)) =
            weights_of w (solution_weighs rule small state few i w (solution_in w X))
            (λ v l. h (suc v) (omega arith) ∙ weight_below (255 - n) w v l)

-- ---- there is an answer

module _ (rule : ℕ → ℕ → ℕ) (n : ℕ) (files volumes nonempty : List ℕ) (i : ℕ) (inside : i < 256) (room : List ℕ) where
  abbrev Answered : Type 0
  Answered = (r : Answer) × (room' : List ℕ) × Answers rule n files volumes nonempty i room r room'

  -- with weights the file is recoverable, if the room is enough
  by_weights : member files (suc i) ≡ false → (ws : List ℕ) → Found rule n files volumes nonempty i true ws → Answered
  by_weights m ws F =
      elim (dec_le 255 (length room)) [
        | yes l ↦ let (r, W) = weights_written rule n files ws room 255 l in (_, r, recoverable m ws F l r W)
        | no q ↦ (_, room, no_room m ws F (omega arith))
      ]

  -- an empty file comes back by no weight; of any other the elimination decides
  missing_answered : member files (suc i) ≡ false → Answered
  missing_answered m = go (member nonempty (suc i)) refl
    where
      decided : member nonempty (suc i) ≡ true
          → ((w : ℕ → Byte) × IsSolution byte_field (table_of rule nonempty files volumes) 256 (255 - n) i w)
          ⊎ ((x : ℕ → Byte) × IsKernelVector byte_field (table_of rule nonempty files volumes) 256 (255 - n) i x) → Answered
      decided e (inl (w, W)) = let weight = weight_at (255 - n) w in
          by_weights m (list_below 256 weight) (not_empty e (solved w W (list_below_at 256 weight)))
      decided e (inr (x, X)) = (_, room, undetermined m (replicate 256 0) (not_empty e (unsolved x X refl)))

      go : (b : Bool) → member nonempty (suc i) ≡ b → Answered
      go false e = by_weights m [] (empty e refl (λ v. refl))
      go true e = decided e (decide byte_field is_zero (table_of rule nonempty files volumes) 256 (255 - n) i inside)

  pub answers_there : (r : Answer) × (room' : List ℕ) × Answers rule n files volumes nonempty i room r room'
  answers_there = go (member files (suc i)) refl
    where
      go : (b : Bool) → member files (suc i) ≡ b → Answered
      go true m = (_, room, present m)
      go false m = missing_answered m
