-- The parts of a solution, put together.
--
--   volumes_more                the rows of one volume more
--   volumes_reduced             the elimination after the rows of the volumes present
--   solved_by, unsolved_by      what it answers
--   Added .. v start s, added_start, added_taken, added_left     the loop of `eliminate`
--   column_solved, column_unsolved     what the elimination of the columns side by side answers
--   weight_below                the weight of a volume
--   Weighted rule present ws m sums   the sums are the weights of the files by the first m volumes
--   weighted_none, weighted_more      by no volume, and by one volume more
-- Assumes nothing.
use mathlib.Core.Path.{◌≡◌, refl, sym, ap, ap₂, ◌∙◌, subst}
use mathlib.Core.Bool.{Bool, true, false, cond}
use mathlib.Core.List.{List}
use Prim.Native.Nat.{ℕ, zero, suc, ◌<◌, ◌≤◌, ◌+◌}
use native.Mathlib.Numerals.{add-one}
use native.Mathlib.Omega.{arith}
use native.Mathlib.Decide.{dec_lt}
use lib.Bits.{bit_xor}
use lib.ListN.{length, get_or, replicate, length-replicate, get_or-replicate}
use borrow.Author.Tests.{le-leb, lt-leb}
use Rattle.computed_tests.specs.Lists.{list_below}
use Rattle.computed_tests.proofs.Lists.{list_below_at}
use Rattle.gf256.specs.Polynomial.{sum_below}
use Rattle.gf256.specs.Field.{product}
use Rattle.mul_add.specs.MulAdd.{mul_add}
use Rattle.mul_add.proofs.MulAdds.{length-mul_add, mul_add_at}
use Rattle.elimination.specs.Reduction.{with_diagonal, row_added, in_blocks, row_added_within, Apart, is_solvable, weight_of}
use Rattle.elimination.proofs.Reductions.{entries, owner_of, ReducedBytes, ReducedPair, start_reduced, skip_reduced, add_reduced}
use Rattle.elimination.proofs.Reductions.{weight_value, weight_late, weight_none, solvable_solution, unsolvable_kernel}
use Rattle.elimination.specs.Claim.{KeepsTo}
use Rattle.elimination.proofs.Within.{start-apart, added_within, added_apart}
use Rattle.elimination.proofs.ByColumns.{row_weight}
use Rattle.elimination.specs.ByteField.{Byte, byte_field}
use Rattle.number_sets.specs.Sets.{member}
use Rattle.volume_weights.specs.Weights.{table_of, row_of, volume_added, volumes_added, weight_at, Solved, solved, unsolved, file_weight}
use Rattle.volume_weights.specs.Weights.{column_in, columns_below, IsColumns, renumbered, numbers_to}
use Rattle.volume_weights.proofs.CoefficientRows.{present-entry, table_row, table_absent}
use Rattle.volume_weights.proofs.Renumbered.{row_past, columns_byte, place_inside, renumbered_small, renumbered_solved}

-- one volume more
pub volumes_more : (rule : ℕ → ℕ → ℕ) (nonempty present volumes : List ℕ) (v : ℕ) (start s s' : List ℕ × List ℕ)
    → s ≡ volumes_added rule nonempty present volumes v start → s' ≡ volume_added rule nonempty present volumes (v + 1) s
    → s' ≡ volumes_added rule nonempty present volumes (v + 1) start
unfolding volumes_added
volumes_more rule nonempty present volumes v start s s' e h = simp (h, add-one, e)

module _ (rule : ℕ → ℕ → ℕ) (small : (f v : ℕ) → f < 256 → rule f v < 256) (nonempty present volumes : List ℕ) where
  abbrev table : ℕ → ℕ → Byte
  table = table_of rule nonempty present volumes

  -- ---- the rows of the volumes

  volume_reduced : (v : ℕ) (s : List ℕ × List ℕ) → ReducedPair table s v
      → ReducedPair table (volume_added rule nonempty present volumes (suc v) s) (suc v)
  unfolding volume_added
  volume_reduced v s R = go (member volumes (suc v)) refl
    where
      go : (b : Bool) → member volumes (suc v) ≡ b
          → ReducedPair table (cond b (row_added (row_of rule nonempty present (suc v)) (suc v) s.0 s.1) s) (suc v)
      go true e =
          add_reduced table s.0 s.1 v R (row_of rule nonempty present (suc v)) (table_row rule small nonempty present volumes v e)
      go false e = skip_reduced table s.0 s.1 v R (λ i l. table_absent rule small nonempty present volumes v e i)

  from_start : (k : ℕ) (s : List ℕ × List ℕ) → ReducedPair table s 0 → ReducedPair table (volumes_added rule nonempty present volumes k s) k
  unfolding volumes_added
  from_start zero s R = R
  from_start (suc k) s R = volume_reduced k (volumes_added rule nonempty present volumes k s) (from_start k s R)

  volumes_reduced : (rows : ℕ) (identity m owners : List ℕ) → identity ≡ with_diagonal 256 (replicate 65536 0)
      → (m, owners) ≡ volumes_added rule nonempty present volumes rows (identity, replicate 256 0) → ReducedBytes table m owners rows
  volumes_reduced rows identity m owners d e =
      subst (λ (s : List ℕ × List ℕ). ReducedPair table s rows) (sym e)
      (from_start rows (identity, replicate 256 0)
      (subst (λ (z : List ℕ). ReducedBytes table z (replicate 256 0) 0) (sym d) (start_reduced table)))

  -- ---- what the elimination answers

  module _ (rows i : ℕ) (inside : i < 256) (m owners : List ℕ) (X : ReducedBytes table m owners rows) where
    abbrev weights : ℕ → Byte
    weights s = row_weight byte_field 256 (owner_of owners) (entries m i) s

    weight_at_lem : is_solvable m owners i ≡ true → (v : ℕ) → weight_of m owners i v ≡ weight_at rows weights v
    unfolding weight_at
    weight_at_lem h zero = weight_none table m owners rows X i h
    weight_at_lem h (suc v) = elim (dec_lt v rows) [
      | yes l ↦
          weight_value table m owners rows X i v inside
          ∙ sym (ap (λ (b : Bool). cond b (weights v).0 0) (le-leb (suc v) rows l))
      | no q ↦
          weight_late table m owners rows X i v (omega arith)
          ∙ sym (ap (λ (b : Bool). cond b (weights v).0 0) (lt-leb (suc v) rows (omega arith)))
    ]

    pub solved_by : (found : Bool) (ws : List ℕ) → found ≡ is_solvable m owners i → found ≡ true → ws ≡ list_below 256 (weight_of m owners i)
        → Solved rule nonempty present volumes rows i ws found
    solved_by found ws e y w = let h = sym e ∙ y in
        subst (Solved rule nonempty present volumes rows i ws) (sym y)
        (solved weights (solvable_solution table m owners rows X i inside h)
        (λ v l. ap (λ (l : List ℕ). get_or l v 0) w ∙ list_below_at 256 (weight_of m owners i) v l ∙ weight_at_lem h v))

    pub unsolved_by : (found : Bool) → found ≡ is_solvable m owners i → found ≡ false
        → Solved rule nonempty present volumes rows i (replicate 256 0) found
    unsolved_by found e y = let kernel = unsolvable_kernel table m owners rows X i inside (sym e ∙ y) in
        subst (Solved rule nonempty present volumes rows i (replicate 256 0)) (sym y) (unsolved kernel.0 kernel.1 refl)

-- ---- the columns side by side

-- of 256 columns or more nothing is left out
identity_apart : (w : ℕ) → Apart w (with_diagonal 256 (replicate 65536 0))
identity_apart w = elim (dec_lt 256 w) [
  | yes l ↦ record { right = λ i j a b h. absurd (omega arith); below = λ i j a h b. absurd (omega arith) }
  | no q ↦ start-apart w (omega (arith, q))
]

module _ (rule : ℕ → ℕ → ℕ) (files volumes : List ℕ) (width : ℕ) where
  abbrev packed_row : ℕ → List ℕ
  packed_row v = row_of (renumbered rule files) (numbers_to width) (replicate 4 0) v

  abbrev packed_added : ℕ → List ℕ × List ℕ → List ℕ × List ℕ
  packed_added v s = volume_added (renumbered rule files) (numbers_to width) (replicate 4 0) volumes v s

  -- the elimination s after the rows of the first v volumes, from `start` on
  pub record Added (v : ℕ) (start s : List ℕ × List ℕ) : Type 0 where
    pub rows : s ≡ volumes_added (renumbered rule files) (numbers_to width) (replicate 4 0) volumes v start
    pub apart : Apart (in_blocks width) s.0

  -- a volume that is absent
  pub added_left : (v : ℕ) (start : List ℕ × List ℕ) (m owners : List ℕ) → Added v start (m, owners) → member volumes (v + 1) ≡ false
      → Added (v + 1) start (m, owners)
  unfolding volume_added
  added_left v start m owners H t = record {
    rows = volumes_more (renumbered rule files) (numbers_to width) (replicate 4 0) volumes v start (m, owners) (m, owners) H.rows (simp t);
    apart = H.apart;
  }

  -- no volume is added to the identity
  pub added_start : (m owners m' owners' : List ℕ) → m ≡ replicate 65536 0 → owners ≡ replicate 256 0 → m' ≡ with_diagonal 256 m → owners' ≡ owners
      → Added 0 (with_diagonal 256 (replicate 65536 0), replicate 256 0) (m', owners')
  unfolding volumes_added
  added_start m owners m' owners' zeros none d o = let identity = d ∙ ap (with_diagonal 256) zeros in
      record {
        rows = ap₂ (λ (m owners : List ℕ). (m, owners)) identity (o ∙ none);
        apart = subst (Apart (in_blocks width)) (sym identity) (identity_apart (in_blocks width));
      }

module _ (rule : ℕ → ℕ → ℕ) (files volumes : List ℕ) (width : ℕ) (small : width < 256) where
  keeps : (v : ℕ) → KeepsTo (in_blocks width) (packed_row rule files volumes width v)
  unfolding in_blocks
  keeps v i l b = row_past rule files width v i small (omega arith) b

  blocks : in_blocks width ≤ 256
  unfolding in_blocks
  blocks = omega arith

  -- a volume whose row was added within the width
  pub added_taken : (v : ℕ) (start : List ℕ × List ℕ) (row m owners m' owners' : List ℕ) → Added rule files volumes width v start (m, owners)
      → row ≡ packed_row rule files volumes width (v + 1) → (m', owners') ≡ row_added_within (in_blocks width) row (v + 1) m owners
      → member volumes (v + 1) ≡ true → Added rule files volumes width (v + 1) start (m', owners')
  unfolding volume_added
  added_taken v start row m owners m' owners' H r e t = record {
    rows = volumes_more (renumbered rule files) (numbers_to width) (replicate 4 0) volumes v start (m, owners) (m', owners') H.rows (simp (here, t));
    apart =
        subst (λ (s : List ℕ × List ℕ). Apart (in_blocks width) s.0) (sym here)
        (added_apart (in_blocks width) blocks (packed_row rule files volumes width (v + 1)) m H.apart (keeps (v + 1)) owners (v + 1));
  }
    where
      here : (m', owners') ≡ row_added (packed_row rule files volumes width (v + 1)) (v + 1) m owners
      here = e ∙ ap (λ (u : List ℕ). row_added_within (in_blocks width) u (v + 1) m owners) r
          ∙ added_within (in_blocks width) blocks (packed_row rule files volumes width (v + 1)) m H.apart (keeps (v + 1)) owners (v + 1)

-- what the elimination of the columns side by side answers for a column that stands there
module _ (rule : ℕ → ℕ → ℕ) (small : (f v : ℕ) → f < 256 → rule f v < 256) (nonempty present volumes files : List ℕ) (width : ℕ)
    (C : IsColumns nonempty present files width) (column at : ℕ) (inside : column < 256) (t : column_in nonempty present (suc column) ≡ true)
    (z : columns_below nonempty present column ≡ at) (rows : ℕ) (identity m owners : List ℕ)
    (d : identity ≡ with_diagonal 256 (replicate 65536 0))
    (e : (m, owners) ≡ volumes_added (renumbered rule files) (numbers_to width) (replicate 4 0) volumes rows (identity, replicate 256 0)) where
  at_byte : at < 256
  at_byte = let b = columns_byte nonempty present files width C in
      let l = place_inside nonempty present files width C column t in
      omega arith

  packed_small : (f v : ℕ) → f < 256 → renumbered rule files f v < 256
  packed_small = renumbered_small rule files small C.bytes

  R : ReducedBytes (table_of (renumbered rule files) (numbers_to width) (replicate 4 0) volumes) m owners rows
  R = volumes_reduced (renumbered rule files) packed_small (numbers_to width) (replicate 4 0) volumes rows identity m owners d e

  back : (ws : List ℕ) (found : Bool) → Solved (renumbered rule files) (numbers_to width) (replicate 4 0) volumes rows at ws found
      → Solved rule nonempty present volumes rows column ws found
  back ws found S =
      renumbered_solved nonempty present files width C rule volumes rows column ws found inside t
      (subst (λ (p : ℕ). Solved (renumbered rule files) (numbers_to width) (replicate 4 0) volumes rows p ws found) (sym z) S)

  pub column_solved : (ws : List ℕ) → is_solvable m owners at ≡ true → ws ≡ list_below 256 (weight_of m owners at)
      → Solved rule nonempty present volumes rows column ws true
  column_solved ws y h =
      back ws true (solved_by (renumbered rule files) packed_small (numbers_to width) (replicate 4 0) volumes rows at at_byte m owners R true ws
      (sym y) refl h)

  pub column_unsolved : is_solvable m owners at ≡ false → Solved rule nonempty present volumes rows column (replicate 256 0) false
  column_unsolved y =
      back (replicate 256 0) false (unsolved_by (renumbered rule files) packed_small (numbers_to width) (replicate 4 0) volumes rows at at_byte
      m owners R false (sym y) refl)

pub weight_below : (rows : ℕ) (w : ℕ → Byte) (v : ℕ) → v < rows → weight_at rows w (suc v) ≡ (w v).0
unfolding weight_at
weight_below rows w v l = ap (λ (b : Bool). cond b (w v).0 0) (le-leb (suc v) rows l)

-- ---- the weights of the files

module _ (rule : ℕ → ℕ → ℕ) (present ws : List ℕ) where
  -- the sums have the terms of the first m volumes
  pub record Weighted (m : ℕ) (sums : List ℕ) : Type 0 where
    pub full : length sums ≡ 255
    pub each : (i : ℕ) → i < 255 → get_or sums i 0 ≡ file_weight rule present ws m i

  pub weighted_none : Weighted 0 (replicate 255 0)
  unfolding file_weight sum_below
  weighted_none = record { full = length-replicate {A = ℕ} 255 0; each = λ i l. get_or-replicate 255 i 0 0 l }

  -- a file's entry in the row of the files present
  present_at : (v i : ℕ) → i < 255
      → get_or (row_of rule present (replicate 4 0) v) i 0 ≡ cond (member present (suc i)) (rule (suc i) v) 0
  unfolding row_of
  present_at v i l = list_below_at 256 _ i (omega arith) ∙ sym (present-entry rule present v i l)

  pub weighted_more : (v : ℕ) (sums sums' : List ℕ) → Weighted v sums
      → sums' ≡ mul_add (get_or ws (v + 1) 0) (row_of rule present (replicate 4 0) (v + 1)) sums → Weighted (v + 1) sums'
  unfolding file_weight sum_below
  weighted_more v sums sums' w e = let k = add-one v in
      record {
        full = ap length e ∙ length-mul_add _ _ sums ∙ w.full;
        each = λ i l.
            ap (λ (s : List ℕ). get_or s i 0) e ∙ mul_add_at _ _ sums i (subst (λ (n : ℕ). i < n) (sym w.full) l)
            ∙ ap₂ (λ (a b : ℕ). bit_xor a (product (get_or ws (v + 1) 0) b)) (w.each i l) (present_at (v + 1) i l)
            ∙ ap (λ (n : ℕ). bit_xor (file_weight rule present ws v i) (product (get_or ws n 0) (cond (member present (suc i)) (rule (suc i) n) 0))) k
            ∙ ap (λ (n : ℕ). file_weight rule present ws n i) (sym k);
      }
