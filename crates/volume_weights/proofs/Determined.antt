-- What `solve` and `solved_columns` promise determines what they give.
--
--   solved_determined      one answer, and one list of weights, meet the promise of `solve`
--   columns_determined     one set meets that of `solved_columns`
--   columns_there          and there is one, over any rule
-- Assumes nothing.
use mathlib.Core.Path.{◌≡◌, refl, sym, ap, ◌∙◌, subst}
use mathlib.Core.Logic.{◌⊎◌, inl, inr}
use mathlib.Core.Bool.{Bool, true, false, cond, false≢true}
use mathlib.Core.List.{List, []}
use Prim.Native.Nat.{ℕ, zero, suc, ◌<◌}
use native.Mathlib.Nat.{not-suc-le-zero, suc_inj}
use native.Mathlib.Decide.{dec_lt}
use native.Mathlib.Omega.{arith}
use lib.Dec.{leb}
use lib.ListN.{length, replicate}
use lib.Seq.{ext_get_or}
use borrow.Author.Tests.{lt-leb}
use Rattle.computed_tests.specs.Lists.{list_below}
use Rattle.computed_tests.proofs.Lists.{list_below_at}
use Rattle.elimination.specs.Matrix.{IsSolution, IsKernelVector}
use Rattle.elimination.specs.ByteField.{Byte, byte_field}
use Rattle.elimination.proofs.ByteField.{is_zero}
use Rattle.elimination.proofs.Solutions.{Elimination, eliminate, solution_unique, solution_no_kernel, decide}
use Rattle.number_sets.specs.Sets.{member, gathered}
use Rattle.number_sets.proofs.Words.{member-none, words_none, words_same}
use Rattle.number_sets.proofs.Gathering.{gathered_words, gathered_from, gathered_in}
use Rattle.volume_weights.specs.Weights.{column_in, table_of, weight_at, Solved, solved, unsolved, SolvedColumns}
use Rattle.volume_weights.proofs.Renumbered.{outside_solved}

module _ (rule : ℕ → ℕ → ℕ) (nonempty present volumes : List ℕ) (rows i : ℕ) (inside : i < 256) where
  abbrev table : ℕ → ℕ → Byte
  table = table_of rule nonempty present volumes

  weight_same : (w w' : ℕ → Byte) → IsSolution byte_field table 256 rows i w → IsSolution byte_field table 256 rows i w'
      → (v : ℕ) → weight_at rows w v ≡ weight_at rows w' v
  unfolding weight_at
  weight_same w w' W W' zero = refl
  weight_same w w' W W' (suc v) = elim (dec_lt v rows) [
    | yes l ↦ ap (λ (x : Byte). cond (leb (suc v) rows) x.0 0) (one v l)
    | no q ↦
        let e = lt-leb (suc v) rows (omega arith) in
        ap (λ (b : Bool). cond b (w v).0 0) e ∙ sym (ap (λ (b : Bool). cond b (w' v).0 0) e)
  ]
    where
      one : (v : ℕ) → v < rows → w v ≡ w' v
      one v l = go (eliminate byte_field is_zero table 256 rows)
        where
          go : Elimination byte_field is_zero table 256 rows → w v ≡ w' v
          go (D, owner, R) = solution_unique byte_field table 256 D owner rows R i w w' W W' v l

  found_determined : (a b : Bool) (ws ws' : List ℕ)
      → Solved rule nonempty present volumes rows i ws a → Solved rule nonempty present volumes rows i ws' b → a ≡ b
  found_determined a b ws ws' (solved w W h) (solved w' W' h') = refl
  found_determined a b ws ws' (solved w W h) (unsolved x X z) = absurd (solution_no_kernel byte_field table 256 rows i w x inside W X)
  found_determined a b ws ws' (unsolved x X z) (solved w W h) = absurd (solution_no_kernel byte_field table 256 rows i w x inside W X)
  found_determined a b ws ws' (unsolved x X z) (unsolved x' X' z') = refl

  pub solved_determined : (a b : Bool) (ws ws' : List ℕ) → length ws ≡ 256 → length ws' ≡ 256
      → Solved rule nonempty present volumes rows i ws a → Solved rule nonempty present volumes rows i ws' b → (a ≡ b) × (ws ≡ ws')
  solved_determined a b ws ws' e e' (solved w W h) (solved w' W' h') = (
    refl,
    ext_get_or 0 ws ws' (e ∙ sym e')
        (λ v l. let m = subst (λ (n : ℕ). v < n) e l in h v m ∙ weight_same w w' W W' v ∙ sym (h' v m)),
  )
  solved_determined a b ws ws' e e' (solved w W h) (unsolved x X z) = absurd (solution_no_kernel byte_field table 256 rows i w x inside W X)
  solved_determined a b ws ws' e e' (unsolved x X z) (solved w W h) = absurd (solution_no_kernel byte_field table 256 rows i w x inside W X)
  solved_determined a b ws ws' e e' (unsolved x X z) (unsolved x' X' z') = (refl, z ∙ sym z')

-- ---- all columns at once

module _ (rule : ℕ → ℕ → ℕ) (nonempty present volumes : List ℕ) (rows : ℕ) where
  -- file 0 is no column
  not_zero : (r : List ℕ) → SolvedColumns rule nonempty present volumes rows r → (b : Bool) → member r 0 ≡ b → member r 0 ≡ false
  not_zero r S true h = absurd (not-suc-le-zero (S.columns 0 h).0)
  not_zero r S false h = h

  pub columns_determined : (r r' : List ℕ) → SolvedColumns rule nonempty present volumes rows r → SolvedColumns rule nonempty present volumes rows r' → r ≡ r'
  columns_determined r r' S S' = words_same r r' S.words S'.words at
    where
      at : (k : ℕ) → k < 256 → member r k ≡ member r' k
      at zero l = not_zero r S (member r 0) refl ∙ sym (not_zero r' S' (member r' 0) refl)
      at (suc i) l =
          found_determined rule nonempty present volumes rows i (omega arith) (member r (suc i)) (member r' (suc i)) _ _
          (S.each i (omega arith)).1 (S'.each i (omega arith)).1

  -- whether a column is solved, by an elimination of its own
  record Tested (i : ℕ) : Type 0 where
    passes : Bool
    column : passes ≡ true → column_in nonempty present (suc i) ≡ true
    weights : List ℕ
    is : i < 255 → Solved rule nonempty present volumes rows i weights passes

  tested : (i : ℕ) → Tested i
  tested i = at (dec_lt i 255)
    where
      by : (b : Bool) → column_in nonempty present (suc i) ≡ b
          → ((w : ℕ → Byte) × IsSolution byte_field (table_of rule nonempty present volumes) 256 rows i w)
          ⊎ ((x : ℕ → Byte) × IsKernelVector byte_field (table_of rule nonempty present volumes) 256 rows i x) → Tested i
      by true c (inl (w, W)) = record {
        passes = true;
        column = λ _. c;
        weights = list_below 256 (weight_at rows w);
        is = λ _. solved w W (λ v l. list_below_at 256 (weight_at rows w) v l);
      }
      by true c (inr (x, X)) =
          record { passes = false; column = λ e. absurd (false≢true e); weights = replicate 256 0; is = λ _. unsolved x X refl }
      by false c d = record {
        passes = false;
        column = λ e. absurd (false≢true e);
        weights = replicate 256 0;
        is = λ l. outside_solved rule nonempty present volumes rows i (omega arith) c;
      }

      at : Dec (i < 255) → Tested i
      at (yes l) =
          by (column_in nonempty present (suc i)) refl (decide byte_field is_zero (table_of rule nonempty present volumes) 256 rows i (omega arith))
      at (no q) = record { passes = false; column = λ e. absurd (false≢true e); weights = []; is = λ l. absurd (q l) }

  abbrev found : List ℕ
  found = gathered (replicate 4 0) suc (λ i. (tested i).passes) 255

  from : (k : ℕ) → member found k ≡ true → (i : ℕ) × ((tested i).passes ≡ true) × (suc i ≡ k)
  from k h = go (gathered_from (replicate 4 0) suc (λ i. (tested i).passes) words_none 255 k (λ i l. omega arith) h)
    where
      go : (member (replicate 4 0) k ≡ true) ⊎ ((i : ℕ) × (i < 255) × ((tested i).passes ≡ true) × (suc i ≡ k))
          → (i : ℕ) × ((tested i).passes ≡ true) × (suc i ≡ k)
      go (inl m) = absurd (false≢true (sym (member-none k) ∙ m))
      go (inr (i, l, t, z)) = (i, t, z)

  member_is : (i : ℕ) → i < 255 → (a b : Bool) → member found (suc i) ≡ a → (tested i).passes ≡ b → b ≡ a
  member_is i l true true h t = refl
  member_is i l false false h t = refl
  member_is i l true false h t = let (j, p, z) = from (suc i) h in sym t ∙ ap (λ (k : ℕ). (tested k).passes) (sym (suc_inj z)) ∙ p
  member_is i l false true h t =
      sym (gathered_in (replicate 4 0) suc (λ i. (tested i).passes) words_none 255 (suc i) (λ i l. omega arith) (inr (i, l, t, refl))) ∙ h

  pub columns_there : (r : List ℕ) × SolvedColumns rule nonempty present volumes rows r
  columns_there = (
    found,
    record {
      words = gathered_words (replicate 4 0) suc (λ i. (tested i).passes) words_none 255;
      columns = λ f h. let (i, t, z) = from f h in (omega arith, ap (column_in nonempty present) (sym z) ∙ (tested i).column t);
      each = λ i l. (
        (tested i).weights,
        subst (Solved rule nonempty present volumes rows i (tested i).weights) (member_is i l (member found (suc i)) (tested i).passes refl refl) ((tested i).is l),
      );
    },
  )
