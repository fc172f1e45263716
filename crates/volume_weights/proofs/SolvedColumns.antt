-- All columns at once: the files of the columns that the elimination solves are those for which `solve` finds weights.
--
--   columns_solved              the set that the elimination of the columns side by side gives
-- Assumes nothing.
use mathlib.Core.Path.{◌≡◌, refl, sym, ap, ◌∙◌, subst}
use mathlib.Core.Logic.{◌⊎◌, inl, inr}
use mathlib.Core.Bool.{Bool, true, false, true≢false, false≢true}
use mathlib.Core.List.{List}
use Prim.Native.Nat.{ℕ, suc, ◌<◌}
use native.Mathlib.Nat.{suc_inj}
use native.Mathlib.Omega.{arith}
use lib.ListN.{get_or, replicate}
use Rattle.computed_tests.specs.Lists.{list_below}
use Rattle.computed_tests.proofs.Tests.{test_fails}
use Rattle.elimination.specs.Reduction.{with_diagonal, is_solvable, weight_of}
use Rattle.number_sets.specs.Sets.{member, gathered}
use Rattle.number_sets.proofs.Words.{member-none, words_none}
use Rattle.number_sets.proofs.Gathering.{gathered_words, gathered_from, gathered_in}
use Rattle.volume_weights.specs.Weights.{column_in, columns_below, IsColumns, renumbered, numbers_to, volumes_added, Solved, SolvedColumns}
use Rattle.volume_weights.proofs.SideBySide.{before_onto}
use Rattle.volume_weights.proofs.Renumbered.{place_inside, outside_solved}
use Rattle.volume_weights.proofs.Steps.{column_solved, column_unsolved}

module _ (rule : ℕ → ℕ → ℕ) (small : (f v : ℕ) → f < 256 → rule f v < 256) (nonempty present volumes files : List ℕ) (width : ℕ)
    (C : IsColumns nonempty present files width) (rows : ℕ) (identity m owners : List ℕ)
    (d : identity ≡ with_diagonal 256 (replicate 65536 0))
    (e : (m, owners) ≡ volumes_added (renumbered rule files) (numbers_to width) (replicate 4 0) volumes rows (identity, replicate 256 0)) where
  abbrev column : ℕ → Bool
  column i = column_in nonempty present (suc i)

  abbrev place : ℕ → ℕ
  place i = columns_below nonempty present i

  abbrev solvable : ℕ → Bool
  solvable p = is_solvable m owners p

  abbrev found : List ℕ
  found = gathered (replicate 4 0) (λ p. get_or files p 0) solvable width

  -- the file that a member is
  abbrev IsSolved : ℕ → ℕ → Type 0
  IsSolved k i = (column i ≡ true) × (solvable (place i) ≡ true) × (suc i ≡ k)

  found_file : (k : ℕ) → member found k ≡ true → (i : ℕ) × IsSolved k i
  found_file k h = from (gathered_from (replicate 4 0) (λ p. get_or files p 0) solvable words_none width k (λ p l. C.bytes p) h)
    where
      at_place : (p : ℕ) → solvable p ≡ true → get_or files p 0 ≡ k → (i : ℕ) × (i < 255) × (column i ≡ true) × (place i ≡ p) → (i : ℕ) × IsSolved k i
      at_place p t z (i, b, c, h) = (i, (c, ap solvable h ∙ t, sym (C.each i c) ∙ ap (λ (q : ℕ). get_or files q 0) h ∙ z))

      from : (member (replicate 4 0) k ≡ true) ⊎ ((p : ℕ) × (p < width) × (solvable p ≡ true) × (get_or files p 0 ≡ k)) → (i : ℕ) × IsSolved k i
      from (inl m) = absurd (false≢true (sym (member-none k) ∙ m))
      from (inr (p, l, t, z)) = at_place p t z (before_onto column 255 p (subst (λ (n : ℕ). p < n) C.counted l))

  -- a number that is in the set only as a column that passes
  not_found : (k : ℕ) → ((i : ℕ) → column i ≡ true → solvable (place i) ≡ true → suc i ≡ k → ⊥) → member found k ≡ false
  not_found k never = test_fails (member found k) (λ h. let (i, (c, t, z)) = found_file k h in never i c t z)

  at_column : (i : ℕ) → i < 255 → column i ≡ true → (b : Bool) → solvable (place i) ≡ b
      → (ws : List ℕ) × Solved rule nonempty present volumes rows i ws (member found (suc i))
  at_column i l c true t = (
    list_below 256 (weight_of m owners (place i)),
    subst (Solved rule nonempty present volumes rows i (list_below 256 (weight_of m owners (place i))))
        (sym (gathered_in (replicate 4 0) (λ p. get_or files p 0) solvable words_none width (suc i) (λ p l. C.bytes p)
        (inr (place i, place_inside nonempty present files width C i c, t, C.each i c))))
        (column_solved rule small nonempty present volumes files width C i (place i) (omega arith) c refl rows identity m owners d e _ t refl),
  )
  at_column i l c false t = (
    replicate 256 0,
    subst (Solved rule nonempty present volumes rows i (replicate 256 0))
        (sym (not_found (suc i) (λ j cj tj z. true≢false (sym tj ∙ ap (λ (k : ℕ). solvable (place k)) (suc_inj z) ∙ t))))
        (column_unsolved rule small nonempty present volumes files width C i (place i) (omega arith) c refl rows identity m owners d e t),
  )

  at : (i : ℕ) → i < 255 → (b : Bool) → column i ≡ b → (ws : List ℕ) × Solved rule nonempty present volumes rows i ws (member found (suc i))
  at i l true c = at_column i l c (solvable (place i)) refl
  at i l false c = (
    replicate 256 0,
    subst (Solved rule nonempty present volumes rows i (replicate 256 0))
        (sym (not_found (suc i) (λ j cj tj z. true≢false (sym cj ∙ ap column (suc_inj z) ∙ c))))
        (outside_solved rule nonempty present volumes rows i (omega arith) c),
  )

  pub columns_solved : (r : List ℕ) → r ≡ found → SolvedColumns rule nonempty present volumes rows r
  columns_solved r z = subst (SolvedColumns rule nonempty present volumes rows) (sym z) record {
    words = gathered_words (replicate 4 0) (λ p. get_or files p 0) solvable words_none width;
    columns = λ f h. let (i, (c, t, z)) = found_file f h in (omega arith, ap (column_in nonempty present) (sym z) ∙ c);
    each = λ i l. at i l (column i) refl;
  }
