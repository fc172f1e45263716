-- A row added, from what the parts of `add_row` promise.
--
--   row_left, row-taken                no column is free for it; it takes the pivot's column
--   left_within, taken-within          the same within a width
--   swept_same                         the sweep by two rows that agree
--   row_dependent, row_independent     the two cases, for a row whose product and pivot were worked out
-- Assumes nothing.
use mathlib.Core.Path.{◌≡◌, refl, sym, ap, ap₂, ◌∙◌, subst}
use mathlib.Core.Bool.{Bool, cond, ◌&&◌, and-false}
use mathlib.Core.List.{List}
use Prim.Native.Nat.{ℕ, ◌<◌, ◌≤◌, ◌/◌, ◌%◌}
use native.Mathlib.Nat.{pos_of_ne-zero}
use native.Mathlib.Omega.{arith}
use native.Mathlib.Decide.{ℕ_discrete, dec_lt}
use lib.Bits.{bit_xor, xor_zero_r}
use lib.Dec.{eqb, ltb}
use lib.ListN.{length, get_or, set, take}
use lib.Seq.{get_or-set_same, get_or-set_other, get_or-take, length-take-le}
use borrow.Author.Tests.{eq-eqb, ne_eqb, lt-ltb, le-ltb}
use Rattle.computed_tests.proofs.Lists.{list_below-same}
use Rattle.gf256.specs.Field.{product, inverse}
use Rattle.gf256.specs.Tables.{IsTables, power_by}
use Rattle.gf256.specs.declared.tables.Tables.{Tables}
use Rattle.gf256.proofs.Inverses.{inverse-power}
use Rattle.gf256.proofs.TableLaws.{power_by_tables}
use Rattle.elimination.specs.Reduction.{entry, row_product, pivot_of, swept_entry, column_taken, row_added}
use Rattle.elimination.specs.Reduction.{row_product_within, pivot_within, swept_within, column_taken_within, row_added_within}
use Rattle.elimination.proofs.Pivots.{IsPivot, pivot_is, without_owner, pivot_found, pivot_same}
use Rattle.std.specs.Prelude.{Option, Some, None, MatchOption}
use Rattle.std.specs.List.{zip, position}

-- ---- the two cases

module _ (u : List ℕ) (number : ℕ) (m owners : List ℕ) where
  abbrev pivot : ℕ
  pivot = pivot_of (row_product u m) owners

  pub row_left : 256 ≤ pivot → row_added u number m owners ≡ (m, owners)
  unfolding row_added
  row_left h = ap (λ (b : Bool). cond b (column_taken u number m owners pivot) (m, owners)) (le-ltb pivot 256 h)

  pub row-taken : pivot < 256 → row_added u number m owners ≡ column_taken u number m owners pivot
  unfolding row_added
  row-taken h = ap (λ (b : Bool). cond b (column_taken u number m owners pivot) (m, owners)) (lt-ltb pivot 256 h)

module _ (w : ℕ) (u : List ℕ) (number : ℕ) (m owners : List ℕ) where
  abbrev pivot_in : ℕ
  pivot_in = pivot_within w (row_product_within w u m) owners

  pub left_within : w ≤ pivot_in → row_added_within w u number m owners ≡ (m, owners)
  unfolding row_added_within
  left_within h = ap (λ (b : Bool). cond b (column_taken_within w u number m owners pivot_in) (m, owners)) (le-ltb pivot_in w h)

  pub taken-within : pivot_in < w → row_added_within w u number m owners ≡ column_taken_within w u number m owners pivot_in
  unfolding row_added_within
  taken-within h = ap (λ (b : Bool). cond b (column_taken_within w u number m owners pivot_in) (m, owners)) (lt-ltb pivot_in w h)

-- ---- as they are worked out

-- two rows that agree below w
pub swept_same : (w : ℕ) (y z : ℕ → ℕ) (k scale : ℕ) (m : List ℕ) → ((j : ℕ) → j < w → y j ≡ z j)
    → swept_within w y k scale m ≡ swept_within w z k scale m
unfolding swept_within swept_entry
swept_same w y z k scale m h = list_below-same 65536 _ _ (λ p l. inside (p / 256) (p % 256) (get_or m p 0))
  where
    inside : (i j x : ℕ)
        → cond (ltb i w && ltb j w) (bit_xor (entry m i j) (product (product scale (entry m i k)) (y j))) x
        ≡ cond (ltb i w && ltb j w) (bit_xor (entry m i j) (product (product scale (entry m i k)) (z j))) x
    inside i j x = elim (dec_lt j w) [
      | yes l ↦ ap (λ (v : ℕ). cond (ltb i w && ltb j w) (bit_xor (entry m i j) (product (product scale (entry m i k)) v)) x) (h j l)
      | no q ↦ simp (le-ltb j w (omega arith), and-false) refl
    ]

-- y is the row's product with the matrix, of which the first w entries were searched
module _ (w : ℕ) (u : List ℕ) (number : ℕ) (m owners y : List ℕ) (hw : w ≤ 256) (all : length owners ≡ 256) (long : length y ≡ 256)
    (at : (j : ℕ) → j < w → get_or y j 0 ≡ row_product_within w u m j) where
  front : length (take w y) ≡ w
  front = length-take-le w y (omega arith)

  same_pivot : pivot_within (length (take w y)) (λ j. get_or (take w y) j 0) owners ≡ pivot_within w (row_product_within w u m) owners
  same_pivot =
      ap (λ (n : ℕ). pivot_within n (λ j. get_or (take w y) j 0) owners) front
      ∙ pivot_same w (λ j. get_or (take w y) j 0) (row_product_within w u m) owners (λ j l. get_or-take w y j 0 (omega arith) ∙ at j l)

  found : (r : Option ℕ) → r ≡ position without_owner (zip (take w y) owners) → MatchOption r (w ≤ pivot_in w u number m owners) (λ k. (k < w) × (k ≡ pivot_in w u number m owners))
  found r e = subst (λ (n : ℕ). MatchOption r (n ≤ pivot_in w u number m owners) (λ k. (k < n) × (k ≡ pivot_in w u number m owners))) front
      (subst (λ (p : ℕ). MatchOption r (length (take w y) ≤ p) (λ k. (k < length (take w y)) × (k ≡ p))) same_pivot
      (pivot_found (take w y) owners (omega (arith, front, all)) r e))

  pub row_dependent : None ≡ position without_owner (zip (take w y) owners) → (m, owners) ≡ row_added_within w u number m owners
  row_dependent e = sym (left_within w u number m owners (found None e))

  pub row_independent : (k : ℕ) (t : Tables) (scale : ℕ) (m' : List ℕ) → IsTables t → get_or y k 0 < 256
      → Some k ≡ position without_owner (zip (take w y) owners)
      → scale ≡ power_by t.powers t.exponents (get_or y k 0) 254
      → m' ≡ swept_within w (λ j. get_or (set y k (bit_xor (get_or y k 0) 1)) j 0) k scale m
      → (m', set owners k number) ≡ row_added_within w u number m owners
  unfolding column_taken_within
  row_independent k t scale m' is hb hk e S =
      ap (λ (z : List ℕ). (z, set owners k number))
      (S ∙ swept_same w _ _ k scale m changed
      ∙ ap (λ (s : ℕ). swept_within w (λ j. bit_xor (row_product_within w u m j) (cond (eqb k j) 1 0)) k s m)
      (e ∙ power_by_tables t is (get_or y k 0) 254 hb ∙ sym (inverse-power (get_or y k 0) hb positive) ∙ ap inverse (at k lk)))
      ∙ ap (column_taken_within w u number m owners) here
      ∙ sym (taken-within w u number m owners (subst (λ (i : ℕ). i < w) here lk))
    where
      lk : k < w
      lk = (found (Some k) hk).0

      here : k ≡ pivot_in w u number m owners
      here = (found (Some k) hk).1

      P : IsPivot w (row_product_within w u m) owners k
      P = subst (IsPivot w (row_product_within w u m) owners) (sym here) (pivot_is w (row_product_within w u m) owners)

      positive : 0 < get_or y k 0
      positive = let apart = (P.found lk).1 in pos_of_ne-zero (λ z. apart (sym (at k lk) ∙ z))

      changed : (j : ℕ) → j < w → get_or (set y k (bit_xor (get_or y k 0) 1)) j 0 ≡ bit_xor (row_product_within w u m j) (cond (eqb k j) 1 0)
      changed j l = elim (ℕ_discrete j k) [
        | yes p ↦
            ap (λ (i : ℕ). get_or (set y k (bit_xor (get_or y k 0) 1)) i 0) p
            ∙ get_or-set_same y k (bit_xor (get_or y k 0) 1) 0 (omega (arith, long))
            ∙ ap₂ bit_xor (ap (λ (i : ℕ). get_or y i 0) (sym p) ∙ at j l) (ap (λ (b : Bool). cond b 1 0) (sym (eq-eqb k j (sym p))))
        | no q ↦
            get_or-set_other y k j (bit_xor (get_or y k 0) 1) 0 q ∙ at j l ∙ sym (xor_zero_r (row_product_within w u m j))
            ∙ ap (λ (b : Bool). bit_xor (row_product_within w u m j) (cond b 1 0)) (sym (ne_eqb k j (λ z. q (sym z))))
      ]
