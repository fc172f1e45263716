-- A row added within a width is the row added, where the row and the matrix keep to the width.
--
--   start-apart      the identity
--   added_within     the row added within w is the row added
--   added_apart      and the matrix after it keeps to w
--   in_width         the claim
-- Assumes nothing.
use mathlib.Core.Path.{◌≡◌, refl, sym, ap, ap₂, ◌∙◌, subst}
use mathlib.Core.Bool.{Bool, cond, ◌&&◌, and-false}
use mathlib.Core.List.{List}
use mathlib.Core.Logic.{⊎_elim}
use Prim.Native.Nat.{ℕ, zero, suc, ◌<◌, ◌≤◌, ◌+◌, ◌*◌, ◌/◌, ◌%◌}
use native.Mathlib.Nat.{eq-or-lt_of_le}
use native.Mathlib.Omega.{arith}
use native.Mathlib.Decide.{dec_lt}
use lib.Bits.{bit_xor, xor_zero_r}
use lib.Dec.{eqb, ltb}
use lib.ListN.{get_or, set, replicate}
use borrow.Author.Tests.{ne_eqb, lt-ltb, le-ltb}
use Rattle.computed_tests.proofs.Lists.{list_below_at, list_below-same}
use Rattle.gf256.specs.Polynomial.{sum_below}
use Rattle.gf256.specs.Field.{product, inverse}
use Rattle.gf256.proofs.Polynomials.{sum_below-same, sum_below-none}
use Rattle.gf256.proofs.Products.{product_zero_l, product_zero_r}
use Rattle.elimination.specs.Claim.{KeepsTo, AddedWithin}
use Rattle.elimination.specs.Reduction.{entry, with_diagonal, row_product, pivot_of, swept_entry, swept, column_taken, row_added}
use Rattle.elimination.specs.Reduction.{row_product_within, pivot_within, swept_within, column_taken_within, row_added_within, Apart}
use Rattle.elimination.proofs.Pivots.{IsPivot, pivot_is, pivot_only, pivot_same, pivot_whole}
use Rattle.elimination.proofs.AddedRow.{row_left, row-taken, left_within, taken-within, swept_same}
use Rattle.elimination.proofs.Reductions.{identity_at}

pub start-apart : (w : ℕ) → w ≤ 256 → Apart w (with_diagonal 256 (replicate 65536 0))
start-apart w h = record {
  right = λ i j li lj l. identity_at i j (omega arith) l ∙ off i j (λ e. omega arith);
  below = λ i j li l lj. identity_at i j l (omega arith) ∙ off i j (λ e. omega arith);
}
  where
    off : (i j : ℕ) → (i ≡ j → ⊥) → ◌≡◌ {A = ℕ} (cond (eqb i j) 1 0) 0
    off i j q = ap (λ (b : Bool). cond b 1 0) (ne_eqb i j q)

-- a sum whose terms from w on are 0
sum_first : (w n : ℕ) (f : ℕ → ℕ) → w ≤ n → ((i : ℕ) → w ≤ i → i < n → f i ≡ 0) → sum_below n f ≡ sum_below w f
unfolding sum_below
sum_first w zero f l h = let e : zero ≡ w = omega arith in ap (λ (k : ℕ). sum_below k f) e
sum_first w (suc n) f l h =
    ⊎_elim
    (λ (e : w ≡ suc n). ap (λ (k : ℕ). sum_below k f) (sym e))
    (λ (b : w < suc n).
    ap₂ bit_xor (sum_first w n f (omega arith) (λ i p q. h i p (omega arith))) (h n (omega arith) (omega arith)) ∙ xor_zero_r (sum_below w f))
    (eq-or-lt_of_le l)

module _ (w : ℕ) (hw : w ≤ 256) (u m : List ℕ) (A : Apart w m) (Z : KeepsTo w u) where
  product-within : (j : ℕ) → row_product u m j ≡ row_product_within w u m j
  unfolding row_product row_product_within
  product-within j = let term : ℕ → ℕ = λ (i : ℕ). product (get_or u i 0) (entry m i j) in
      sum_first w 256 term hw (λ i l b. ap (λ (x : ℕ). product x (entry m i j)) (Z i l b) ∙ product_zero_l (entry m i j))

  product_past : (j : ℕ) → w ≤ j → j < 256 → row_product u m j ≡ 0
  unfolding row_product_within
  product_past j lw l =
      product-within j
      ∙ sum_below-same w (λ i. product (get_or u i 0) (entry m i j)) (λ i. 0)
      (λ i b. ap (product (get_or u i 0)) (A.right i j b lw l) ∙ product_zero_r (get_or u i 0))
      ∙ sum_below-none w

  module _ (owners : List ℕ) where
    -- the pivot within w, if there is one, is the pivot
    abbrev k : ℕ
    k = pivot_within w (row_product_within w u m) owners

    P : IsPivot w (row_product u m) owners k
    P =
        subst (IsPivot w (row_product u m) owners)
        (pivot_same w (row_product u m) (row_product_within w u m) owners (λ j l. product-within j)) (pivot_is w (row_product u m) owners)

    whole : (p : ℕ) → IsPivot 256 (row_product u m) owners p → p ≡ pivot_of (row_product u m) owners
    whole p Q = pivot_only 256 (row_product u m) owners p Q ∙ sym (pivot_whole (row_product u m) owners)

    pivot_within_lem : k < w → k ≡ pivot_of (row_product u m) owners
    pivot_within_lem l = whole k record { within = omega arith; found = λ b. P.found l; before = P.before }

    no_pivot : w ≤ k → 256 ≤ pivot_of (row_product u m) owners
    no_pivot l =
        let e = whole 256 record {
          within = omega arith;
          found = λ b. absurd (omega arith);
          before = λ j b o. elim (dec_lt j w) [
            | yes lj ↦ P.before j (omega arith) o
            | no q ↦ product_past j (omega arith) b
          ];
        } in
        omega arith

    -- ---- the sweep

    module _ (l : k < w) where
      y : ℕ → ℕ
      y j = bit_xor (row_product u m j) (cond (eqb k j) 1 0)

      y_past : (j : ℕ) → w ≤ j → j < 256 → y j ≡ 0
      unfolding y
      y_past j lw b = ap₂ bit_xor (product_past j lw b) (ap (λ (t : Bool). cond t 1 0) (ne_eqb k j (λ e. omega arith)))

      -- an entry outside stays
      stays : (scale i j : ℕ) → i < 256 → j < 256 → (i < w → j < w → ⊥) → swept_entry y k scale m i j ≡ entry m i j
      unfolding swept_entry
      stays scale i j li lj q = elim (dec_lt i w) [
        | yes b ↦
            ap (λ (x : ℕ). bit_xor (entry m i j) x)
            (ap (product (product scale (entry m i k))) (y_past j (let n = q b in omega arith) lj) ∙ product_zero_r (product scale (entry m i k)))
            ∙ xor_zero_r (entry m i j)
        | no n ↦
            ap (λ (x : ℕ). bit_xor (entry m i j) (product x (y j)))
            (ap (product scale) (A.below i k (omega arith) li l) ∙ product_zero_r scale)
            ∙ ap (λ (x : ℕ). bit_xor (entry m i j) x) (product_zero_l (y j)) ∙ xor_zero_r (entry m i j)
      ]

      swept-within : (scale : ℕ) → swept_within w y k scale m ≡ swept y k scale m
      unfolding swept_within swept
      swept-within scale = list_below-same 65536 _ _ (λ p b. each p (p / 256) (p % 256) (omega arith) (omega arith) (omega arith))
        where
          each : (p i j : ℕ) → p ≡ i * 256 + j → i < 256 → j < 256
              → cond (ltb i w && ltb j w) (swept_entry y k scale m i j) (get_or m p 0) ≡ swept_entry y k scale m i j
          each p i j e li lj = elim (dec_lt i w) [
            | yes bi ↦ elim (dec_lt j w) [
              | yes bj ↦ simp (lt-ltb i w bi, lt-ltb j w bj) refl
              | no q ↦
                  simp (le-ltb j w (omega arith), and-false)
                  (ap (λ (n : ℕ). get_or m n 0) e ∙ sym (stays scale i j li lj (λ _ b. q b)))
            ]
            | no q ↦
                simp (le-ltb i w (omega arith)) (ap (λ (n : ℕ). get_or m n 0) e ∙ sym (stays scale i j li lj (λ b _. q b)))
          ]

      swept-apart : (scale : ℕ) → Apart w (swept y k scale m)
      unfolding swept
      swept-apart scale = record {
        right = λ i j li lw lj. at i j (omega arith) lj (λ _ b. omega arith) ∙ A.right i j li lw lj;
        below = λ i j lw li lj. at i j li (omega arith) (λ b _. omega arith) ∙ A.below i j lw li lj;
      }
        where
          at : (i j : ℕ) → i < 256 → j < 256 → (i < w → j < w → ⊥) → entry (swept y k scale m) i j ≡ entry m i j
          at i j li lj q = let row : (i * 256 + j) / 256 ≡ i = omega arith in
              let column : (i * 256 + j) % 256 ≡ j = omega arith in
              list_below_at 65536 _ (i * 256 + j) (omega arith) ∙ ap₂ (swept_entry y k scale m) row column ∙ stays scale i j li lj q

    -- ---- the row added

    pub added_within : (number : ℕ) → row_added_within w u number m owners ≡ row_added u number m owners
    unfolding column_taken_within column_taken y
    added_within number = elim (dec_lt k w) [
      | yes l ↦
          taken-within w u number m owners l
          ∙ ap (λ (s : List ℕ). (s, set owners k number))
          (swept_same w _ (y l) k (inverse (row_product_within w u m k)) m
          (λ j b. ap (λ (x : ℕ). bit_xor x (cond (eqb k j) 1 0)) (sym (product-within j)))
          ∙ ap (λ (x : ℕ). swept_within w (y l) k (inverse x) m) (sym (product-within k)) ∙ swept-within l (inverse (row_product u m k)))
          ∙ ap (column_taken u number m owners) (pivot_within_lem l)
          ∙ sym (row-taken u number m owners (subst (λ (n : ℕ). n < 256) (pivot_within_lem l) (omega arith)))
      | no q ↦ left_within w u number m owners (omega arith) ∙ sym (row_left u number m owners (no_pivot (omega arith)))
    ]

    pub added_apart : (number : ℕ) → Apart w (row_added u number m owners).0
    unfolding column_taken y
    added_apart number = elim (dec_lt k w) [
      | yes l ↦
          let e = ap (column_taken u number m owners) (pivot_within_lem l)
          ∙ sym (row-taken u number m owners (subst (λ (n : ℕ). n < 256) (pivot_within_lem l) (omega arith))) in
          subst (λ (s : List ℕ × List ℕ). Apart w s.0) e (swept-apart l (inverse (row_product u m k)))
      | no q ↦ subst (λ (s : List ℕ × List ℕ). Apart w s.0) (sym (row_left u number m owners (no_pivot (omega arith)))) A
    ]

pub in_width : AddedWithin
in_width = record {
  at_first = start-apart;
  added = λ w h u m owners apart keeps number. (added_within w h u m apart keeps owners number, added_apart w h u m apart keeps owners number);
}
