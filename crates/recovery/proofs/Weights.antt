-- The weights of the rows, and document 01's weights.
--
--   used_independent, independent_used    a volume is used exactly where its row is no sum of multiples of earlier rows
--   Weighs f w          weights of the rows that sum them to 1 in file f and 0 in the other columns
--   solution_weighs, zero_weighs          of a solution, and of an empty file
--   is_weights          a list that holds them, and what follows for the files present, is the 255 weights
--   one_weights         there is one such list at most
-- Assumes nothing.
use mathlib.Core.Path.{◌≡◌, refl, sym, ap, ap₂, ◌∙◌, subst}
use mathlib.Core.Bool.{Bool, true, false, cond, ◌&&◌, true≢false}
use mathlib.Core.List.{List}
use Prim.Native.Nat.{ℕ, zero, suc, ◌<◌, ◌≤◌, ◌+◌, ◌-◌}
use native.Mathlib.Nat.{not-suc-le-zero}
use native.Mathlib.Omega.{arith}
use native.Mathlib.Decide.{dec_lt}
use lib.Dec.{eqb}
use lib.ListN.{length, get_or}
use lib.Seq.{ext_get_or}
use borrow.Author.Tests.{ne_eqb}
use Rattle.computed_tests.proofs.Tests.{and_both, one_to_in, one_to_inside}
use Rattle.gf256.specs.Polynomial.{sum_below}
use Rattle.gf256.specs.Field.{product}
use Rattle.gf256.proofs.Polynomials.{sum_below-same}
use Rattle.gf256.proofs.Products.{product_zero_l}
use Rattle.parity.specs.Parity.{is_file}
use Rattle.elimination.specs.Field.{sum}
use Rattle.elimination.specs.Matrix.{Dependent, IsSolution}
use Rattle.elimination.proofs.Sums as S
use Rattle.elimination.proofs.Solutions as Solutions
use Rattle.elimination.specs.ByteField.{Byte, byte_eq}
use Rattle.elimination.proofs.ByteField.{is_zero, sum_value, δ-value}
use Rattle.recovery.specs.Recoverable.{State, is_volume, column, place, SumOfLower, Used, weighted, IsWeights}
use Rattle.recovery.proofs.Rows as R
use Rattle.recovery.proofs.Rows.{K, eqb_suc}
open K use {𝟘, 𝟙, add as ◌⊕◌, mul as ◌⊗◌}

infixl 60 ◌⊕◌
infixl 70 ◌⊗◌
module _ (rule : ℕ → ℕ → ℕ) (small : (f v : ℕ) → f < 256 → rule f v < 256) (t : State) (fits : t.n ≤ 254) where
  abbrev matrix : ℕ → ℕ → Byte
  matrix s i = R.matrix rule small t fits s i

  abbrev in_column : ℕ → Bool
  in_column i = R.in_column rule small t fits i

  abbrev rows : ℕ
  rows = 255 - t.n

  column_file : (i : ℕ) → in_column i ≡ true → (i < t.n) × (column t (suc i) ≡ true)
  column_file i e = let both = and_both (is_file t.n (suc i)) (column t (suc i)) e in
      ((one_to_inside t.n (suc i) both.0).1, both.1)

  -- ---- used volumes

  -- a term of a column, as a number
  term : (c : ℕ → Byte) (r i : ℕ) → in_column i ≡ true
      → (c r ⊗ matrix r i).0 ≡ cond (t.volumes (suc r)) (product (c r).0 (rule (suc i) (suc r))) 0
  term c r i e = go (t.volumes (suc r)) refl
    where
      go : (b : Bool) → t.volumes (suc r) ≡ b → (c r ⊗ matrix r i).0 ≡ cond b (product (c r).0 (rule (suc i) (suc r))) 0
      go true h = let l = (column_file i e).0 in
          ap (λ (x : Byte). (c r ⊗ x).0) (R.matrix_present rule small t fits r i h e)
          ∙ ap (product (c r).0) (R.coef_value rule small t fits i r (omega arith))
      go false h = ap (λ (x : Byte). (c r ⊗ x).0) (R.matrix_absent rule small t fits r i h) ∙ ap (λ (x : Byte). x.0) (S.mul-zero K (c r))

  term_off : (c : ℕ → Byte) (r i : ℕ) → in_column i ≡ false → c r ⊗ matrix r i ≡ 𝟘
  term_off c r i e = ap (λ (x : Byte). c r ⊗ x) (R.matrix_off rule small t fits r i e) ∙ S.mul-zero K (c r)

  column-sum : (m : ℕ) (c : ℕ → Byte) (i : ℕ) → in_column i ≡ true
      → (sum K m (λ r. c r ⊗ matrix r i)).0
      ≡ sum_below m (λ r. cond (t.volumes (suc r)) (product (c r).0 (rule (suc i) (suc r))) 0)
  column-sum m c i e =
      sum_value m (λ r. c r ⊗ matrix r i)
      ∙ sum_below-same m (λ r. (c r ⊗ matrix r i).0)
      (λ r. cond (t.volumes (suc r)) (product (c r).0 (rule (suc i) (suc r))) 0) (λ r l. term c r i e)

  dependent_sum : (s : ℕ) → t.volumes (suc s) ≡ true → Dependent K matrix 256 s → SumOfLower rule t (suc s)
  unfolding Dependent SumOfLower
  dependent_sum s e (c, h) = (number, number_small, λ g l k. each g l k)
    where
      number : ℕ → ℕ
      number zero = 0
      number (suc r) = (c r).0

      number_small : (u : ℕ) → number u < 256
      number_small zero = omega arith
      number_small (suc r) = (c r).1

      each : (g : ℕ) → is_file t.n g ≡ true → column t g ≡ true
          → rule g (suc s) ≡ sum_below (suc s - 1) (λ r. cond (t.volumes (suc r)) (product (number (suc r)) (rule g (suc r))) 0)
      each zero l k = absurd (not-suc-le-zero (one_to_inside t.n zero l).0)
      each (suc i) l k = let b = (one_to_inside t.n (suc i) l).1 in
          let in_column_lem : in_column i ≡ true = ap₂ (λ (x y : Bool). x && y) l k in
          sym (R.coef_value rule small t fits i s (omega arith))
          ∙ ap (λ (b : Byte). b.0) (sym (R.matrix_present rule small t fits s i e in_column_lem) ∙ h i (omega arith))
          ∙ column-sum s c i in_column_lem
          ∙ ap (λ (z : ℕ). sum_below z (λ r. cond (t.volumes (suc r)) (product (c r).0 (rule (suc i) (suc r))) 0)) (omega arith)

  sum_dependent : (s : ℕ) → t.volumes (suc s) ≡ true → SumOfLower rule t (suc s) → Dependent K matrix 256 s
  unfolding Dependent SumOfLower
  sum_dependent s e (c, h, q) = (λ r. (c (suc r), h (suc r)), λ i l. each i (in_column i) refl)
    where
      byte : ℕ → Byte
      byte r = (c (suc r), h (suc r))

      each : (i : ℕ) (b : Bool) → in_column i ≡ b → matrix s i ≡ sum K s (λ r. byte r ⊗ matrix r i)
      each i false k =
          R.matrix_off rule small t fits s i k
          ∙ sym (S.sum-none K s (λ r. byte r ⊗ matrix r i) (λ r m. term_off byte r i k))
      each i true k = let both = column_file i k in
          let b = both.0 in
          byte_eq (matrix s i) (sum K s (λ r. byte r ⊗ matrix r i))
          (ap (λ (x : Byte). x.0) (R.matrix_present rule small t fits s i e k) ∙ R.coef_value rule small t fits i s (omega arith)
          ∙ q (suc i) (one_to_in t.n (suc i) (omega arith) b) both.1
          ∙ ap (λ (z : ℕ). sum_below z (λ r. cond (t.volumes (suc r)) (product (c (suc r)) (rule (suc i) (suc r))) 0)) (omega arith)
          ∙ sym (column-sum s byte i k))

  -- the row of a volume that is not present is 0
  absent_dependent : (s : ℕ) → t.volumes (suc s) ≡ false → Dependent K matrix 256 s
  unfolding Dependent
  absent_dependent s e = (
    λ r. 𝟘,
    λ i l.
        R.matrix_absent rule small t fits s i e
        ∙ sym (S.sum-none K s (λ r. 𝟘 ⊗ matrix r i) (λ r m. S.zero-mul K (matrix r i))),
  )

  used_independent : (s : ℕ) → Used rule t (suc s) → ¬ Dependent K matrix 256 s
  used_independent s (l, e, q) d = q (dependent_sum s e d)

  pub independent_used : (s : ℕ) → s < rows → ¬ Dependent K matrix 256 s → Used rule t (suc s)
  independent_used s l q = go (t.volumes (suc s)) refl
    where
      go : (b : Bool) → t.volumes (suc s) ≡ b → Used rule t (suc s)
      go true e = (one_to_in (255 - t.n) (suc s) (omega arith) (omega arith), e, λ h. q (sum_dependent s e h))
      go false e = absurd (q (absent_dependent s e))

  -- ---- weights of the rows

  pub record Weighs (f : ℕ) (w : ℕ → Byte) : Type 0 where
    pub columns : (g : ℕ) → in_column g ≡ true → (sum K rows (λ s. w s ⊗ matrix s g)).0 ≡ cond (eqb f (suc g)) 1 0
    pub unused : (s : ℕ) → s < rows → Dependent K matrix 256 s → w s ≡ 𝟘

  pub solution_weighs : (f : ℕ) (w : ℕ → Byte) → IsSolution K matrix 256 rows f w → Weighs (suc f) w
  solution_weighs f w W = record {
    columns = λ g e.
        let l = (column_file g e).0 in
        ap (λ (x : Byte). x.0) (W.sums g (omega arith)) ∙ δ-value f g
        ∙ ap (λ (b : Bool). cond b 1 0) (sym (eqb_suc f g));
    unused = W.unused;
  }

  pub zero_weighs : (f : ℕ) → column t f ≡ false → Weighs f (λ s. 𝟘)
  zero_weighs f e = record {
    columns = λ g k.
        ap (λ (x : Byte). x.0) (S.sum-none K rows (λ s. 𝟘 ⊗ matrix s g) (λ s l. S.zero-mul K (matrix s g)))
        ∙ ap (λ (b : Bool). cond b 1 0)
        (sym (ne_eqb f (suc g) (λ z. true≢false (sym (column_file g k).1 ∙ ap (column t) (sym z) ∙ e))));
    unused = λ s l d. refl;
  }

  -- ---- the 255 weights

  place_volume : (r : List ℕ) (s : ℕ) → place r (t.n + suc s) ≡ get_or r (t.n + s) 0
  place_volume r s = ap (λ (k : ℕ). get_or r k 0) (omega arith)

  place_file : (r : List ℕ) (i : ℕ) → place r (suc i) ≡ get_or r i 0
  place_file r i = ap (λ (k : ℕ). get_or r k 0) (omega arith)

  -- the weights of the volumes in a list; those of volumes that are not present being 0, the rows give the weighted sums
  weighted_sum : (r : List ℕ) (w : ℕ → Byte) → ((s : ℕ) → s < rows → get_or r (t.n + s) 0 ≡ (w s).0)
      → ((s : ℕ) → s < rows → t.volumes (suc s) ≡ false → w s ≡ 𝟘)
      → (i : ℕ) → in_column i ≡ true → weighted rule t r (suc i) ≡ (sum K rows (λ s. w s ⊗ matrix s i)).0
  unfolding weighted
  weighted_sum r w hw z i e =
      sum_below-same rows (λ s. product (place r (t.n + suc s)) (rule (suc i) (suc s)))
      (λ s. cond (t.volumes (suc s)) (product (w s).0 (rule (suc i) (suc s))) 0)
      (λ s l. ap (λ (k : ℕ). product k (rule (suc i) (suc s))) (place_volume r s ∙ hw s l) ∙ go s l (t.volumes (suc s)) refl)
      ∙ sym (column-sum rows w i e)
    where
      go : (s : ℕ) → s < rows → (b : Bool) → t.volumes (suc s) ≡ b
          → product (w s).0 (rule (suc i) (suc s)) ≡ cond b (product (w s).0 (rule (suc i) (suc s))) 0
      go s l true q = refl
      go s l false q = ap (λ (x : Byte). product x.0 (rule (suc i) (suc s))) (z s l q) ∙ product_zero_l (rule (suc i) (suc s))

  module _ (f : ℕ) (w : ℕ → Byte) (W : Weighs f w) (r : List ℕ) (len : length r ≡ 255)
      (bytes : (p : ℕ) → get_or r p 0 < 256)
      (hw : (s : ℕ) → s < rows → get_or r (t.n + s) 0 ≡ (w s).0)
      (hp : (i : ℕ) → i < t.n → t.files (suc i) ≡ true → get_or r i 0 ≡ weighted rule t r (suc i))
      (hm : (i : ℕ) → i < t.n → t.files (suc i) ≡ false → get_or r i 0 ≡ 0) where
    unused_zero : (v : ℕ) → is_volume t.n v ≡ true → ¬ Used rule t v → place r (t.n + v) ≡ 0
    unused_zero zero l q = absurd (not-suc-le-zero (one_to_inside (255 - t.n) zero l).0)
    unused_zero (suc s) l q = let b = (one_to_inside (255 - t.n) (suc s) l).1 in
        let m : s < rows = omega arith in
        place_volume r s ∙ hw s m
        ∙ elim (Solutions.dependent_dec K is_zero matrix 256 s) [
          | yes d ↦ ap (λ (x : Byte). x.0) (W.unused s m d)
          | no d ↦ absurd (q (independent_used s m d))
        ]

    column_weights : (g : ℕ) → is_file t.n g ≡ true → column t g ≡ true → weighted rule t r g ≡ cond (eqb f g) 1 0
    column_weights zero l e = absurd (not-suc-le-zero (one_to_inside t.n zero l).0)
    column_weights (suc g) l e = let k : in_column g ≡ true = ap₂ (λ (x y : Bool). x && y) l e in
        weighted_sum r w hw (λ s m h. W.unused s m (absent_dependent s h)) g k ∙ W.columns g k

    of_files : (g : ℕ) → is_file t.n g ≡ true → t.files g ≡ true → place r g ≡ weighted rule t r g
    of_files zero l e = absurd (not-suc-le-zero (one_to_inside t.n zero l).0)
    of_files (suc i) l e = place_file r i ∙ hp i (one_to_inside t.n (suc i) l).1 e

    of_missing : (g : ℕ) → is_file t.n g ≡ true → t.files g ≡ false → place r g ≡ 0
    of_missing zero l e = absurd (not-suc-le-zero (one_to_inside t.n zero l).0)
    of_missing (suc i) l e = place_file r i ∙ hm i (one_to_inside t.n (suc i) l).1 e

    pub is_weights : IsWeights rule t f r
    is_weights = record {
      places = len;
      bytes = bytes;
      columns = column_weights;
      of_files = of_files;
      of_unused = unused_zero;
      of_missing = of_missing;
    }

  -- ---- two lists of weights of one file are the same

  module _ (f : ℕ) (r : List ℕ) (W : IsWeights rule t f r) where
    weight : ℕ → Byte
    weight s = (get_or r (t.n + s) 0, W.bytes (t.n + s))

    weight_unused : (s : ℕ) → s < rows → Dependent K matrix 256 s → weight s ≡ 𝟘
    unfolding weight
    weight_unused s l d =
        byte_eq (weight s) 𝟘
        (sym (place_volume r s)
        ∙ W.of_unused (suc s) (one_to_in (255 - t.n) (suc s) (omega arith) (omega arith)) (λ u. used_independent s u d))

    weight_columns : (g : ℕ) → (sum K rows (λ s. weight s ⊗ matrix s g)).0 ≡ cond (in_column g) (cond (eqb f (suc g)) 1 0) 0
    unfolding weight
    weight_columns g = go (in_column g) refl
      where
        go : (b : Bool) → in_column g ≡ b → (sum K rows (λ s. weight s ⊗ matrix s g)).0 ≡ cond b (cond (eqb f (suc g)) 1 0) 0
        go true e = let both = and_both (is_file t.n (suc g)) (column t (suc g)) e in
            sym (weighted_sum r weight (λ s l. refl) (λ s l h. weight_unused s l (absent_dependent s h)) g e)
            ∙ W.columns (suc g) both.0 both.1
        go false e = ap (λ (x : Byte). x.0) (S.sum-none K rows (λ s. weight s ⊗ matrix s g) (λ s m. term_off weight s g e))

  module _ (f : ℕ) (r r' : List ℕ) (W : IsWeights rule t f r) (W' : IsWeights rule t f r') where
    same_volumes : (s : ℕ) → s < rows → get_or r (t.n + s) 0 ≡ get_or r' (t.n + s) 0
    unfolding weight
    same_volumes s l = go (Solutions.eliminate K is_zero matrix 256 rows)
      where
        go : Solutions.Elimination K is_zero matrix 256 rows → get_or r (t.n + s) 0 ≡ get_or r' (t.n + s) 0
        go (D, owner, X) =
            ap (λ (x : Byte). x.0)
            (Solutions.weights_unique K matrix 256 D owner rows X (λ g. sum K rows (λ s. weight f r W s ⊗ matrix s g))
            (weight f r W) (weight f r' W') (weight_unused f r W) (weight_unused f r' W') (λ g m. refl)
            (λ g m.
            byte_eq (sum K rows (λ s. weight f r W s ⊗ matrix s g)) (sum K rows (λ s. weight f r' W' s ⊗ matrix s g))
            (weight_columns f r W g ∙ sym (weight_columns f r' W' g)))
            s l)

    same_weighted : (g : ℕ) → weighted rule t r g ≡ weighted rule t r' g
    unfolding weighted
    same_weighted g =
        sum_below-same rows (λ s. product (place r (t.n + suc s)) (rule g (suc s)))
        (λ s. product (place r' (t.n + suc s)) (rule g (suc s)))
        (λ s l.
        ap (λ (k : ℕ). product k (rule g (suc s))) (place_volume r s ∙ same_volumes s l ∙ sym (place_volume r' s)))

    same_file : (p : ℕ) → p < t.n → (b : Bool) → t.files (suc p) ≡ b → place r (suc p) ≡ place r' (suc p)
    same_file p l true e = let h = one_to_in t.n (suc p) (omega arith) l in
        W.of_files (suc p) h e ∙ same_weighted (suc p) ∙ sym (W'.of_files (suc p) h e)
    same_file p l false e = let h = one_to_in t.n (suc p) (omega arith) l in
        W.of_missing (suc p) h e ∙ sym (W'.of_missing (suc p) h e)

    pub one_weights : r ≡ r'
    one_weights =
        ext_get_or 0 r r' (W.places ∙ sym W'.places)
        (λ p l.
        let b : p < 255 = subst (λ (k : ℕ). p < k) W.places l in
        elim (dec_lt p t.n) [
          | yes m ↦ sym (place_file r p) ∙ same_file p m (t.files (suc p)) refl ∙ place_file r' p
          | no q ↦
              let e : p ≡ t.n + (p - t.n) = omega arith in
              ap (λ (k : ℕ). get_or r k 0) e ∙ same_volumes (p - t.n) (omega arith) ∙ ap (λ (k : ℕ). get_or r' k 0) (sym e)
        ])
