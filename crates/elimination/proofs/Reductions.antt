-- What the calls of this crate come to: after the rows of A that were added, the matrix and the owners are as the
-- elimination of A has them, and answer for it.
--
--   entries m i j, owner_of owners k     entry (i, j) of the matrix m as a field element, and the owner of column k
--   identity_at                   the entries of the matrix at first
--   zeros_at                      a list of zeros is 0 everywhere
--   ReducedBytes A m owners t     m and owners after the first t rows of A
--   ReducedPair A s t             the same of the pair s of a matrix and owners
--   start_reduced                 no row
--   skip_reduced                  a row of zeros may be left out
--   add_reduced                   a row that was added
--   solvable_solution             solvable: the weights are the solution
--   unsolvable_kernel             not solvable: there is a kernel vector
--   weight_value                  the weight that the code reads off is the solution's
--   weight_late, weight_none      no weight stands at a row that was not taken, nor, where it is solvable, at 0
-- Assumes nothing.
use mathlib.Core.Path.{◌≡◌, refl, sym, ap, ap₂, ◌∙◌, subst}
use mathlib.Core.Logic.{◌≢◌}
use mathlib.Core.Bool.{Bool, true, false, cond}
use mathlib.Core.List.{List}
use Prim.Native.Nat.{ℕ, zero, suc, ◌<◌, ◌≤◌, ◌+◌, ◌*◌, ◌/◌, ◌%◌}
use native.Mathlib.Nat.{not-suc-le-zero}
use native.Mathlib.Omega.{arith}
use native.Mathlib.Decide.{ℕ_discrete, dec_lt}
use lib.Bits.{bit_xor}
use lib.Dec.{eqb}
use lib.ListN.{length, get_or, set, replicate, length-set, length-replicate}
use lib.Seq.{get_or-set_same, get_or-set_other}
use borrow.Author.Tests.{eq-eqb, ne_eqb}
use Rattle.computed_tests.proofs.Lists.{list_below_at}
use Rattle.gf256.specs.Field.{product, inverse}
use Rattle.gf256.proofs.Polynomials.{sum_below-same, sum_below-none}
use Rattle.elimination.specs.Field.{δ}
use Rattle.elimination.specs.Matrix.{IsSolution, IsKernelVector}
use Rattle.elimination.specs.Reduction.{entry, with_diagonal, row_product, pivot_of, swept_entry, swept, column_taken, row_added, is_solvable, weight_of}
use Rattle.elimination.proofs.Pivots.{IsPivot, pivot_is, pivot_whole, pivot_none, pivot_some}
use Rattle.elimination.proofs.AddedRow.{row_left, row-taken}
use Rattle.elimination.proofs.Sums as S
use Rattle.elimination.proofs.ByColumns.{row_times, Reduced, row_weight, reduced_start, reduced_dependent, reduced_independent}
use Rattle.elimination.proofs.Solutions.{solution, kernel_vector}
use Rattle.elimination.specs.ByteField.{Byte, byte_eq, to_byte, byte_field}
use Rattle.elimination.proofs.ByteField.{to_byte_value, to_byte_of_value, sum_value, δ-value}

-- the entries of a list as a matrix of bytes, and its owners
abbrev pub entries : List ℕ → ℕ → ℕ → Byte
entries m i j = to_byte (entry m i j)

abbrev pub owner_of : List ℕ → ℕ → ℕ
owner_of owners k = get_or owners k 0

pub record ReducedBytes (A : ℕ → ℕ → Byte) (m owners : List ℕ) (t : ℕ) : Type 0 where
  pub bytes : (i j : ℕ) → i < 256 → j < 256 → entry m i j < 256
  pub owners_length : length owners ≡ 256
  pub reduced : Reduced byte_field A 256 (entries m) (owner_of owners) t

abbrev pub ReducedPair : (ℕ → ℕ → Byte) → List ℕ × List ℕ → ℕ → Type 0
ReducedPair A s t = ReducedBytes A s.0 s.1 t

-- ---- no row

with_diagonal-length : (n : ℕ) (m : List ℕ) → length (with_diagonal n m) ≡ length m
unfolding with_diagonal
with_diagonal-length zero m = refl
with_diagonal-length (suc n) m = length-set (with_diagonal n m) (n * 256 + n) 1 ∙ with_diagonal-length n m

with_diagonal_off : (n : ℕ) (m : List ℕ) (i j : ℕ) → n ≤ 256 → j < 256 → (i ≡ j → n ≤ i) → entry (with_diagonal n m) i j ≡ entry m i j
unfolding with_diagonal
with_diagonal_off zero m i j hn hj h = refl
with_diagonal_off (suc n) m i j hn hj h =
    get_or-set_other (with_diagonal n m) (n * 256 + n) (i * 256 + j) 1 0 other
    ∙ with_diagonal_off n m i j (omega arith) hj (λ e. let b : suc n ≤ i = h e in omega arith)
  where
    other : i * 256 + j ≢ n * 256 + n
    other e = let p : i ≡ n = omega arith in
        let q : i ≡ j = omega arith in
        let b : suc n ≤ i = h q in
        omega arith

with_diagonal_on : (n : ℕ) (m : List ℕ) (i : ℕ) → n ≤ 256 → length m ≡ 65536 → i < n → entry (with_diagonal n m) i i ≡ 1
unfolding with_diagonal
with_diagonal_on zero m i hn hm l = absurd (not-suc-le-zero l)
with_diagonal_on (suc n) m i hn hm l = elim (ℕ_discrete i n) [
  | yes e ↦
      ap (λ (k : ℕ). entry (set (with_diagonal n m) (n * 256 + n) 1) k k) e
      ∙ get_or-set_same (with_diagonal n m) (n * 256 + n) 1 0 (omega (arith, with_diagonal-length n m))
  | no q ↦
      get_or-set_other (with_diagonal n m) (n * 256 + n) (i * 256 + i) 1 0 (λ e. q (omega arith))
      ∙ with_diagonal_on n m i (omega arith) hm (omega arith)
]

pub zeros_at : (n p : ℕ) → ◌≡◌ {A = ℕ} (get_or (replicate n 0) p 0) 0
zeros_at zero p = refl
zeros_at (suc n) zero = refl
zeros_at (suc n) (suc p) = zeros_at n p

pub identity_at : (i j : ℕ) → i < 256 → j < 256 → entry (with_diagonal 256 (replicate 65536 0)) i j ≡ cond (eqb i j) 1 0
identity_at i j li lj = elim (ℕ_discrete i j) [
  | yes e ↦
      ap (entry (with_diagonal 256 (replicate 65536 0)) i) (sym e)
      ∙ with_diagonal_on 256 (replicate 65536 0) i (omega arith) (length-replicate {A = ℕ} 65536 0) li
      ∙ ap (λ (b : Bool). cond b 1 0) (sym (eq-eqb i j e))
  | no q ↦
      with_diagonal_off 256 (replicate 65536 0) i j (omega arith) lj (λ e. absurd (q e))
      ∙ zeros_at 65536 (i * 256 + j) ∙ ap (λ (b : Bool). cond b 1 0) (sym (ne_eqb i j q))
]

one_or_zero : (b : Bool) → cond b 1 0 < 256
one_or_zero true = omega arith
one_or_zero false = omega arith

pub start_reduced : (A : ℕ → ℕ → Byte) → ReducedBytes A (with_diagonal 256 (replicate 65536 0)) (replicate 256 0) 0
start_reduced A = record {
  bytes = λ i j li lj. subst (λ (x : ℕ). x < 256) (sym (identity_at i j li lj)) (one_or_zero (eqb i j));
  owners_length = length-replicate {A = ℕ} 256 0;
  reduced = reduced_start byte_field A 256 (entries start) (owner_of (replicate 256 0))
      (λ i j li lj. ap to_byte (identity_at i j li lj ∙ sym (δ-value i j)) ∙ to_byte_of_value (δ byte_field i j))
      (λ j l. zeros_at 256 j);
}
  where
    start : List ℕ
    start = with_diagonal 256 (replicate 65536 0)

-- ---- one row more

module _ (A : ℕ → ℕ → Byte) (m owners : List ℕ) (t : ℕ) (R : ReducedBytes A m owners t) where
  value : (i j : ℕ) → i < 256 → j < 256 → (entries m i j).0 ≡ entry m i j
  value i j li lj = to_byte_value (entry m i j) (R.bytes i j li lj)

  times_m : ℕ → Byte
  times_m j = row_times byte_field 256 (A t) (entries m) j

  pub skip_reduced : ((i : ℕ) → i < 256 → A t i ≡ byte_field.𝟘) → ReducedBytes A m owners (suc t)
  unfolding row_times
  skip_reduced h = record {
    bytes = R.bytes;
    owners_length = R.owners_length;
    reduced = reduced_dependent byte_field A 256 (entries m) (owner_of owners) t R.reduced
        (λ j l o. S.sum-none byte_field 256 (λ i. byte_field.mul (A t i) (entries m i j))
        (λ i b. ap (λ (x : Byte). byte_field.mul x (entries m i j)) (h i b) ∙ S.zero-mul byte_field (entries m i j)));
  }

  module _ (u : List ℕ) (row : (i : ℕ) → i < 256 → (A t i).0 ≡ get_or u i 0) where
    product_value : (j : ℕ) → j < 256 → (times_m j).0 ≡ row_product u m j
    unfolding times_m row_times row_product
    product_value j l =
        sum_value 256 (λ i. byte_field.mul (A t i) (entries m i j))
        ∙ sum_below-same 256 (λ i. product (A t i).0 (entries m i j).0) (λ i. product (get_or u i 0) (entry m i j))
        (λ i b. ap₂ product (row i b) (value i j b l))

    module _ (k : ℕ) (lk : k < 256) (P : IsPivot 256 (row_product u m) owners k) where
      swept_byte : ℕ → ℕ → Byte
      swept_byte i j =
          byte_field.add (entries m i j)
          (byte_field.mul (byte_field.mul (byte_field.inv (times_m k)) (entries m i k)) (byte_field.add (times_m j) (δ byte_field k j)))

      abbrev taken : List ℕ × List ℕ
      taken = column_taken u (suc t) m owners k

      swept_value : (i j : ℕ) → i < 256 → j < 256 → entry taken.0 i j ≡ (swept_byte i j).0
      unfolding column_taken swept swept_entry swept_byte
      swept_value i j li lj = let row : (i * 256 + j) / 256 ≡ i = omega arith in
          let column : (i * 256 + j) % 256 ≡ j = omega arith in
          list_below_at 65536 _ (i * 256 + j) (omega arith)
          ∙ ap₂ (swept_entry (λ j. bit_xor (row_product u m j) (cond (eqb k j) 1 0)) k (inverse (row_product u m k)) m) row column
          ∙ sym (ap₂ bit_xor (value i j li lj)
          (ap₂ product (ap₂ (λ (x z : ℕ). product (inverse x) z) (product_value k lk) (value i k li lk))
          (ap₂ bit_xor (product_value j lj) (δ-value k j))))

      independent_reduced : ReducedBytes A taken.0 taken.1 (suc t)
      unfolding column_taken times_m swept_byte
      independent_reduced = record {
        bytes = λ i j li lj. subst (λ (x : ℕ). x < 256) (sym (swept_value i j li lj)) (swept_byte i j).1;
        owners_length = length-set owners k (suc t) ∙ R.owners_length;
        reduced = reduced_independent byte_field A 256 (entries m) (owner_of owners) t R.reduced k lk (P.found lk).0
            (λ z. (P.found lk).1 (sym (product_value k lk) ∙ ap (λ (b : Byte). b.0) z))
            (entries taken.0) (owner_of taken.1)
            (λ i j li lj. ap to_byte (swept_value i j li lj) ∙ to_byte_of_value (swept_byte i j))
            (get_or-set_same owners k (suc t) 0 (let b = R.owners_length in omega arith))
            (λ j l q. get_or-set_other owners k j (suc t) 0 q);
      }

    dependent_reduced : IsPivot 256 (row_product u m) owners 256 → ReducedBytes A m owners (suc t)
    unfolding times_m
    dependent_reduced P = record {
      bytes = R.bytes;
      owners_length = R.owners_length;
      reduced = reduced_dependent byte_field A 256 (entries m) (owner_of owners) t R.reduced
          (λ j l h. byte_eq (times_m j) byte_field.𝟘 (product_value j l ∙ P.before j l h));
    }

    pub add_reduced : ReducedPair A (row_added u (suc t) m owners) (suc t)
    add_reduced = elim (dec_lt k 256) [
      | yes l ↦ subst after (sym (row-taken u (suc t) m owners l)) (independent_reduced k l P)
      | no q ↦
          let b = P.within in
          subst after (sym (row_left u (suc t) m owners (omega arith)))
          (dependent_reduced (subst (IsPivot 256 (row_product u m) owners) (omega arith) P))
    ]
      where
        k : ℕ
        k = pivot_of (row_product u m) owners

        P : IsPivot 256 (row_product u m) owners k
        P = subst (IsPivot 256 (row_product u m) owners) (sym (pivot_whole (row_product u m) owners)) (pivot_is 256 (row_product u m) owners)

        after : List ℕ × List ℕ → Type 0
        after s = ReducedPair A s (suc t)

  -- ---- the answers

  abbrev weights : ℕ → ℕ → Byte
  weights f s = row_weight byte_field 256 (owner_of owners) (entries m f) s

  -- the weights that `weights` gives
  pub weight_value : (f s : ℕ) → f < 256 → weight_of m owners f (suc s) ≡ (weights f s).0
  unfolding weight_of row_weight δ
  weight_value f s l =
      sym (sum_value 256 (λ k. byte_field.mul (δ byte_field (owner_of owners k) (suc s)) (entries m f k))
      ∙ sum_below-same 256 (λ k. (byte_field.mul (δ byte_field (owner_of owners k) (suc s)) (entries m f k)).0)
      (λ k. cond (eqb (owner_of owners k) (suc s)) (entry m f k) 0)
      (λ k b. picked (eqb (owner_of owners k) (suc s)) k b))
    where
      picked : (b : Bool) (k : ℕ) → k < 256
          → (byte_field.mul (cond b byte_field.𝟙 byte_field.𝟘) (entries m f k)).0 ≡ cond b (entry m f k) 0
      picked true k h = ap (λ (x : Byte). x.0) (byte_field.one-mul (entries m f k)) ∙ value f k l h
      picked false k h = ap (λ (x : Byte). x.0) (S.zero-mul byte_field (entries m f k))

  pub weight_late : (f s : ℕ) → t ≤ s → weight_of m owners f (suc s) ≡ 0
  unfolding weight_of
  weight_late f s l =
      sum_below-same 256 (λ k. cond (eqb (owner_of owners k) (suc s)) (entry m f k) 0) (λ k. 0)
      (λ k b.
      ap (λ (c : Bool). cond c (entry m f k) 0)
      (ne_eqb (owner_of owners k) (suc s) (λ e. let h = R.reduced.earlier k s b e in omega arith)))
      ∙ sum_below-none 256

  pub weight_none : (f : ℕ) → is_solvable m owners f ≡ true → weight_of m owners f 0 ≡ 0
  unfolding weight_of
  weight_none f h =
      sum_below-same 256 (λ k. cond (eqb (owner_of owners k) 0) (entry m f k) 0) (λ k. 0)
      (λ k b.
      elim (ℕ_discrete (owner_of owners k) 0) [
        | yes e ↦ ap (λ (c : Bool). cond c (entry m f k) 0) (eq-eqb (owner_of owners k) 0 e) ∙ (pivot_none m owners f h).before k b e
        | no q ↦ ap (λ (c : Bool). cond c (entry m f k) 0) (ne_eqb (owner_of owners k) 0 q)
      ])
      ∙ sum_below-none 256

  pub solvable_solution : (f : ℕ) → f < 256 → is_solvable m owners f ≡ true → IsSolution byte_field A 256 t f (weights f)
  solvable_solution f l h =
      solution byte_field A 256 (entries m) (owner_of owners) t R.reduced f l
      (λ j b o. byte_eq (entries m f j) byte_field.𝟘 (value f j l b ∙ (pivot_none m owners f h).before j b o))

  pub unsolvable_kernel : (f : ℕ) → f < 256 → is_solvable m owners f ≡ false
      → (x : ℕ → Byte) × IsKernelVector byte_field A 256 t f x
  unsolvable_kernel f l h =
      let (k, b, P) = pivot_some m owners f h in (
        λ i. entries m i k,
        kernel_vector byte_field A 256 (entries m) (owner_of owners) t R.reduced f k b (P.found b).0
            (λ z. (P.found b).1 (sym (value f k l b) ∙ ap (λ (x : Byte). x.0) z)),
      )
