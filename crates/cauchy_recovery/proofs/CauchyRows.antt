-- Rows of inverses of sums, 1 / (X i + Y s), over any field of characteristic two: with no more columns than rows, a vector at which each
-- row is 0 is 0.
--
--   Apart X Y b r     the numbers X of the columns b differ, so do the numbers Y of the rows r, and each of those from each of these
--   apart_turned, apart_fewer     the same with columns and rows exchanged, and without a column
--   entry X Y s i     the entry of row s in column i
--   no_kernel         the vector is 0
-- The proof takes a row and a column away at a time: with x i times (X a + X i) / (X i + Y p) for x i, column a has no part in the sums any
-- more, and row q is 0 still, for (X a + X i) (Y p + Y q) is (X a + Y q) (X i + Y p) + (X a + Y p) (X i + Y q).
-- Assumes nothing.
use mathlib.Core.Path.{◌≡◌, refl, sym, ap, ap₂, ◌∙◌}
use mathlib.Core.Logic.{◌≢◌, ◌⊎◌, inl, inr}
use mathlib.Core.Bool.{Bool, true, false, not, ◌&&◌, Bool-discrete, not-eq-not}
use Prim.Native.Nat.{ℕ, zero, suc, ◌<◌, ◌≤◌}
use native.Mathlib.Omega.{arith}
use native.Mathlib.Decide.{ℕ_discrete}
use borrow.Author.Tests.{ne_eqb}
use Rattle.number_sets.specs.Sets.{size_below}
use Rattle.elimination.specs.Field.{Field, sum}
use Rattle.elimination.proofs.Sums as S
use Rattle.elimination.proofs.Solutions.{search}
use Rattle.inventory.specs.Model.{remove}
use Rattle.inventory.proofs.ModelSets.{remove_inside}
use Rattle.inventory.proofs.Sizes.{counts_one, counts-none, size_remove}

module _ {F : Type 0} (K : Field F) where
  open K use {𝟘, 𝟙, add as ◌⊕◌, mul as ◌⊗◌, inv, add_comm, add_assoc, zero-add, add_self, mul_comm, mul_assoc, one-mul, mul_add_lem, inv_mul}

  infixl 60 ◌⊕◌
  infixl 70 ◌⊗◌
  pub record Apart (X Y : ℕ → F) (b r : ℕ → Bool) : Type 0 where
    pub columns : (i j : ℕ) → b i ≡ true → b j ≡ true → i ≢ j → X i ≢ X j
    pub rows : (s q : ℕ) → r s ≡ true → r q ≡ true → s ≢ q → Y s ≢ Y q
    pub both : (i s : ℕ) → b i ≡ true → r s ≡ true → X i ≢ Y s

  pub apart_turned : (X Y : ℕ → F) (b r : ℕ → Bool) → Apart X Y b r → Apart Y X r b
  apart_turned X Y b r h = record { columns = h.rows; rows = h.columns; both = λ s i p q e. h.both i s q p (sym e) }

  pub apart_fewer : (X Y : ℕ → F) (b r : ℕ → Bool) (a : ℕ) → Apart X Y b r → Apart X Y (remove a b) r
  apart_fewer X Y b r a h = record {
    columns = λ i j p q. h.columns i j (remove_inside b a i p) (remove_inside b a j q);
    rows = h.rows;
    both = λ i s p. h.both i s (remove_inside b a i p);
  }

  -- ---- one term

  add_left_comm : (a b c : F) → a ⊕ (b ⊕ c) ≡ b ⊕ (a ⊕ c)
  add_left_comm a b c = sym (add_assoc a b c) ∙ ap (λ (x : F). x ⊕ c) (add_comm a b) ∙ add_assoc b a c

  cross : (a b p q : F) → (a ⊕ b) ⊗ (p ⊕ q) ≡ (a ⊕ q) ⊗ (b ⊕ p) ⊕ (a ⊕ p) ⊗ (b ⊕ q)
  cross a b p q = simp (mul_add_lem, S.add_mul K, add_assoc, add_comm, add_left_comm, add_self, S.add_twice K, zero-add, mul_comm)

  ne_zero : (a b : F) → a ≢ b → a ⊕ b ≢ 𝟘
  ne_zero a b h e = h (S.eq_of_sum K a b e)

  mul_ne_zero : (a b : F) → a ≢ 𝟘 → b ≢ 𝟘 → a ⊗ b ≢ 𝟘
  mul_ne_zero a b ha hb e = hb (S.zero_of_mul K a b ha e)

  -- u and z are the entries of rows p and q, G and H their inverses
  term : (x C E A B G H u z : F) → C ⊗ E ≡ A ⊗ G ⊕ B ⊗ H → u ⊗ G ≡ 𝟙 → z ⊗ H ≡ 𝟙
      → E ⊗ (x ⊗ (C ⊗ u) ⊗ z) ≡ A ⊗ (x ⊗ z) ⊕ B ⊗ (x ⊗ u)
  term x C E A B G H u z e hu hz = simp (grouped, e, mul_add_lem, first, hu, one-mul, second, hz)
    where
      grouped : E ⊗ (x ⊗ (C ⊗ u) ⊗ z) ≡ x ⊗ (u ⊗ z) ⊗ (C ⊗ E)
      grouped = simp (mul_assoc, mul_comm, S.mul_left_comm K)

      first : x ⊗ (u ⊗ z) ⊗ (A ⊗ G) ≡ u ⊗ G ⊗ (A ⊗ (x ⊗ z))
      first = simp (mul_assoc, mul_comm, S.mul_left_comm K)

      second : x ⊗ (u ⊗ z) ⊗ (B ⊗ H) ≡ z ⊗ H ⊗ (B ⊗ (x ⊗ u))
      second = simp (mul_assoc, mul_comm, S.mul_left_comm K)

  -- where x is 0, nothing is left of it
  no_term : (x C E A B u z : F) → x ≡ 𝟘 → E ⊗ (x ⊗ (C ⊗ u) ⊗ z) ≡ A ⊗ (x ⊗ z) ⊕ B ⊗ (x ⊗ u)
  no_term x C E A B u z e = rw e (simp (S.zero-mul K, S.mul-zero K, zero-add))

  module _ (X Y : ℕ → F) where
    -- the entry of row s in column i
    abbrev pub entry : ℕ → ℕ → F
    entry s i = inv (X i ⊕ Y s)

    module _ (n : ℕ) (r : ℕ → Bool) where
      abbrev RowZero : (ℕ → F) → ℕ → Type 0
      RowZero x s = sum K n (λ i. x i ⊗ entry s i) ≡ 𝟘

      -- ---- column a taken away by row p

      module _ (b : ℕ → Bool) (h : Apart X Y b r) (x : ℕ → F) (off : (i : ℕ) → b i ≡ false → x i ≡ 𝟘) (p : ℕ) (in_p : r p ≡ true)
          (zero-p : RowZero x p) (a : ℕ) (l : a < n) (in-a : b a ≡ true) where
        without : ℕ → F
        without i = x i ⊗ ((X a ⊕ X i) ⊗ entry p i)

        without_off : (i : ℕ) → remove a b i ≡ false → without i ≡ 𝟘
        unfolding without
        without_off i e = elim (ℕ_discrete i a) [
          | yes q ↦
              ap (λ (y : F). x i ⊗ (y ⊗ entry p i)) (S.sum_of_eq K (X a) (X i) (ap X (sym q)))
              ∙ simp (S.zero-mul K, S.mul-zero K)
          | no q ↦
              ap (λ (y : F). y ⊗ ((X a ⊕ X i) ⊗ entry p i))
              (off i (sym (ap (λ (c : Bool). not c && b i) (ne_eqb i a q)) ∙ e))
              ∙ S.zero-mul K ((X a ⊕ X i) ⊗ entry p i)
        ]

        each : (q : ℕ) → r q ≡ true → (i : ℕ)
            → (Y p ⊕ Y q) ⊗ (without i ⊗ entry q i) ≡ (X a ⊕ Y q) ⊗ (x i ⊗ entry q i) ⊕ (X a ⊕ Y p) ⊗ (x i ⊗ entry p i)
        unfolding without
        each q in-q i = go (b i) refl
          where
            go : (c : Bool) → b i ≡ c
                → (Y p ⊕ Y q) ⊗ (without i ⊗ entry q i) ≡ (X a ⊕ Y q) ⊗ (x i ⊗ entry q i) ⊕ (X a ⊕ Y p) ⊗ (x i ⊗ entry p i)
            go true e =
                term (x i) (X a ⊕ X i) (Y p ⊕ Y q) (X a ⊕ Y q) (X a ⊕ Y p) (X i ⊕ Y p) (X i ⊕ Y q) (entry p i) (entry q i)
                (cross (X a) (X i) (Y p) (Y q)) (inv_mul (X i ⊕ Y p) (ne_zero (X i) (Y p) (h.both i p e in_p)))
                (inv_mul (X i ⊕ Y q) (ne_zero (X i) (Y q) (h.both i q e in-q)))
            go false e = no_term (x i) (X a ⊕ X i) (Y p ⊕ Y q) (X a ⊕ Y q) (X a ⊕ Y p) (entry p i) (entry q i) (off i e)

        without_rows : (q : ℕ) → r q ≡ true → p ≢ q → RowZero x q → RowZero without q
        without_rows q in-q other zero-q =
            S.zero_of_mul K (Y p ⊕ Y q) (sum K n (λ i. without i ⊗ entry q i)) (ne_zero (Y p) (Y q) (h.rows p q in_p in-q other))
            (sym (S.sum_mul K n (Y p ⊕ Y q) (λ i. without i ⊗ entry q i))
            ∙ S.sum_cong K n (λ i. (Y p ⊕ Y q) ⊗ (without i ⊗ entry q i))
            (λ i. (X a ⊕ Y q) ⊗ (x i ⊗ entry q i) ⊕ (X a ⊕ Y p) ⊗ (x i ⊗ entry p i)) (λ i l. each q in-q i)
            ∙ S.sum_add K n (λ i. (X a ⊕ Y q) ⊗ (x i ⊗ entry q i)) (λ i. (X a ⊕ Y p) ⊗ (x i ⊗ entry p i))
            ∙ ap₂ ◌⊕◌ (part (X a ⊕ Y q) q zero-q) (part (X a ⊕ Y p) p zero-p) ∙ zero-add 𝟘)
          where
            part : (c : F) (s : ℕ) → RowZero x s → sum K n (λ i. c ⊗ (x i ⊗ entry s i)) ≡ 𝟘
            part c s z = S.sum_mul K n c (λ i. x i ⊗ entry s i) ∙ ap (λ (y : F). c ⊗ y) z ∙ S.mul-zero K c

        -- the vector is 0 where what is left of it is
        others : ((i : ℕ) → i < n → without i ≡ 𝟘) → (i : ℕ) → i < n → i ≢ a → x i ≡ 𝟘
        unfolding without
        others z i m q = go (b i) refl
          where
            go : (c : Bool) → b i ≡ c → x i ≡ 𝟘
            go true e =
                S.zero_of_mul K ((X a ⊕ X i) ⊗ entry p i) (x i)
                (mul_ne_zero (X a ⊕ X i) (entry p i) (ne_zero (X a) (X i) (h.columns a i in-a e (λ w. q (sym w))))
                (S.inv_ne_zero K (X i ⊕ Y p) (ne_zero (X i) (Y p) (h.both i p e in_p))))
                (mul_comm ((X a ⊕ X i) ⊗ entry p i) (x i) ∙ z i m)
            go false e = off i e

        here : ((i : ℕ) → i < n → without i ≡ 𝟘) → x a ≡ 𝟘
        here z =
            S.zero_of_mul K (entry p a) (x a) (S.inv_ne_zero K (X a ⊕ Y p) (ne_zero (X a) (Y p) (h.both a p in-a in_p)))
            (mul_comm (entry p a) (x a)
            ∙ sym (S.sum_one K n a (λ i. x i ⊗ entry p i) l
            (λ i m q. ap (λ (y : F). y ⊗ entry p i) (others z i m q) ∙ S.zero-mul K (entry p i)))
            ∙ zero-p)

        all : ((i : ℕ) → i < n → without i ≡ 𝟘) → (i : ℕ) → i < n → x i ≡ 𝟘
        all z i m = elim (ℕ_discrete i a) [ yes q ↦ ap x q ∙ here z | no q ↦ others z i m q ]

      -- ---- every column

      abbrev NoKernel : ℕ → Type 0
      NoKernel m =
          (b : ℕ → Bool) → Apart X Y b r → size_below n b ≤ size_below m r → (x : ℕ → F) → ((i : ℕ) → b i ≡ false → x i ≡ 𝟘)
          → ((s : ℕ) → s < m → r s ≡ true → RowZero x s) → (i : ℕ) → i < n → x i ≡ 𝟘

      no_kernel_start : NoKernel zero
      unfolding size_below
      no_kernel_start b h few x off rows i l = go (search (λ k. b k ≡ true) (λ k. Bool-discrete (b k) true) n)
        where
          go : ((k : ℕ) × (k < n) × (b k ≡ true)) ⊎ ((k : ℕ) → k < n → ¬ (b k ≡ true)) → x i ≡ 𝟘
          go (inl (k, m, e)) = let s = size_remove n b k m e in absurd (omega arith)
          go (inr none) = off i (not-eq-not.0 (none i l))

      no_kernel_more : (m : ℕ) → NoKernel m → NoKernel (suc m)
      unfolding size_below
      no_kernel_more m earlier b h few x off rows i l = by (r m) refl
        where
          by : (c : Bool) → r m ≡ c → x i ≡ 𝟘
          by false e = let same = counts-none (r m) e in earlier b h (omega arith) x off (λ s k. rows s (omega arith)) i l
          by true e = go (search (λ k. b k ≡ true) (λ k. Bool-discrete (b k) true) n)
            where
              zero_m : RowZero x m
              zero_m = rows m (omega arith) e

              go : ((k : ℕ) × (k < n) × (b k ≡ true)) ⊎ ((k : ℕ) → k < n → ¬ (b k ≡ true)) → x i ≡ 𝟘
              go (inr none) = off i (not-eq-not.0 (none i l))
              go (inl (a, k, in-a)) = let same = counts_one (r m) e in
                  let less = size_remove n b a k in-a in
                  all b h x off m e zero_m a k in-a
                  (earlier (remove a b) (apart_fewer X Y b r a h) (omega arith) (without b h x off m e zero_m a k in-a)
                  (without_off b h x off m e zero_m a k in-a)
                  (λ s j q. without_rows b h x off m e zero_m a k in-a s q (λ w. omega arith) (rows s (omega arith) q)))
                  i l

      pub no_kernel : (m : ℕ) → NoKernel m
      no_kernel zero = no_kernel_start
      no_kernel (suc m) = no_kernel_more m (no_kernel m)
