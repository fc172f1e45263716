-- What the elimination decides: whether weights of the rows sum them to 1 in one column and 0 in the others.
--
--   search               whether a number below a bound has a decidable property
--   by_columns           a sum over rows and columns, taken by columns or by rows
--   solution             where row f of D is 0 in each column with no owner, it gives the weights
--   weights_unique, solution_unique     there is one choice of weights at most
--   kernel_vector        where it is not 0 in such a column, that column of D is a kernel vector
--   solution_zero        with weights, a vector at which each row is 0 is 0 at f
--   solution_no_kernel   there are never both weights and a kernel vector
--   pivot                a column with no owner where a row is not 0, or none
--   Elimination A n t    D and owners for the first t rows of A
--   eliminate            D and owners exist, for any rows
--   dependent_dec        whether a row is a sum of multiples of those before it
--   decide               there are weights, or a kernel vector
-- Assumes nothing.
use mathlib.Core.Path.{◌≡◌, refl, sym, ap, ◌∙◌, subst}
use mathlib.Core.Logic.{◌≢◌, ◌⊎◌, inl, inr}
use mathlib.Core.Bool.{Bool, cond}
use Prim.Native.Nat.{ℕ, zero, suc, ◌<◌}
use native.Mathlib.Nat.{not-suc-le-zero, suc_inj}
use native.Mathlib.Omega.{arith}
use native.Mathlib.Decide.{ℕ_discrete}
use lib.Dec.{eqb}
use borrow.Author.Tests.{eq-eqb, ne_eqb}
use Rattle.elimination.specs.Field.{Field, sum, δ}
use Rattle.elimination.specs.Matrix.{Dependent, IsSolution, IsKernelVector}
use Rattle.elimination.proofs.Sums as S
use Rattle.elimination.proofs.ByColumns as E
use Rattle.elimination.proofs.ByColumns.{row_times, Reduced, row_weight}

-- a number below n with a decided property, or none
pub search : (P : ℕ → Type 0) → ((k : ℕ) → Dec (P k)) → (n : ℕ)
    → ((k : ℕ) × (k < n) × P k) ⊎ ((k : ℕ) → k < n → ¬ P k)
search P dec zero = inr (λ k l. absurd (not-suc-le-zero l))
search P dec (suc n) = step (search P dec n) (dec n)
  where
    step : ((k : ℕ) × (k < n) × P k) ⊎ ((k : ℕ) → k < n → ¬ P k) → Dec (P n)
        → ((k : ℕ) × (k < suc n) × P k) ⊎ ((k : ℕ) → k < suc n → ¬ P k)
    step (inl (k, l, h)) d = inl (k, omega arith, h)
    step (inr none) (yes h) = inl (n, omega arith, h)
    step (inr none) (no h) = inr (λ k l e. elim (ℕ_discrete k n) [
      | yes z ↦ h (subst P z e)
      | no z ↦ none k (omega arith) e
    ])

module _ {F : Type 0} (K : Field F) where
  open K use {𝟘, 𝟙, add as ◌⊕◌, mul as ◌⊗◌, inv, one-mul, one_ne_zero}

  infixl 60 ◌⊕◌
  infixl 70 ◌⊗◌
  module _ (A : ℕ → ℕ → F) (n : ℕ) (D : ℕ → ℕ → F) (owner : ℕ → ℕ) (t : ℕ) (R : Reduced K A n D owner t) where
    abbrev times_d : (ℕ → F) → ℕ → F
    times_d u j = row_times K n u D j

    abbrev Owns : ℕ → Type 0
    Owns s = ((k : ℕ) × (k < n) × (owner k ≡ suc s)) ⊎ ((k : ℕ) → k < n → owner k ≢ suc s)

    owns : (s : ℕ) → Owns s
    owns s = search (λ k. owner k ≡ suc s) (λ k. ℕ_discrete (owner k) (suc s)) n

    -- a row that owns no column has no weight
    weight_none : (y : ℕ → F) (s : ℕ) → ((k : ℕ) → k < n → owner k ≢ suc s) → row_weight K n owner y s ≡ 𝟘
    unfolding row_weight
    weight_none y s h =
        S.sum-none K n (λ k. δ K (owner k) (suc s) ⊗ y k)
        (λ k l. ap (λ (x : F). x ⊗ y k) (S.δ-other K (owner k) (suc s) (h k l)) ∙ S.zero-mul K (y k))

    weight_dependent : (y : ℕ → F) (s : ℕ) → Dependent K A n s → row_weight K n owner y s ≡ 𝟘
    weight_dependent y s d = go (owns s)
      where
        go : Owns s → row_weight K n owner y s ≡ 𝟘
        go (inl (k, l, e)) = absurd (R.independent k s l e d)
        go (inr none) = weight_none y s none

    -- the unit row f times D is row f of D
    unit_row : (f j : ℕ) → f < n → times_d (δ K f) j ≡ D f j
    unfolding row_times
    unit_row f j l = S.sum-δ K n f (λ i. D i j) l

    pub solution : (f : ℕ) → f < n → ((j : ℕ) → j < n → owner j ≡ zero → D f j ≡ 𝟘)
        → IsSolution K A n t f (row_weight K n owner (D f))
    unfolding row_weight
    solution f l h = record {
      sums = λ g m.
          S.sum_cong K t (λ s. row_weight K n owner (D f) s ⊗ A s g) (λ s. row_weight K n owner (times_d (δ K f)) s ⊗ A s g)
          (λ s b. ap (λ (x : F). x ⊗ A s g) (by_row s))
          ∙ sym (E.solve K A n D owner t R (δ K f) (λ j b o. unit_row f j l ∙ h j b o) g m);
      unused = λ s b d. weight_dependent (D f) s d;
    }
      where
        by_row : (s : ℕ) → row_weight K n owner (D f) s ≡ row_weight K n owner (times_d (δ K f)) s
        by_row s =
            S.sum_cong K n (λ k. δ K (owner k) (suc s) ⊗ D f k) (λ k. δ K (owner k) (suc s) ⊗ times_d (δ K f) k)
            (λ k b. ap (λ (x : F). δ K (owner k) (suc s) ⊗ x) (sym (unit_row f k l)))

    pub kernel_vector : (f j : ℕ) → j < n → owner j ≡ zero → D f j ≢ 𝟘 → IsKernelVector K A n t f (λ i. D i j)
    unfolding row_times
    kernel_vector f j l o h = record { rows = λ s b. R.free s j b l o; asked = h }

    -- ---- the weights are the only ones

    -- the weight of an owner is what stands in its column
    weight_in_column : (u w : ℕ → F) → ((s : ℕ) → s < t → Dependent K A n s → w s ≡ 𝟘)
        → ((f : ℕ) → f < n → u f ≡ sum K t (λ s. w s ⊗ A s f))
        → (s k : ℕ) → s < t → k < n → owner k ≡ suc s → w s ≡ times_d u k
    weight_in_column u w z e s k l m p =
        sym (E.row_times_cong K n u (λ f. sum K t (λ r. w r ⊗ A r f)) D k e ∙ E.row_times_sum K n t w A D k
        ∙ S.sum_one K t s (λ r. w r ⊗ times_d (A r) k) l (λ r h q. off r h q (owns r))
        ∙ ap (λ (x : F). w s ⊗ x) (R.owned k s m p k m ∙ S.δ-same K k k refl) ∙ S.mul_one K (w s))
      where
        off : (r : ℕ) → r < t → r ≢ s → Owns r → w r ⊗ times_d (A r) k ≡ 𝟘
        off r h q (inl (i, a, b)) = simp (R.owned i r a b k m, S.δ-other K i k (λ c. q (suc_inj (sym b ∙ ap owner c ∙ p))), S.mul-zero)
        off r h q (inr none) = ap (λ (x : F). x ⊗ times_d (A r) k) (z r h (R.dependent r h none)) ∙ S.zero-mul K (times_d (A r) k)

    -- two choices of weights with the same sums, with no weight for rows that are sums of earlier ones, are the same
    pub weights_unique : (u w w' : ℕ → F) → ((s : ℕ) → s < t → Dependent K A n s → w s ≡ 𝟘)
        → ((s : ℕ) → s < t → Dependent K A n s → w' s ≡ 𝟘) → ((f : ℕ) → f < n → u f ≡ sum K t (λ s. w s ⊗ A s f))
        → ((f : ℕ) → f < n → u f ≡ sum K t (λ s. w' s ⊗ A s f)) → (s : ℕ) → s < t → w s ≡ w' s
    weights_unique u w w' z z' e e' s l = go (owns s)
      where
        go : Owns s → w s ≡ w' s
        go (inl (k, m, p)) = weight_in_column u w z e s k l m p ∙ sym (weight_in_column u w' z' e' s k l m p)
        go (inr none) = let d = R.dependent s l none in z s l d ∙ sym (z' s l d)

    pub solution_unique : (f : ℕ) (w w' : ℕ → F) → IsSolution K A n t f w → IsSolution K A n t f w'
        → (s : ℕ) → s < t → w s ≡ w' s
    solution_unique f w w' W W' =
        weights_unique (δ K f) w w' W.unused W'.unused (λ g b. sym (W.sums g b)) (λ g b. sym (W'.sums g b))

  -- ---- weights or a kernel vector, and not both

  -- row by row and column by column a weighted sum is the same
  pub by_columns : (A : ℕ → ℕ → F) (n t : ℕ) (w x : ℕ → F)
      → sum K n (λ g. sum K t (λ s. w s ⊗ A s g) ⊗ x g) ≡ sum K t (λ s. w s ⊗ sum K n (λ g. A s g ⊗ x g))
  unfolding row_times
  by_columns A n t w x = E.row_times_sum K n t w A (λ i j. x i) zero

  pub solution_zero : (A : ℕ → ℕ → F) (n t f : ℕ) (w x : ℕ → F) → f < n → IsSolution K A n t f w
      → ((s : ℕ) → s < t → sum K n (λ i. A s i ⊗ x i) ≡ 𝟘) → x f ≡ 𝟘
  solution_zero A n t f w x l W h =
      sym (S.sum-δ K n f x l)
      ∙ S.sum_cong K n (λ g. δ K f g ⊗ x g) (λ g. sum K t (λ s. w s ⊗ A s g) ⊗ x g)
      (λ g m. ap (λ (y : F). y ⊗ x g) (sym (W.sums g m)))
      ∙ by_columns A n t w x
      ∙ S.sum-none K t (λ s. w s ⊗ sum K n (λ g. A s g ⊗ x g))
      (λ s m. ap (λ (y : F). w s ⊗ y) (h s m) ∙ S.mul-zero K (w s))

  pub solution_no_kernel : (A : ℕ → ℕ → F) (n t f : ℕ) (w x : ℕ → F) → f < n
      → IsSolution K A n t f w → IsKernelVector K A n t f x → ⊥
  solution_no_kernel A n t f w x l W X = X.asked (solution_zero A n t f w x l W X.rows)

  -- ---- D and the owners exist

  module _ (dec : (a : F) → Dec (a ≡ 𝟘)) where
    -- a column with no owner in which y is not 0, or none
    pub pivot : (n : ℕ) (y : ℕ → F) (owner : ℕ → ℕ)
        → ((k : ℕ) × (k < n) × (owner k ≡ zero) × (y k ≢ 𝟘)) ⊎ ((j : ℕ) → j < n → owner j ≡ zero → y j ≡ 𝟘)
    pivot n y owner = go (search (λ k. (owner k ≡ zero) × (y k ≢ 𝟘)) found n)
      where
        found : (k : ℕ) → Dec ((owner k ≡ zero) × (y k ≢ 𝟘))
        found k = elim (ℕ_discrete (owner k) zero) [
          | yes o ↦ elim (dec (y k)) [ yes z ↦ no (λ h. h.1 z) | no z ↦ yes (o, z) ]
          | no o ↦ no (λ h. o h.0)
        ]

        go : ((k : ℕ) × (k < n) × ((owner k ≡ zero) × (y k ≢ 𝟘))) ⊎ ((k : ℕ) → k < n → ¬ ((owner k ≡ zero) × (y k ≢ 𝟘)))
            → ((k : ℕ) × (k < n) × (owner k ≡ zero) × (y k ≢ 𝟘)) ⊎ ((j : ℕ) → j < n → owner j ≡ zero → y j ≡ 𝟘)
        go (inl (k, l, h)) = inl (k, l, h.0, h.1)
        go (inr none) = inr (λ j l o. elim (dec (y j)) [ yes z ↦ z | no z ↦ absurd (none j l (o, z)) ])

    abbrev pub Elimination : (ℕ → ℕ → F) → ℕ → ℕ → Type 0
    Elimination A n t = (D : ℕ → ℕ → F) × (owner : ℕ → ℕ) × Reduced K A n D owner t

    pub eliminate : (A : ℕ → ℕ → F) (n t : ℕ) → Elimination A n t
    eliminate A n zero = (δ K, λ j. zero, E.reduced_start K A n (δ K) (λ j. zero) (λ i j l m. refl) (λ j l. refl))
    eliminate A n (suc t) = go (eliminate A n t)
      where
        go : Elimination A n t → Elimination A n (suc t)
        go (D, owner, R) = next (pivot n y owner)
          where
            y : ℕ → F
            y j = row_times K n (A t) D j

            next : ((k : ℕ) × (k < n) × (owner k ≡ zero) × (y k ≢ 𝟘)) ⊎ ((j : ℕ) → j < n → owner j ≡ zero → y j ≡ 𝟘)
                → Elimination A n (suc t)
            next (inr h) = (D, owner, E.reduced_dependent K A n D owner t R h)
            next (inl (k, l, o, h)) = (
              D',
              owner',
              E.reduced_independent K A n D owner t R k l o h D' owner' (λ i j a b. refl)
                  (ap (λ (b : Bool). cond b (suc t) (owner k)) (eq-eqb k k refl))
                  (λ j a q. ap (λ (b : Bool). cond b (suc t) (owner j)) (ne_eqb j k q)),
            )
              where
                D' : ℕ → ℕ → F
                D' i j = D i j ⊕ inv (y k) ⊗ D i k ⊗ (y j ⊕ δ K k j)

                owner' : ℕ → ℕ
                owner' j = cond (eqb j k) (suc t) (owner j)

    -- whether a row is a sum of multiples of those before it
    pub dependent_dec : (A : ℕ → ℕ → F) (n s : ℕ) → Dec (Dependent K A n s)
    dependent_dec A n s = go (eliminate A n (suc s))
      where
        go : Elimination A n (suc s) → Dec (Dependent K A n s)
        go (D, owner, R) = by (search (λ k. owner k ≡ suc s) (λ k. ℕ_discrete (owner k) (suc s)) n)
          where
            by : ((k : ℕ) × (k < n) × (owner k ≡ suc s)) ⊎ ((k : ℕ) → k < n → owner k ≢ suc s) → Dec (Dependent K A n s)
            by (inl (k, l, e)) = no (R.independent k s l e)
            by (inr none) = yes (R.dependent s (omega arith) none)

    pub decide : (A : ℕ → ℕ → F) (n t f : ℕ) → f < n
        → ((w : ℕ → F) × IsSolution K A n t f w) ⊎ ((x : ℕ → F) × IsKernelVector K A n t f x)
    decide A n t f l = go (eliminate A n t)
      where
        go : Elimination A n t → ((w : ℕ → F) × IsSolution K A n t f w) ⊎ ((x : ℕ → F) × IsKernelVector K A n t f x)
        go (D, owner, R) = by (pivot n (D f) owner)
          where
            by : ((k : ℕ) × (k < n) × (owner k ≡ zero) × (D f k ≢ 𝟘)) ⊎ ((j : ℕ) → j < n → owner j ≡ zero → D f j ≡ 𝟘)
                → ((w : ℕ → F) × IsSolution K A n t f w) ⊎ ((x : ℕ → F) × IsKernelVector K A n t f x)
            by (inl (k, b, o, h)) = inr (λ i. D i k, kernel_vector A n D owner t R f k b o h)
            by (inr h) = inl (row_weight K n owner (D f), solution A n D owner t R f l h)
