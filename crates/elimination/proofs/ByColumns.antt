-- Elimination by columns. The rows of A are taken one by one. A square matrix D is kept, the identity at first, and each
-- column has an owner: 0, or s + 1 for row s, which was found to be no sum of multiples of the rows before it.
--
--   row_times K n u D j         entry j of the row u, of n entries, times the matrix D
--   Reduced K A n D owner t    D and the owners after the first t rows of A, of n entries each
--   row_weight n owner y s      the weight of row s in the row that times D is y: the entries of y in its columns, added
--   row_times_add, row_times_sum, row_times_cong     a row times D is linear in the row
--   reduced_start              no row
--   reduced_dependent          one row more, that times D is 0 in each column with no owner: nothing changes
--   reduced_independent        one row more, that takes the column k with no owner, where it times D is not 0
--   solve                      a row that times D is 0 in each column with no owner is a sum of multiples of rows of A
-- Assumes nothing.
use mathlib.Core.Path.{◌≡◌, refl, sym, ap, ◌∙◌, subst}
use mathlib.Core.Logic.{◌≢◌}
use Prim.Native.Nat.{ℕ, zero, suc, ◌<◌}
use native.Mathlib.Nat.{not-suc-le-zero, suc-ne-zero, suc_inj}
use native.Mathlib.Omega.{arith}
use native.Mathlib.Decide.{ℕ_discrete}
use Rattle.elimination.specs.Field.{Field, sum, δ}
use Rattle.elimination.specs.Matrix.{Dependent}
use Rattle.elimination.proofs.Sums as S

module _ {F : Type 0} (K : Field F) where
  unfoldable pub row_times : ℕ → (ℕ → F) → (ℕ → ℕ → F) → ℕ → F
  row_times n u D j = sum K n (λ i. K.mul (u i) (D i j))

module _ {F : Type 0} (K : Field F) where
  open K use {𝟘, 𝟙, add as ◌⊕◌, mul as ◌⊗◌, inv, add_self, zero-add, mul_assoc, mul_add_lem, inv_mul, one-mul}

  infixl 60 ◌⊕◌
  infixl 70 ◌⊗◌
  -- the weight of row s, where column k has weight y k: that of its column
  unfoldable pub row_weight : ℕ → (ℕ → ℕ) → (ℕ → F) → ℕ → F
  row_weight n owner y s = sum K n (λ k. δ K (owner k) (suc s) ⊗ y k)

  pub record Reduced (A : ℕ → ℕ → F) (n : ℕ) (D : ℕ → ℕ → F) (owner : ℕ → ℕ) (t : ℕ) : Type 0 where
    -- an owner is 1 in its own column and 0 in the others; each row taken is 0 where there is no owner
    pub owned : (k s : ℕ) → k < n → owner k ≡ suc s → (j : ℕ) → j < n → row_times K n (A s) D j ≡ δ K k j
    pub free : (s j : ℕ) → s < t → j < n → owner j ≡ zero → row_times K n (A s) D j ≡ 𝟘
    -- D takes no row but 0 to 0
    pub faithful : (u : ℕ → F) → ((j : ℕ) → j < n → row_times K n u D j ≡ 𝟘) → (f : ℕ) → f < n → u f ≡ 𝟘
    -- the owners are the rows taken that are no sum of multiples of those before them
    pub earlier : (k s : ℕ) → k < n → owner k ≡ suc s → s < t
    pub independent : (k s : ℕ) → k < n → owner k ≡ suc s → ¬ Dependent K A n s
    pub dependent : (s : ℕ) → s < t → ((k : ℕ) → k < n → owner k ≢ suc s) → Dependent K A n s

  -- ---- a row times D

  pub row_times_cong : (n : ℕ) (u v : ℕ → F) (D : ℕ → ℕ → F) (j : ℕ) → ((i : ℕ) → i < n → u i ≡ v i)
      → row_times K n u D j ≡ row_times K n v D j
  unfolding row_times
  row_times_cong n u v D j e = S.sum_cong K n (λ i. u i ⊗ D i j) (λ i. v i ⊗ D i j) (λ i l. ap (λ (x : F). x ⊗ D i j) (e i l))

  row_times_add : (n : ℕ) (u v : ℕ → F) (D : ℕ → ℕ → F) (j : ℕ)
      → row_times K n (λ i. u i ⊕ v i) D j ≡ row_times K n u D j ⊕ row_times K n v D j
  unfolding row_times
  row_times_add n u v D j =
      S.sum_cong K n (λ i. (u i ⊕ v i) ⊗ D i j) (λ i. u i ⊗ D i j ⊕ v i ⊗ D i j) (λ i l. S.add_mul K (u i) (v i) (D i j))
      ∙ S.sum_add K n (λ i. u i ⊗ D i j) (λ i. v i ⊗ D i j)

  pub row_times_sum : (n t : ℕ) (c : ℕ → F) (A D : ℕ → ℕ → F) (j : ℕ)
      → row_times K n (λ f. sum K t (λ s. c s ⊗ A s f)) D j ≡ sum K t (λ s. c s ⊗ row_times K n (A s) D j)
  unfolding row_times
  row_times_sum n t c A D j =
      S.sum_cong K n (λ i. sum K t (λ s. c s ⊗ A s i) ⊗ D i j) (λ i. sum K t (λ s. c s ⊗ A s i ⊗ D i j))
      (λ i l. sym (S.sum_mul_right K t (D i j) (λ s. c s ⊗ A s i)))
      ∙ S.sum_swap K n t (λ i s. c s ⊗ A s i ⊗ D i j)
      ∙ S.sum_cong K t (λ s. sum K n (λ i. c s ⊗ A s i ⊗ D i j)) (λ s. c s ⊗ sum K n (λ i. A s i ⊗ D i j))
      (λ s l.
      S.sum_cong K n (λ i. c s ⊗ A s i ⊗ D i j) (λ i. c s ⊗ (A s i ⊗ D i j)) (λ i h. mul_assoc (c s) (A s i) (D i j))
      ∙ S.sum_mul K n (c s) (λ i. A s i ⊗ D i j))

  -- ---- no row

  pub reduced_start : (A : ℕ → ℕ → F) (n : ℕ) (D : ℕ → ℕ → F) (owner : ℕ → ℕ)
      → ((i j : ℕ) → i < n → j < n → D i j ≡ δ K i j) → ((j : ℕ) → j < n → owner j ≡ zero) → Reduced A n D owner zero
  unfolding row_times
  reduced_start A n D owner d o = record {
    owned = λ k s l e. absurd (suc-ne-zero s (sym e ∙ o k l));
    free = λ s j l. absurd (not-suc-le-zero l);
    faithful = λ u h f l.
        sym (S.sum-δ-right K n f u l)
        ∙ S.sum_cong K n (λ i. u i ⊗ δ K i f) (λ i. u i ⊗ D i f) (λ i m. ap (λ (x : F). u i ⊗ x) (sym (d i f m l)))
        ∙ h f l;
    earlier = λ k s l e. absurd (suc-ne-zero s (sym e ∙ o k l));
    independent = λ k s l e. absurd (suc-ne-zero s (sym e ∙ o k l));
    dependent = λ s l. absurd (not-suc-le-zero l);
  }

  -- ---- from columns to rows

  -- what the owner of a column is worth
  of_owner : (ℕ → F) → ℕ → F
  of_owner g zero = 𝟘
  of_owner g (suc s) = g s

  gather : (n t : ℕ) (owner : ℕ → ℕ) (y g : ℕ → F) → ((k s : ℕ) → k < n → owner k ≡ suc s → s < t)
      → sum K t (λ s. row_weight n owner y s ⊗ g s) ≡ sum K n (λ k. y k ⊗ of_owner g (owner k))
  unfolding row_weight of_owner
  gather n t owner y g early =
      S.sum_cong K t (λ s. row_weight n owner y s ⊗ g s) (λ s. sum K n (λ k. δ K (owner k) (suc s) ⊗ y k ⊗ g s))
      (λ s l. sym (S.sum_mul_right K n (g s) (λ k. δ K (owner k) (suc s) ⊗ y k)))
      ∙ S.sum_swap K t n (λ s k. δ K (owner k) (suc s) ⊗ y k ⊗ g s)
      ∙ S.sum_cong K n (λ k. sum K t (λ s. δ K (owner k) (suc s) ⊗ y k ⊗ g s)) (λ k. y k ⊗ of_owner g (owner k))
      (λ k l. one (y k) (owner k) (λ s e. early k s l e))
    where
      miss : (a x b : F) → a ≡ 𝟘 → a ⊗ x ⊗ b ≡ 𝟘
      miss a x b e = ap (λ (z : F). z ⊗ x ⊗ b) e ∙ ap (λ (z : F). z ⊗ b) (S.zero-mul K x) ∙ S.zero-mul K b

      one : (x : F) (o : ℕ) → ((s : ℕ) → o ≡ suc s → s < t) → sum K t (λ s. δ K o (suc s) ⊗ x ⊗ g s) ≡ x ⊗ of_owner g o
      one x zero h =
          S.sum-none K t (λ s. δ K zero (suc s) ⊗ x ⊗ g s)
          (λ s l. miss (δ K zero (suc s)) x (g s) (S.δ-other K zero (suc s) (λ e. omega arith)))
          ∙ sym (S.mul-zero K x)
      one x (suc r) h =
          S.sum_one K t r (λ s. δ K (suc r) (suc s) ⊗ x ⊗ g s) (h r refl)
          (λ s l q. miss (δ K (suc r) (suc s)) x (g s) (S.δ-other K (suc r) (suc s) (λ e. q (sym (suc_inj e)))))
          ∙ ap (λ (z : F). z ⊗ x ⊗ g r) (S.δ-same K (suc r) (suc r) refl) ∙ ap (λ (z : F). z ⊗ g r) (one-mul x)

  module _ (A : ℕ → ℕ → F) (n : ℕ) (D : ℕ → ℕ → F) (owner : ℕ → ℕ) (t : ℕ) (R : Reduced A n D owner t) where
    abbrev times_d : (ℕ → F) → ℕ → F
    times_d u j = row_times K n u D j

    -- what the columns with an owner weigh, handed to the owners, gives that weight back
    back : (y : ℕ → F) → ((j : ℕ) → j < n → owner j ≡ zero → y j ≡ 𝟘)
        → (j : ℕ) → j < n → sum K t (λ s. row_weight n owner y s ⊗ times_d (A s) j) ≡ y j
    unfolding of_owner
    back y h j l =
        gather n t owner y (λ s. times_d (A s) j) R.earlier
        ∙ S.sum_one K n j (λ k. y k ⊗ worth (owner k)) l (λ k m q. off k (owner k) m q refl) ∙ here (owner j) refl
      where
        worth : ℕ → F
        worth o = of_owner (λ s. times_d (A s) j) o

        off : (k o : ℕ) → k < n → k ≢ j → owner k ≡ o → y k ⊗ worth o ≡ 𝟘
        off k zero m q e = S.mul-zero K (y k)
        off k (suc s) m q e = ap (λ (z : F). y k ⊗ z) (R.owned k s m e j l ∙ S.δ-other K k j q) ∙ S.mul-zero K (y k)

        here : (o : ℕ) → owner j ≡ o → y j ⊗ worth o ≡ y j
        here zero e = S.mul-zero K (y j) ∙ sym (h j l e)
        here (suc s) e = ap (λ (z : F). y j ⊗ z) (R.owned j s l e j l ∙ S.δ-same K j j refl) ∙ S.mul_one K (y j)

    pub solve : (u : ℕ → F) → ((j : ℕ) → j < n → owner j ≡ zero → times_d u j ≡ 𝟘)
        → (f : ℕ) → f < n → u f ≡ sum K t (λ s. row_weight n owner (times_d u) s ⊗ A s f)
    solve u h f l = S.eq_of_sum K (u f) (v f) (R.faithful (λ i. u i ⊕ v i) both f l)
      where
        w : ℕ → F
        w s = row_weight n owner (times_d u) s

        v : ℕ → F
        v i = sum K t (λ s. w s ⊗ A s i)

        both : (j : ℕ) → j < n → times_d (λ i. u i ⊕ v i) j ≡ 𝟘
        both j m = simp (row_times_add n u v D j, S.sum_of_eq K (times_d u j) (times_d v j) (sym (row_times_sum n t w A D j ∙ back (times_d u) h j m)))

    -- ---- a row that is a sum of multiples of those before it

    pub reduced_dependent : ((j : ℕ) → j < n → owner j ≡ zero → times_d (A t) j ≡ 𝟘) → Reduced A n D owner (suc t)
    unfolding Dependent
    reduced_dependent h = record {
      owned = R.owned;
      free = λ s j l m e. elim (ℕ_discrete s t) [
        | yes p ↦ ap (λ (r : ℕ). times_d (A r) j) p ∙ h j m e
        | no q ↦ R.free s j (omega arith) m e
      ];
      faithful = R.faithful;
      earlier = λ k s l e. let r : s < t = R.earlier k s l e in omega arith;
      independent = R.independent;
      dependent = λ s l q. elim (ℕ_discrete s t) [
        | yes p ↦ subst (λ (r : ℕ). Dependent K A n r) (sym p) (row_weight n owner (times_d (A t)), solve (A t) h)
        | no r ↦ R.dependent s (omega arith) q
      ];
    }

    -- ---- a row that takes a column

    module _ (k : ℕ) (lk : k < n) (ok : owner k ≡ zero) (yk : times_d (A t) k ≢ 𝟘)
        (D' : ℕ → ℕ → F) (owner' : ℕ → ℕ)
        (swept : (i j : ℕ) → i < n → j < n
        → D' i j ≡ D i j ⊕ inv (times_d (A t) k) ⊗ D i k ⊗ (times_d (A t) j ⊕ δ K k j))
        (now-k : owner' k ≡ suc t)
        (still : (j : ℕ) → j < n → j ≢ k → owner' j ≡ owner j) where
      q : F
      q = inv (times_d (A t) k)

      p : ℕ → F
      p j = times_d (A t) j ⊕ δ K k j

      abbrev times_d' : (ℕ → F) → ℕ → F
      times_d' u j = row_times K n u D' j

      times_swept : (u : ℕ → F) (j : ℕ) → j < n → times_d' u j ≡ times_d u j ⊕ q ⊗ times_d u k ⊗ p j
      unfolding row_times q p
      times_swept u j l =
          S.sum_cong K n (λ i. u i ⊗ D' i j) (λ i. u i ⊗ D i j ⊕ q ⊗ (u i ⊗ D i k) ⊗ p j)
          (λ i h. ap (λ (x : F). u i ⊗ x) (swept i j h l) ∙ term i)
          ∙ S.sum_add K n (λ i. u i ⊗ D i j) (λ i. q ⊗ (u i ⊗ D i k) ⊗ p j)
          ∙ ap (λ (x : F). times_d u j ⊕ x)
          (S.sum_mul_right K n (p j) (λ i. q ⊗ (u i ⊗ D i k))
          ∙ ap (λ (x : F). x ⊗ p j) (S.sum_mul K n q (λ i. u i ⊗ D i k)))
        where
          term : (i : ℕ) → u i ⊗ (D i j ⊕ q ⊗ D i k ⊗ p j) ≡ u i ⊗ D i j ⊕ q ⊗ (u i ⊗ D i k) ⊗ p j
          term i = simp (mul_add_lem, mul_assoc, S.mul_left_comm)

      -- the new row is 1 in its column and 0 in the others
      new_row : (j : ℕ) → j < n → times_d' (A t) j ≡ δ K k j
      unfolding q p
      new_row j l = simp (times_swept, inv_mul, one-mul, S.add_twice)

      -- a row that is 0 in column k stays as it was
      old_row : (u : ℕ → F) → times_d u k ≡ 𝟘 → (j : ℕ) → j < n → times_d' u j ≡ times_d u j
      old_row u e j l = simp (times_swept, e, S.mul-zero, S.zero-mul, S.add-zero)

      -- a row that is 0 everywhere now was 0 in column k
      zero_before : (u : ℕ → F) → ((j : ℕ) → j < n → times_d' u j ≡ 𝟘) → times_d u k ≡ 𝟘
      unfolding q p
      zero_before u h = S.zero_of_mul K q (times_d u k) (S.inv_ne_zero K (times_d (A t) k) yk) (sym column_k ∙ h k lk)
        where
          y : F
          y = times_d (A t) k

          x : F
          x = times_d u k

          column_k : times_d' u k ≡ q ⊗ x
          column_k = simp (times_swept, S.δ-same, mul_add_lem, cancelled, S.mul_one, S.add_twice)
            where
              cancelled : q ⊗ x ⊗ y ≡ x
              cancelled = simp (K.mul_comm q x, mul_assoc, inv_mul, S.mul_one)

      -- the new row is no sum of multiples of those before it: it is not 0 in column k, and they are
      fresh : Dependent K A n t → ⊥
      unfolding Dependent
      fresh (c, e) =
          yk (row_times_cong n (A t) (λ f. sum K t (λ r. c r ⊗ A r f)) D k e ∙ row_times_sum n t c A D k
          ∙ S.sum-none K t (λ r. c r ⊗ times_d (A r) k)
          (λ r l. ap (λ (x : F). c r ⊗ x) (R.free r k l lk ok) ∙ S.mul-zero K (c r)))

      -- who owns column k now, and the others
      is_new : (i s : ℕ) → owner' i ≡ suc s → i ≡ k → s ≡ t
      is_new i s e h = suc_inj (sym e ∙ ap owner' h ∙ now-k)

      is_old : (i s : ℕ) → i < n → owner' i ≡ suc s → i ≢ k → owner i ≡ suc s
      is_old i s l e h = sym (still i l h) ∙ e

      zero_k : (i s : ℕ) → i < n → owner i ≡ suc s → times_d (A s) k ≡ 𝟘
      zero_k i s l e = R.free s k (R.earlier i s l e) lk ok

      pub reduced_independent : Reduced A n D' owner' (suc t)
      reduced_independent = record {
        owned = λ i s l e j m. elim (ℕ_discrete i k) [
          | yes h ↦ ap (λ (r : ℕ). times_d' (A r) j) (is_new i s e h) ∙ new_row j m ∙ ap (λ (r : ℕ). δ K r j) (sym h)
          | no h ↦ let o = is_old i s l e h in old_row (A s) (zero_k i s l o) j m ∙ R.owned i s l o j m
        ];
        free = λ s j l m e.
            let other : j ≢ k = λ h. suc-ne-zero t (sym now-k ∙ ap owner' (sym h) ∙ e) in
            elim (ℕ_discrete s t) [
              | yes h ↦ ap (λ (r : ℕ). times_d' (A r) j) h ∙ new_row j m ∙ S.δ-other K k j (λ z. other (sym z))
              | no h ↦
                  let b : s < t = omega arith in
                  old_row (A s) (R.free s k b lk ok) j m ∙ R.free s j b m (sym (still j m other) ∙ e)
            ];
        faithful = λ u h. R.faithful u (λ j l. sym (old_row u (zero_before u h) j l) ∙ h j l);
        earlier = λ i s l e. elim (ℕ_discrete i k) [
          | yes h ↦ let b : s ≡ t = is_new i s e h in omega arith
          | no h ↦ let b : s < t = R.earlier i s l (is_old i s l e h) in omega arith
        ];
        independent = λ i s l e d. elim (ℕ_discrete i k) [
          | yes h ↦ fresh (subst (λ (r : ℕ). Dependent K A n r) (is_new i s e h) d)
          | no h ↦ R.independent i s l (is_old i s l e h) d
        ];
        dependent = λ s l none.
            let other : s ≢ t = λ h. none k lk (now-k ∙ ap suc (sym h)) in
            R.dependent s (omega arith) (λ i m e. elim (ℕ_discrete i k) [
              | yes h ↦ suc-ne-zero s (sym e ∙ ap owner h ∙ ok)
              | no h ↦ none i m (still i m h ∙ e)
            ]);
      }
