-- The columns of a table, those of the others being 0, side by side: the same systems with the columns numbered anew.
--
--   before column m            how many of the numbers below m are columns
--   before_le, before_lt       those before a column, and before a later number
--   before_onto                each number below is that of a column
--   Filled column m width files, filled_none, filled_more     the loop of `columns`
--   packed_solution            a solution of the columns side by side solves the table
--   packed_kernel              a kernel vector of theirs, spread out, is one of the table
--   outside_kernel             a column of zeros has one
-- Assumes nothing.
use mathlib.Core.Path.{◌≡◌, refl, sym, ap, ap₂, ◌∙◌, subst}
use mathlib.Core.Logic.{◌≢◌, ⊎_elim}
use mathlib.Core.Bool.{Bool, true, false, cond, true≢false}
use mathlib.Core.List.{List}
use Prim.Native.Nat.{ℕ, zero, suc, ◌<◌, ◌≤◌, ◌+◌}
use native.Mathlib.Nat.{not-suc-le-zero, le_of_suc-le-suc, eq-or-lt_of_le, add-zero}
use native.Mathlib.Numerals.{add-one}
use native.Mathlib.Omega.{arith}
use native.Mathlib.Decide.{ℕ_discrete, dec_lt}
use lib.ListN.{length, get_or, set, replicate, length-set, length-replicate}
use lib.Seq.{get_or-set_same, get_or-set_other}
use Rattle.elimination.specs.Field.{Field, sum, δ}
use Rattle.elimination.specs.Matrix.{Dependent, IsSolution, IsKernelVector}
use Rattle.elimination.proofs.Sums as S
use Rattle.elimination.proofs.Reductions.{zeros_at}
use Rattle.number_sets.specs.Sets.{size_below}

module _ (column : ℕ → Bool) where
  abbrev pub before : ℕ → ℕ
  before m = size_below m column

  before_at : (m : ℕ) (b : Bool) → column m ≡ b → before (suc m) ≡ before m + cond b 1 0
  unfolding size_below
  before_at m b e = ap (λ (t : Bool). before m + cond t 1 0) e

  before-column : (m : ℕ) → column m ≡ true → before (suc m) ≡ suc (before m)
  before-column m e = before_at m true e ∙ add-one (before m)

  pub before_other : (m : ℕ) → column m ≡ false → before (suc m) ≡ before m
  before_other m e = before_at m false e ∙ add-zero (before m)

  step : (m : ℕ) → (before m ≤ before (suc m)) × (before (suc m) ≤ suc (before m))
  step m = go (column m) refl
    where
      go : (b : Bool) → column m ≡ b → (before m ≤ before (suc m)) × (before (suc m) ≤ suc (before m))
      go true e = let h = before-column m e in (omega arith, omega arith)
      go false e = let h = before_other m e in (omega arith, omega arith)

  pub before_le : (m : ℕ) → before m ≤ m
  unfolding size_below
  before_le zero = omega arith
  before_le (suc m) = let l = before_le m in let h = (step m).1 in omega arith

  before_mono : (i m : ℕ) → i ≤ m → before i ≤ before m
  before_mono i zero l = let e : i ≡ zero = omega arith in let h : before i ≡ before zero = ap before e in omega arith
  before_mono i (suc m) l =
      ⊎_elim
      (λ (e : i ≡ suc m). let h : before i ≡ before (suc m) = ap before e in omega arith)
      (λ (b : i < suc m). let h = before_mono i m (le_of_suc-le-suc b) in let h' = (step m).0 in omega arith)
      (eq-or-lt_of_le l)

  pub before_lt : (i m : ℕ) → column i ≡ true → i < m → before i < before m
  before_lt i m e l = let h = before_mono (suc i) m l in let h' = before-column i e in omega arith

  -- two columns have not the same number
  before_once : (i j : ℕ) → column i ≡ true → column j ≡ true → i ≢ j → before i ≢ before j
  before_once i j ei ej q h = elim (dec_lt i j) [
    | yes l ↦ let b = before_lt i j ei l in omega arith
    | no n ↦ elim (dec_lt j i) [
      | yes l ↦ let b = before_lt j i ej l in omega arith
      | no n' ↦ q (omega arith)
    ]
  ]

  pub before_onto : (m p : ℕ) → p < before m → (i : ℕ) × (i < m) × (column i ≡ true) × (before i ≡ p)
  unfolding size_below
  before_onto zero p l = absurd (not-suc-le-zero l)
  before_onto (suc m) p l = go (before_onto m p) (column m) refl
    where
      later : (i : ℕ) × (i < m) × (column i ≡ true) × (before i ≡ p) → (i : ℕ) × (i < suc m) × (column i ≡ true) × (before i ≡ p)
      later (i, b, e, h) = (i, omega arith, e, h)

      go : (p < before m → (i : ℕ) × (i < m) × (column i ≡ true) × (before i ≡ p)) → (b : Bool) → column m ≡ b
          → (i : ℕ) × (i < suc m) × (column i ≡ true) × (before i ≡ p)
      go found true e = elim (dec_lt p (before m)) [
        | yes b ↦ later (found b)
        | no q ↦ let h = before-column m e in (m, omega arith, e, omega arith)
      ]
      go found false e = let h = before_other m e in later (found (omega arith))

  -- ---- the list of the columns

  -- the columns below m are listed; what stands past them means nothing
  pub record Filled (m width : ℕ) (files : List ℕ) : Type 0 where
    pub full : length files ≡ 256
    pub counted : width ≡ before m
    pub each : (i : ℕ) → i < m → column i ≡ true → get_or files (before i) 0 ≡ suc i
    pub bytes : (p : ℕ) → get_or files p 0 < 256

  pub filled_none : Filled 0 0 (replicate 256 0)
  unfolding size_below
  filled_none = record {
    full = length-replicate {A = ℕ} 256 0;
    counted = refl;
    each = λ i l. absurd (not-suc-le-zero l);
    bytes = λ p. subst (λ (x : ℕ). x < 256) (sym (zeros_at 256 p)) (omega arith);
  }

  pub filled_more : (m width : ℕ) (files : List ℕ) (n : ℕ) → Filled m width files → m < 255 → n ≡ cond (column m) 1 0
      → Filled (m + 1) (width + n) (set files width (m + 1))
  unfolding size_below
  filled_more m width files n f l e = let inside = before_le m in
      let here = f.counted in
      let long = f.full in record {
        full = length-set files width (m + 1) ∙ f.full;
        counted = ap₂ ◌+◌ f.counted e ∙ ap before (sym (add-one m));
        each = λ i b c. elim (ℕ_discrete i m) [
          | yes p ↦
              ap (get_at (before i)) (ap (λ (w : ℕ). set files w (m + 1)) (f.counted ∙ ap before (sym p)))
              ∙ get_or-set_same files (before i) (m + 1) 0 (let h : before i ≡ before m = ap before p in omega arith) ∙ add-one m ∙ ap suc (sym p)
          | no q ↦
              get_or-set_other files width (before i) (m + 1) 0 (λ z. let h = before_lt i m c (omega arith) in omega arith)
              ∙ f.each i (omega arith) c
        ];
        bytes = λ p. elim (ℕ_discrete p width) [
          | yes z ↦
              subst (λ (x : ℕ). x < 256)
              (sym (ap (λ (k : ℕ). get_or (set files width (m + 1)) k 0) z ∙ get_or-set_same files width (m + 1) 0 (omega arith))) (omega arith)
          | no q ↦ subst (λ (x : ℕ). x < 256) (sym (get_or-set_other files width p (m + 1) 0 q)) (f.bytes p)
        ];
      }
    where
      get_at : ℕ → List ℕ → ℕ
      get_at p l = get_or l p 0

-- ---- the systems

module _ {F : Type 0} (K : Field F) (n : ℕ) (column : ℕ → Bool) (A B : ℕ → ℕ → F)
    (same : (s i : ℕ) → i < n → column i ≡ true → A s i ≡ B s (before column i))
    (none : (s i : ℕ) → i < n → column i ≡ false → A s i ≡ K.𝟘)
    (past : (s p : ℕ) → before column n ≤ p → p < n → B s p ≡ K.𝟘) where
  open K use {𝟘, add as ◌⊕◌, mul as ◌⊗◌}

  infixl 60 ◌⊕◌
  infixl 70 ◌⊗◌
  δ-before : (f g : ℕ) → column f ≡ true → column g ≡ true → δ K (before column f) (before column g) ≡ δ K f g
  δ-before f g ef eg = elim (ℕ_discrete f g) [
    | yes e ↦ S.δ-same K _ _ (ap (before column) e) ∙ sym (S.δ-same K f g e)
    | no q ↦ S.δ-other K _ _ (before_once column f g ef eg q) ∙ sym (S.δ-other K f g q)
  ]

  times_zero : (t : ℕ) (w x : ℕ → F) → ((s : ℕ) → x s ≡ 𝟘) → sum K t (λ s. w s ⊗ x s) ≡ 𝟘
  times_zero t w x h = S.sum-none K t (λ s. w s ⊗ x s) (λ s l. ap (λ (z : F). w s ⊗ z) (h s) ∙ S.mul-zero K (w s))

  times_same : (t : ℕ) (w x y : ℕ → F) → ((s : ℕ) → x s ≡ y s) → sum K t (λ s. w s ⊗ x s) ≡ sum K t (λ s. w s ⊗ y s)
  times_same t w x y h = S.sum_cong K t (λ s. w s ⊗ x s) (λ s. w s ⊗ y s) (λ s l. ap (λ (z : F). w s ⊗ z) (h s))

  packed_dependent : (s : ℕ) → Dependent K A n s → Dependent K B n s
  unfolding Dependent
  packed_dependent s (c, h) = (
    c,
    λ p l. elim (dec_lt p (before column n)) [
      | yes b ↦ inside p (before_onto column n p b)
      | no q ↦ past s p (omega arith) l ∙ sym (times_zero s c (λ r. B r p) (λ r. past r p (omega arith) l))
    ],
  )
    where
      inside : (p : ℕ) → (i : ℕ) × (i < n) × (column i ≡ true) × (before column i ≡ p) → B s p ≡ sum K s (λ r. c r ⊗ B r p)
      inside p (i, l, e, z) =
          subst (λ (q : ℕ). B s q ≡ sum K s (λ r. c r ⊗ B r q)) z
          (sym (same s i l e) ∙ h i l ∙ times_same s c (λ r. A r i) (λ r. B r (before column i)) (λ r. same r i l e))

  pub packed_solution : (t f : ℕ) (w : ℕ → F) → f < n → column f ≡ true → IsSolution K B n t (before column f) w → IsSolution K A n t f w
  packed_solution t f w lf ef W = record {
    sums = λ g l. at g l (column g) refl;
    unused = λ s l D. W.unused s l (packed_dependent s D);
  }
    where
      at : (g : ℕ) → g < n → (b : Bool) → column g ≡ b → sum K t (λ s. w s ⊗ A s g) ≡ δ K f g
      at g l true e =
          times_same t w (λ s. A s g) (λ s. B s (before column g)) (λ s. same s g l e)
          ∙ W.sums (before column g) (let b = before_le column g in omega arith) ∙ δ-before f g ef e
      at g l false e = simp (times_zero t w (λ s. A s g) (λ s. none s g l e), S.δ-other K f g (λ z. true≢false (sym ef ∙ ap column z ∙ e)))

  -- a vector of the columns side by side, spread out
  unfoldable pub spread : (ℕ → F) → ℕ → F
  spread x i = cond (column i) (x (before column i)) 𝟘

  spread_at : (x : ℕ → F) (i : ℕ) (b : Bool) → column i ≡ b → spread x i ≡ cond b (x (before column i)) 𝟘
  unfolding spread
  spread_at x i b e = ap (λ (t : Bool). cond t (x (before column i)) 𝟘) e

  gathered : (x : ℕ → F) (s m : ℕ) → m ≤ n → sum K m (λ i. A s i ⊗ spread x i) ≡ sum K (before column m) (λ p. B s p ⊗ x p)
  unfolding sum size_below
  gathered x s zero h = refl
  gathered x s (suc m) h = go (gathered x s m (omega arith)) (column m) refl
    where
      go : sum K m (λ i. A s i ⊗ spread x i) ≡ sum K (before column m) (λ p. B s p ⊗ x p) → (b : Bool) → column m ≡ b
          → sum K m (λ i. A s i ⊗ spread x i) ⊕ A s m ⊗ spread x m ≡ sum K (before column (suc m)) (λ p. B s p ⊗ x p)
      go rest true e = simp (rest, same s m h e, spread_at x m true e, before-column column m e)
      go rest false e =
          ap₂ ◌⊕◌ rest (ap (λ (z : F). A s m ⊗ z) (spread_at x m false e) ∙ S.mul-zero K (A s m))
          ∙ S.add-zero K _ ∙ ap (λ (k : ℕ). sum K k (λ p. B s p ⊗ x p)) (sym (before_other column m e))

  pub packed_kernel : (t f : ℕ) (x : ℕ → F) → column f ≡ true → IsKernelVector K B n t (before column f) x
      → IsKernelVector K A n t f (spread x)
  packed_kernel t f x ef X = record {
    rows = λ s l.
        gathered x s n (omega arith)
        ∙ sym (S.sum_first K (before column n) n (λ p. B s p ⊗ x p) (before_le column n)
        (λ p b h. ap (λ (z : F). z ⊗ x p) (past s p b h) ∙ S.zero-mul K (x p)))
        ∙ X.rows s l;
    asked = λ z. X.asked (sym (spread_at x f true ef) ∙ z);
  }

pub outside_kernel : {F : Type 0} (K : Field F) (n : ℕ) (A : ℕ → ℕ → F) (t f : ℕ) → f < n → ((s : ℕ) → A s f ≡ K.𝟘)
    → IsKernelVector K A n t f (λ i. δ K i f)
outside_kernel K n A t f l none = record {
  rows = λ s b. S.sum-δ-right K n f (λ i. A s i) l ∙ none s;
  asked = λ z. K.one_ne_zero (sym (S.δ-same K f f refl) ∙ z);
}
