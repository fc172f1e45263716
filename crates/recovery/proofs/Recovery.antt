-- A missing file is recoverable where weights of the rows are a solution in its column, and is not where there is a kernel vector.
--
--   solution_recoverable    weights: recoverable
--   kernel_unrecoverable    a kernel vector: two contents that are alike and differ in the file
--   empty_recoverable       an empty file is recoverable
-- Assumes nothing.
use mathlib.Core.Path.{◌≡◌, refl, sym, ap, ap₂, ◌∙◌, subst}
use mathlib.Core.Bool.{Bool, true, false, not, ◌&&◌, true≢false, and-false}
use mathlib.Core.List.{List, [], ◌∷◌}
use Prim.Native.Nat.{ℕ, zero, suc, ◌<◌, ◌≤◌, ◌-◌}
use native.Mathlib.Nat.{not-suc-le-zero, suc-ne-zero}
use native.Mathlib.Omega.{arith}
use lib.Dec.{leb}
use lib.ListN.{length, get_or, replicate, length-replicate, get_or-eq_default}
use lib.Seq.{ext_get_or}
use borrow.Author.Tests.{leb-false}
use Rattle.computed_tests.proofs.Tests.{one_to_in, one_to_inside}
use Rattle.parity.specs.Parity.{Contents, is_file, greatest, parity_byte}
use Rattle.parity.proofs.Parities.{file_le_greatest}
use Rattle.elimination.specs.Field.{sum}
use Rattle.elimination.specs.Matrix.{IsSolution, IsKernelVector}
use Rattle.elimination.proofs.Sums as S
use Rattle.elimination.proofs.Solutions.{solution_zero}
use Rattle.elimination.specs.ByteField.{Byte, byte_eq, to_byte}
use Rattle.elimination.proofs.ByteField.{to_byte_of_value}
use Rattle.elimination.proofs.Reductions.{zeros_at}
use Rattle.recovery.specs.Recoverable.{State, is_volume, IsContents, column, Alike, Recoverable}
use Rattle.recovery.proofs.Rows as R
use Rattle.recovery.proofs.Rows.{K, mask, mask_mul, mask_same, cell}
open K use {𝟘, 𝟙, add as ◌⊕◌, mul as ◌⊗◌}

infixl 60 ◌⊕◌
infixl 70 ◌⊗◌
nil : (l : List ℕ) → length l ≡ 0 → l ≡ []
nil [] h = refl
nil (x ∷ l) h = absurd (suc-ne-zero (length l) h)

pub empty_recoverable : (rule : ℕ → ℕ → ℕ) (t : State) (f : ℕ) → is_file t.n f ≡ true → t.size f ≡ 0 → Recoverable rule t f
empty_recoverable rule t f h e X Y h_x h_y a = nil (X f) ((h_x f h).0 ∙ e) ∙ sym (nil (Y f) ((h_y f h).0 ∙ e))

-- ---- contents of one byte a file

-- k bytes, the first of them b and the others 0
first : ℕ → ℕ → List ℕ
first zero b = []
first (suc k) b = b ∷ replicate k 0

length_first : (k b : ℕ) → length (first k b) ≡ k
unfolding first
length_first zero b = refl
length_first (suc k) b = ap suc (length-replicate k 0)

first_later : (k b p : ℕ) → get_or (first k b) (suc p) 0 ≡ 0
unfolding first
first_later zero b p = refl
first_later (suc k) b p = zeros_at k p

-- where nothing fits, b is 0 already
first_at : (k b : ℕ) → (k ≡ 0 → b ≡ 0) → get_or (first k b) 0 0 ≡ b
unfolding first
first_at zero b h = sym (h refl)
first_at (suc k) b h = refl

first_small : (k b p : ℕ) → b < 256 → get_or (first k b) p 0 < 256
unfolding first
first_small zero b p h = omega arith
first_small (suc k) b zero h = h
first_small (suc k) b (suc p) h = rw (zeros_at k p) (omega arith)

module _ (rule : ℕ → ℕ → ℕ) (small : (f v : ℕ) → f < 256 → rule f v < 256) (t : State) (fits : t.n ≤ 254) where
  abbrev coef : ℕ → ℕ → Byte
  coef i s = R.coef rule small t fits i s

  abbrev matrix : ℕ → ℕ → Byte
  matrix s i = R.matrix rule small t fits s i

  abbrev in_column : ℕ → Bool
  in_column i = R.in_column rule small t fits i

  file : (i : ℕ) → i < t.n → is_file t.n (suc i) ≡ true
  file i l = one_to_in t.n (suc i) (omega arith) l

  -- ---- weights: recoverable

  module _ (X Y : Contents) (h_x : IsContents t X) (h_y : IsContents t Y) (a : Alike rule t X Y) (p : ℕ) where
    difference : ℕ → Byte
    difference i = cell X p i ⊕ cell Y p i

    -- outside the columns they have the same bytes
    same_off : (i : ℕ) → i < t.n → column t (suc i) ≡ false → difference i ≡ 𝟘
    unfolding cell difference
    same_off i l e = go (t.files (suc i)) refl (leb 1 (t.size (suc i))) refl
      where
        go : (b : Bool) → t.files (suc i) ≡ b → (c : Bool) → leb 1 (t.size (suc i)) ≡ c → difference i ≡ 𝟘
        go true q c r =
            S.sum_of_eq K (cell X p i) (cell Y p i)
            (ap (λ (l : List ℕ). to_byte (get_or l p 0)) (a.same_files (suc i) (file i l) q))
        go false q true r = absurd (true≢false (sym (ap₂ (λ (x y : Bool). not x && y) q r) ∙ e))
        go false q false r = S.sum_of_eq K (cell X p i) (cell Y p i) (ap to_byte (none X h_x ∙ sym (none Y h_y)))
          where
            none : (Z : Contents) → IsContents t Z → get_or (Z (suc i)) p 0 ≡ 0
            none Z h = let k : t.size (suc i) < 1 = leb-false 1 (t.size (suc i)) r in
                let m : length (Z (suc i)) ≡ t.size (suc i) = (h (suc i) (file i l)).0 in
                get_or-eq_default (Z (suc i)) 0 (omega arith)

    rows_zero : p < greatest t.n t.size → (s : ℕ) → s < 255 - t.n → sum K 256 (λ i. matrix s i ⊗ difference i) ≡ 𝟘
    unfolding difference R.matrix mask
    rows_zero lp s ls = R.rows-sum rule small t fits s difference ∙ go (t.volumes (suc s)) refl
      where
        row : (i : ℕ) → i < t.n → mask (in_column i) (coef i s) ⊗ difference i ≡ coef i s ⊗ cell X p i ⊕ coef i s ⊗ cell Y p i
        row i l =
            mask_mul (in_column i) (coef i s) (difference i)
            ∙ ap (λ (x : Byte). coef i s ⊗ x)
            (mask_same (in_column i) (difference i) (λ e. same_off i l (sym (R.in_column_file rule small t fits i l) ∙ e)))
            ∙ K.mul_add_lem (coef i s) (cell X p i) (cell Y p i)

        go : (b : Bool) → t.volumes (suc s) ≡ b
            → sum K t.n (λ i. mask b (mask (in_column i) (coef i s)) ⊗ difference i) ≡ 𝟘
        go false e = S.sum-none K t.n (λ i. 𝟘 ⊗ difference i) (λ i l. S.zero-mul K (difference i))
        go true e =
            S.sum_cong K t.n (λ i. mask (in_column i) (coef i s) ⊗ difference i)
            (λ i. coef i s ⊗ cell X p i ⊕ coef i s ⊗ cell Y p i) row
            ∙ S.sum_add K t.n (λ i. coef i s ⊗ cell X p i) (λ i. coef i s ⊗ cell Y p i)
            ∙ S.sum_of_eq K (sum K t.n (λ i. coef i s ⊗ cell X p i)) (sum K t.n (λ i. coef i s ⊗ cell Y p i))
            (byte_eq (sum K t.n (λ i. coef i s ⊗ cell X p i)) (sum K t.n (λ i. coef i s ⊗ cell Y p i))
            (sym (R.parity-sum rule small t fits X h_x s p)
            ∙ a.same-parity (suc s) (one_to_in (255 - t.n) (suc s) (omega arith) (omega arith)) e p lp
            ∙ R.parity-sum rule small t fits Y h_y s p))

  pub solution_recoverable : (f : ℕ) → f < t.n → (w : ℕ → Byte) → IsSolution K matrix 256 (255 - t.n) f w
      → Recoverable rule t (suc f)
  unfolding difference
  solution_recoverable f lf w W X Y h_x h_y a = ext_get_or 0 (X (suc f)) (Y (suc f)) (lx ∙ sym ly) (λ p l. each p (subst (λ (k : ℕ). p < k) lx l))
    where
      lx : length (X (suc f)) ≡ t.size (suc f)
      lx = (h_x (suc f) (file f lf)).0

      ly : length (Y (suc f)) ≡ t.size (suc f)
      ly = (h_y (suc f) (file f lf)).0

      each : (p : ℕ) → p < t.size (suc f) → get_or (X (suc f)) p 0 ≡ get_or (Y (suc f)) p 0
      each p l = let g = file_le_greatest t.n t.size (suc f) (omega arith) lf in
          let z : difference X Y h_x h_y a p f ≡ 𝟘 =
          solution_zero K matrix 256 (255 - t.n) f w (difference X Y h_x h_y a p) (omega arith) W
          (rows_zero X Y h_x h_y a p (omega arith)) in
          sym (R.cell_value rule small t fits X h_x p f lf)
          ∙ ap (λ (b : Byte). b.0) (S.eq_of_sum K (cell X p f) (cell Y p f) z)
          ∙ R.cell_value rule small t fits Y h_y p f lf

  -- ---- a kernel vector: not recoverable

  -- file g has b g as its first byte and is 0 else
  only : (ℕ → ℕ) → Contents
  only b g = first (t.size g) (b g)

  only_contents : (b : ℕ → ℕ) → ((g : ℕ) → b g < 256) → IsContents t (only b)
  unfolding only
  only_contents b h g l = (length_first (t.size g) (b g), λ p. first_small (t.size g) (b g) p (h g))

  only_later : (b : ℕ → ℕ) (p i : ℕ) → cell (only b) (suc p) i ≡ 𝟘
  unfolding only cell
  only_later b p i = ap to_byte (first_later (t.size (suc i)) (b (suc i)) p) ∙ to_byte_of_value 𝟘

  only_first : (b : ℕ → ℕ) (i : ℕ) → (t.size (suc i) ≡ 0 → b (suc i) ≡ 0) → cell (only b) 0 i ≡ to_byte (b (suc i))
  unfolding only cell
  only_first b i h = ap to_byte (first_at (t.size (suc i)) (b (suc i)) h)

  module _ (f : ℕ) (lf : f < t.n) (is_column : column t (suc f) ≡ true) (x : ℕ → Byte)
      (kernel : IsKernelVector K matrix 256 (255 - t.n) f x) where
    -- the vector in the columns, as bytes of the files
    spot : ℕ → ℕ
    spot zero = 0
    spot (suc i) = (mask (column t (suc i)) (x i)).0

    spot_off : (g : ℕ) → column t g ≡ false → spot g ≡ 0
    unfolding spot mask
    spot_off zero e = refl
    spot_off (suc i) e = ap (λ (b : Bool). (mask b (x i)).0) e

    spot_small : (g : ℕ) → spot g < 256
    unfolding spot
    spot_small zero = omega arith
    spot_small (suc i) = (mask (column t (suc i)) (x i)).1

    spot_empty : (g : ℕ) → t.size g ≡ 0 → spot g ≡ 0
    spot_empty g e = spot_off g (ap (λ (k : ℕ). not (t.files g) && leb 1 k) e ∙ and-false (not (t.files g)))

    nothing : Contents
    nothing = only (λ g. 0)

    something : Contents
    something = only spot

    nothing_contents : IsContents t nothing
    unfolding nothing
    nothing_contents = only_contents (λ g. 0) (λ g. omega arith)

    something_contents : IsContents t something
    unfolding something
    something_contents = only_contents spot spot_small

    nothing_cell : (p i : ℕ) → cell nothing p i ≡ 𝟘
    unfolding nothing
    nothing_cell zero i = only_first (λ g. 0) i (λ e. refl) ∙ to_byte_of_value 𝟘
    nothing_cell (suc p) i = only_later (λ g. 0) p i

    something_cell : (i : ℕ) → cell something 0 i ≡ mask (column t (suc i)) (x i)
    unfolding something spot
    something_cell i = only_first spot i (spot_empty (suc i)) ∙ to_byte_of_value (mask (column t (suc i)) (x i))

    zero_cells : (X : Contents) (s p : ℕ) → ((i : ℕ) → cell X p i ≡ 𝟘) → sum K t.n (λ i. coef i s ⊗ cell X p i) ≡ 𝟘
    zero_cells X s p h =
        S.sum-none K t.n (λ i. coef i s ⊗ cell X p i)
        (λ i l. ap (λ (b : Byte). coef i s ⊗ b) (h i) ∙ S.mul-zero K (coef i s))

    something_sum : (s : ℕ) → s < 255 - t.n → t.volumes (suc s) ≡ true → (p : ℕ)
        → sum K t.n (λ i. coef i s ⊗ cell something p i) ≡ 𝟘
    unfolding something R.matrix mask
    something_sum s l e zero =
        S.sum_cong K t.n (λ i. coef i s ⊗ cell something 0 i) (λ i. matrix s i ⊗ x i)
        (λ i h.
        ap (λ (b : Byte). coef i s ⊗ b) (something_cell i) ∙ sym (mask_mul (column t (suc i)) (coef i s) (x i))
        ∙ ap₂ (λ (b c : Bool). mask b (mask c (coef i s)) ⊗ x i) (sym e) (sym (R.in_column_file rule small t fits i h)))
        ∙ sym (R.rows-sum rule small t fits s x) ∙ kernel.rows s l
    something_sum s l e (suc p) = zero_cells something s (suc p) (only_later spot p)

    alike : Alike rule t nothing something
    unfolding nothing something only
    alike = record {
      same_files = λ g l e. ap (first (t.size g)) (sym (spot_off g (ap (λ (b : Bool). not b && leb 1 (t.size g)) e)));
      same-parity = λ v l e p lp. parities v l e p;
    }
      where
        parities : (v : ℕ) → is_volume t.n v ≡ true → t.volumes v ≡ true → (p : ℕ)
            → parity_byte rule t.n nothing v p ≡ parity_byte rule t.n something v p
        parities zero l e p = absurd (not-suc-le-zero (one_to_inside (255 - t.n) zero l).0)
        parities (suc s) l e p = let b = (one_to_inside (255 - t.n) (suc s) l).1 in
            R.parity-sum rule small t fits nothing nothing_contents s p
            ∙ ap (λ (b : Byte). b.0)
            (zero_cells nothing s p (nothing_cell p) ∙ sym (something_sum s (omega arith) e p))
            ∙ sym (R.parity-sum rule small t fits something something_contents s p)

    pub kernel_unrecoverable : ¬ Recoverable rule t (suc f)
    unfolding mask cell
    kernel_unrecoverable r =
        kernel.asked
        (ap (λ (b : Bool). mask b (x f)) (sym is_column) ∙ sym (something_cell f)
        ∙ ap (λ (l : List ℕ). to_byte (get_or l 0 0)) (sym (r nothing something nothing_contents something_contents alike))
        ∙ nothing_cell 0 f)
