-- Following the weights: each fragment present, multiplied by its weight and added once, in any order, gives the file.
--
--   follow     the fragments come from the contents X, so what is left is the file of X
-- Assumes nothing.
use mathlib.Core.Path.{◌≡◌, refl, sym, ap, ap₂, ◌∙◌, subst}
use mathlib.Core.Logic.{◌≢◌}
use mathlib.Core.Bool.{Bool, true, false, not, cond, ◌&&◌, true≢false}
use mathlib.Core.List.{List}
use Prim.Native.Nat.{ℕ, zero, suc, ◌<◌, ◌≤◌, ◌+◌, ◌-◌}
use native.Mathlib.Nat
use native.Mathlib.Nat.{suc_inj}
use native.Mathlib.Omega.{arith}
use lib.Bits.{bit_xor, xor_zero_r}
use lib.Dec.{leb}
use lib.ListN.{length, get_or, replicate, length-replicate, get_or-replicate, get_or-eq_default}
use lib.Seq.{ext_get_or}
use borrow.Author.Tests.{leb-false, leb-true, le-leb, lt-leb, eq-eqb, ne_eqb}
use Rattle.computed_tests.proofs.Tests.{and_both, one_to_in}
use Rattle.gf256.specs.Polynomial.{sum_below}
use Rattle.gf256.specs.Field.{product}
use Rattle.gf256.proofs.Xor.{xor_assoc}
use Rattle.gf256.proofs.Polynomials.{sum_below-same}
use Rattle.gf256.proofs.Products.{product_zero_l}
use Rattle.parity.specs.Parity.{Contents, is_file}
use Rattle.mul_add.specs.MulAdd.{mul_add_all}
use Rattle.mul_add.specs.Once.{Once}
use Rattle.mul_add.proofs.MulAdds.{length-mul_add_all}
use Rattle.mul_add.proofs.AnyOrder.{mul_add_all_once}
use Rattle.elimination.specs.Field.{sum}
use Rattle.elimination.proofs.Sums as S
use Rattle.elimination.proofs.Solutions.{by_columns}
use Rattle.elimination.specs.ByteField.{Byte, byte_eq}
use Rattle.elimination.proofs.ByteField.{sum_value}
use Rattle.recovery.specs.Recoverable.{State, is_volume, IsContents, place, present, weighted, IsWeights, ComeFrom}
use Rattle.recovery.proofs.Rows as R
use Rattle.recovery.proofs.Rows.{K, mask, cell}
open K use {𝟘, 𝟙, add as ◌⊕◌, mul as ◌⊗◌}

infixl 60 ◌⊕◌
infixl 70 ◌⊗◌
sum_below_split : (n m : ℕ) (g : ℕ → ℕ) → sum_below (n + m) g ≡ bit_xor (sum_below n g) (sum_below m (λ j. g (n + j)))
unfolding sum_below
sum_below_split n zero g = ap (λ (k : ℕ). sum_below k g) (Nat.add-zero n) ∙ sym (xor_zero_r (sum_below n g))
sum_below_split n (suc m) g =
    ap (λ (k : ℕ). sum_below k g) (Nat.add-suc n m) ∙ ap (λ (x : ℕ). bit_xor x (g (n + m))) (sum_below_split n m g)
    ∙ xor_assoc (sum_below n g) (sum_below m (λ j. g (n + j))) (g (n + m))

mask_value : (b : Bool) (x : ℕ) (y : Byte) → (b ≡ true → x ≡ y.0) → cond b x 0 ≡ (mask b y).0
unfolding mask
mask_value true x y h = h refl
mask_value false x y h = refl

present_in_range : (t : State) (k : ℕ) → present t k ≡ true → (0 < k) × (k ≤ 255)
present_in_range t k e = let both = and_both (leb 1 k) (leb k 255 && cond (leb k t.n) (t.files k) (t.volumes (k - t.n))) e in
    (leb-true 1 k both.0, leb-true k 255 (and_both (leb k 255) (cond (leb k t.n) (t.files k) (t.volumes (k - t.n))) both.1).0)

module _ (rule : ℕ → ℕ → ℕ) (small : (f v : ℕ) → f < 256 → rule f v < 256) (t : State) (fits : t.n ≤ 254)
    (X : Contents) (h_x : IsContents t X) (f : ℕ) (lf : f < t.n) (missing : t.files (suc f) ≡ false)
    (w : List ℕ) (W : IsWeights rule t (suc f) w) (fragment : ℕ → List ℕ) (from : ComeFrom rule t X fragment) where
  abbrev coef : ℕ → ℕ → Byte
  coef i s = R.coef rule small t fits i s

  abbrev rows : ℕ
  rows = 255 - t.n

  file : (i : ℕ) → i < t.n → is_file t.n (suc i) ≡ true
  file i l = one_to_in t.n (suc i) (omega arith) l

  present_file : (i : ℕ) → i < t.n → present t (suc i) ≡ t.files (suc i)
  present_file i l =
      ap₂ (λ (a b : Bool). a && (b && cond (leb (suc i) t.n) (t.files (suc i)) (t.volumes (suc i - t.n))))
      (le-leb 1 (suc i) (omega arith)) (le-leb (suc i) 255 (omega arith))
      ∙ ap (λ (c : Bool). cond c (t.files (suc i)) (t.volumes (suc i - t.n))) (le-leb (suc i) t.n l)

  present_volume : (s : ℕ) → s < rows → present t (suc (t.n + s)) ≡ t.volumes (suc s)
  present_volume s l = let k = suc (t.n + s) in
      ap₂ (λ (a b : Bool). a && (b && cond (leb k t.n) (t.files k) (t.volumes (k - t.n))))
      (le-leb 1 k (omega arith)) (le-leb k 255 (omega arith))
      ∙ ap (λ (c : Bool). cond c (t.files k) (t.volumes (k - t.n))) (lt-leb k t.n (omega arith))
      ∙ ap t.volumes (omega arith)

  weight : ℕ → Byte
  weight i = (get_or w i 0, W.bytes i)

  -- the weights of the volumes, times the coefficients of file i + 1
  total : ℕ → Byte
  total i = sum K rows (λ s. weight (t.n + s) ⊗ coef i s)

  total_weighted : (i : ℕ) → i < 255 → (total i).0 ≡ weighted rule t w (suc i)
  unfolding total weighted weight
  total_weighted i l =
      sum_value rows (λ s. weight (t.n + s) ⊗ coef i s)
      ∙ sum_below-same rows (λ s. (weight (t.n + s) ⊗ coef i s).0) (λ s. product (place w (t.n + suc s)) (rule (suc i) (suc s)))
      (λ s b. ap₂ (λ (k x : ℕ). product (get_or w k 0) x) (omega arith) (R.coef_value rule small t fits i s l))

  module _ (p : ℕ) where
    parity : ℕ → Byte
    parity s = sum K t.n (λ i. coef i s ⊗ cell X p i)

    number : ℕ → ℕ
    number i = cond (present t (suc i)) (product (place w (suc i)) (get_or (fragment (suc i)) p 0)) 0

    file_part : (i : ℕ) → i < t.n → number i ≡ (mask (t.files (suc i)) (total i ⊗ cell X p i)).0
    unfolding number
    file_part i l =
        ap (λ (b : Bool). cond b (product (place w (suc i)) (get_or (fragment (suc i)) p 0)) 0) (present_file i l)
        ∙ mask_value (t.files (suc i)) (product (place w (suc i)) (get_or (fragment (suc i)) p 0)) (total i ⊗ cell X p i)
        (λ e.
        ap₂ product (W.of_files (suc i) (file i l) e ∙ sym (total_weighted i (omega arith)))
        (from.of_file (suc i) (file i l) e p
        ∙ sym (R.cell_value rule small t fits X h_x p i l)))

    volume_part : (s : ℕ) → s < rows → number (t.n + s) ≡ (weight (t.n + s) ⊗ parity s).0
    unfolding number weight parity
    volume_part s l =
        ap (λ (b : Bool). cond b (product (place w (suc (t.n + s))) (get_or (fragment (suc (t.n + s))) p 0)) 0) (present_volume s l)
        ∙ go (t.volumes (suc s)) refl
      where
        volume : is_volume t.n (suc s) ≡ true
        volume = one_to_in (255 - t.n) (suc s) (omega arith) (omega arith)

        go : (b : Bool) → t.volumes (suc s) ≡ b
            → cond b (product (place w (suc (t.n + s))) (get_or (fragment (suc (t.n + s))) p 0)) 0
            ≡ product (get_or w (t.n + s) 0) (parity s).0
        go true e = let k : suc (t.n + s) ≡ t.n + suc s = omega arith in
            ap₂ (λ (i x : ℕ). product (get_or w i 0) x) (omega arith)
            (ap (λ (i : ℕ). get_or (fragment i) p 0) k ∙ from.of_volume (suc s) volume e p
            ∙ R.parity-sum rule small t fits X h_x s p)
        go false e =
            sym (ap (λ (x : ℕ). product x (parity s).0)
            (ap (λ (i : ℕ). get_or w i 0) (omega arith) ∙ W.of_unused (suc s) volume (λ u. true≢false (sym u.1 ∙ e)))
            ∙ product_zero_l (parity s).0)

    -- the volumes' terms, gathered by file
    gathered : sum K rows (λ s. weight (t.n + s) ⊗ parity s) ≡ sum K t.n (λ i. total i ⊗ cell X p i)
    unfolding parity total
    gathered = sym (by_columns K (λ s i. coef i s) t.n rows (λ s. weight (t.n + s)) (λ i. cell X p i))

    -- what a file leaves: nothing, but for the asked one
    left : ℕ → Byte
    left i = mask (t.files (suc i)) (total i ⊗ cell X p i) ⊕ total i ⊗ cell X p i

    left_other : (i : ℕ) → i < t.n → i ≢ f → left i ≡ 𝟘
    unfolding left mask
    left_other i l q = go (t.files (suc i)) refl (leb 1 (t.size (suc i))) refl
      where
        go : (b : Bool) → t.files (suc i) ≡ b → (c : Bool) → leb 1 (t.size (suc i)) ≡ c
            → mask b (total i ⊗ cell X p i) ⊕ total i ⊗ cell X p i ≡ 𝟘
        go true e c d = K.add_self (total i ⊗ cell X p i)
        go false e true d =
            K.zero-add (total i ⊗ cell X p i)
            ∙ ap (λ (a : Byte). a ⊗ cell X p i)
            (byte_eq (total i) 𝟘
            (total_weighted i (omega arith)
            ∙ W.columns (suc i) (file i l) (ap₂ (λ (x y : Bool). not x && y) e d)
            ∙ ap (λ (b : Bool). cond b 1 0) (ne_eqb (suc f) (suc i) (λ z. q (sym (suc_inj z))))))
            ∙ S.zero-mul K (cell X p i)
        go false e false d = let k : t.size (suc i) < 1 = leb-false 1 (t.size (suc i)) d in
            let m : length (X (suc i)) ≡ t.size (suc i) = (h_x (suc i) (file i l)).0 in
            K.zero-add (total i ⊗ cell X p i)
            ∙ ap (λ (a : Byte). total i ⊗ a)
            (byte_eq (cell X p i) 𝟘 (R.cell_value rule small t fits X h_x p i l ∙ get_or-eq_default (X (suc i)) 0 (omega arith)))
            ∙ S.mul-zero K (total i)

    left_asked : p < t.size (suc f) → left f ≡ cell X p f
    unfolding left mask
    left_asked l =
        ap (λ (b : Bool). mask b (total f ⊗ cell X p f) ⊕ total f ⊗ cell X p f) missing
        ∙ K.zero-add (total f ⊗ cell X p f)
        ∙ ap (λ (a : Byte). a ⊗ cell X p f)
        (byte_eq (total f) 𝟙
        (total_weighted f (omega arith)
        ∙ W.columns (suc f) (file f lf)
        (ap₂ (λ (x y : Bool). not x && y) missing (le-leb 1 (t.size (suc f)) (omega arith)))
        ∙ ap (λ (b : Bool). cond b 1 0) (eq-eqb (suc f) (suc f) refl)))
        ∙ K.one-mul (cell X p f)

    byte_left : p < t.size (suc f) → sum_below 255 number ≡ get_or (X (suc f)) p 0
    unfolding left
    byte_left l = let e : 255 ≡ t.n + rows = omega arith in
        ap (λ (k : ℕ). sum_below k number) e ∙ sum_below_split t.n rows number
        ∙ ap₂ bit_xor
        (sum_below-same t.n number (λ i. (mask (t.files (suc i)) (total i ⊗ cell X p i)).0) file_part
        ∙ sym (sum_value t.n (λ i. mask (t.files (suc i)) (total i ⊗ cell X p i))))
        (sum_below-same rows (λ s. number (t.n + s)) (λ s. (weight (t.n + s) ⊗ parity s).0) volume_part
        ∙ sym (sum_value rows (λ s. weight (t.n + s) ⊗ parity s)) ∙ ap (λ (x : Byte). x.0) gathered)
        ∙ ap (λ (x : Byte). x.0)
        (sym (S.sum_add K t.n (λ i. mask (t.files (suc i)) (total i ⊗ cell X p i)) (λ i. total i ⊗ cell X p i))
        ∙ S.sum_one K t.n f left lf left_other ∙ left_asked l)
        ∙ R.cell_value rule small t fits X h_x p f lf

  pub follow : (ks : List ℕ) → Once (present t) ks
      → mul_add_all (place w) fragment ks (replicate (t.size (suc f)) 0) ≡ X (suc f)
  unfolding number
  follow ks once =
      ext_get_or 0 made (X (suc f)) (made_length ∙ sym (h_x (suc f) (file f lf)).0)
      (λ p l.
      let b : p < t.size (suc f) = subst (λ (k : ℕ). p < k) made_length l in
      mul_add_all_once (place w) fragment 255 (present t) ks zeros once (present_in_range t) p
      (subst (λ (k : ℕ). p < k) (sym zeros-length) b)
      ∙ ap (λ (x : ℕ). bit_xor x (sum_below 255 (number p))) (get_or-replicate (t.size (suc f)) p 0 0 b)
      ∙ byte_left p b)
    where
      zeros : List ℕ
      zeros = replicate (t.size (suc f)) 0

      zeros-length : length zeros ≡ t.size (suc f)
      zeros-length = length-replicate {A = ℕ} (t.size (suc f)) 0

      made : List ℕ
      made = mul_add_all (place w) fragment ks zeros

      made_length : length made ≡ t.size (suc f)
      made_length = length-mul_add_all (place w) fragment ks zeros ∙ zeros-length
