-- The laws of `mul_add`, which is what `mul_add` promises.
--
--   length-mul_add, length-mul_add_all   the buffer keeps its length
--   mul_add_at                         byte p of the buffer
--   byte_by_byte                      which bytes gain what
--   mul_add_fragments                  two equally long fragments with one weight: their sum, once
--   mul_add_weights                    one fragment with two weights: once, with the sum of the weights
--   mul_add_zero                       the weight 0 leaves the buffer
--   mul_add_twice                      twice restores the buffer
--   mul_add_order                      two fragments in either order
--   mul_add-sum, mul_add_all-sum         into one of two buffers that are then summed: into their sum
--   mul_add_all-append                  many fragments, then more
--   mul_add_all_shares                  two shares of the fragments, each added to zeros, sum to the whole
-- Assumes nothing.
use mathlib.Core.Path.{◌≡◌, refl, sym, ap, ap₂, ◌∙◌}
use mathlib.Core.List.{List, [], ◌∷◌, ◌++◌}
use Prim.Native.Nat.{ℕ, zero, suc, ◌<◌, ◌≤◌}
use native.Mathlib.Nat.{le_of_suc-le-suc, not-suc-le-zero}
use native.Mathlib.Omega.{arith}
use lib.Bits.{bit_xor, xor_comm, xor_self, xor_zero_r}
use lib.ListN.{length, get_or, replicate, length-replicate}
use Rattle.gf256.specs.Field.{product}
use Rattle.gf256.proofs.Xor.{xor_assoc}
use Rattle.gf256.proofs.Products.{product_xor_l, product_xor_r, product_zero_l, product_zero_r}
use Rattle.mul_add.specs.MulAdd.{mul_add, mul_add_all, sum_bytes}
use Rattle.mul_add.specs.Claim.{ByteByByte, TwoFragments, TwoWeights, ZeroWeight, TwiceRestores, EitherOrder, TwoShares}

-- two lists with equal first bytes and equal rests
cons : {x y : ℕ} {xs ys : List ℕ} → x ≡ y → xs ≡ ys → ◌≡◌ {A = List ℕ} (x ∷ xs) (y ∷ ys)
cons e es = ap₂ (λ (x : ℕ) (xs : List ℕ). x ∷ xs) e es

-- ---- one fragment

pub length-mul_add : (w : ℕ) (xs bs : List ℕ) → length (mul_add w xs bs) ≡ length bs
unfolding mul_add
length-mul_add w [] bs = refl
length-mul_add w (x ∷ xs) [] = refl
length-mul_add w (x ∷ xs) (b ∷ bs) = ap suc (length-mul_add w xs bs)

-- a fragment that has ended counts as zero
pub mul_add_at : (w : ℕ) (xs bs : List ℕ) (p : ℕ) → p < length bs
    → get_or (mul_add w xs bs) p 0 ≡ bit_xor (get_or bs p 0) (product w (get_or xs p 0))
unfolding mul_add
mul_add_at w [] bs p h = sym (ap (bit_xor (get_or bs p 0)) (product_zero_r w) ∙ xor_zero_r (get_or bs p 0))
mul_add_at w (x ∷ xs) [] p h = absurd (not-suc-le-zero h)
mul_add_at w (x ∷ xs) (b ∷ bs) zero h = refl
mul_add_at w (x ∷ xs) (b ∷ bs) (suc p) h = mul_add_at w xs bs p (le_of_suc-le-suc h)

-- past the end of the fragment, inside the buffer and past it
mul_add_past : (w : ℕ) (xs bs : List ℕ) (p : ℕ) → length xs ≤ p → get_or (mul_add w xs bs) p 0 ≡ get_or bs p 0
unfolding mul_add
mul_add_past w [] bs p h = refl
mul_add_past w (x ∷ xs) [] p h = refl
mul_add_past w (x ∷ xs) (b ∷ bs) zero h = absurd (not-suc-le-zero h)
mul_add_past w (x ∷ xs) (b ∷ bs) (suc p) h = mul_add_past w xs bs p (le_of_suc-le-suc h)

pub byte_by_byte : ByteByByte
byte_by_byte w xs bs = (length-mul_add w xs bs, λ p l h. mul_add_at w xs bs p h, mul_add_past w xs bs)

pub mul_add_fragments : TwoFragments
unfolding mul_add sum_bytes
mul_add_fragments w [] [] bs e = refl
mul_add_fragments w [] (y ∷ ys) bs e = absurd (omega arith)
mul_add_fragments w (x ∷ xs) [] bs e = absurd (omega arith)
mul_add_fragments w (x ∷ xs) (y ∷ ys) [] e = refl
mul_add_fragments w (x ∷ xs) (y ∷ ys) (b ∷ bs) e =
    cons (xor_assoc b (product w x) (product w y) ∙ ap (bit_xor b) (sym (product_xor_r w x y)))
    (mul_add_fragments w xs ys bs (omega arith))

pub mul_add_weights : TwoWeights
unfolding mul_add
mul_add_weights v w [] bs = refl
mul_add_weights v w (x ∷ xs) [] = refl
mul_add_weights v w (x ∷ xs) (b ∷ bs) =
    cons (xor_assoc b (product v x) (product w x) ∙ ap (bit_xor b) (sym (product_xor_l v w x)))
    (mul_add_weights v w xs bs)

pub mul_add_zero : ZeroWeight
unfolding mul_add
mul_add_zero [] bs = refl
mul_add_zero (x ∷ xs) [] = refl
mul_add_zero (x ∷ xs) (b ∷ bs) = cons (ap (bit_xor b) (product_zero_l x) ∙ xor_zero_r b) (mul_add_zero xs bs)

pub mul_add_twice : TwiceRestores
mul_add_twice w xs bs = mul_add_weights w w xs bs ∙ ap (λ (v : ℕ). mul_add v xs bs) (xor_self w) ∙ mul_add_zero xs bs

pub mul_add_order : EitherOrder
unfolding mul_add
mul_add_order v w [] ys bs = refl
mul_add_order v w (x ∷ xs) [] bs = refl
mul_add_order v w (x ∷ xs) (y ∷ ys) [] = refl
mul_add_order v w (x ∷ xs) (y ∷ ys) (b ∷ bs) =
    cons
    (xor_assoc b (product v x) (product w y) ∙ ap (bit_xor b) (xor_comm (product v x) (product w y))
    ∙ sym (xor_assoc b (product w y) (product v x)))
    (mul_add_order v w xs ys bs)

mul_add-sum : (w : ℕ) (xs cs bs : List ℕ) → sum_bytes cs (mul_add w xs bs) ≡ mul_add w xs (sum_bytes cs bs)
unfolding mul_add sum_bytes
mul_add-sum w [] cs bs = refl
mul_add-sum w (x ∷ xs) [] bs = refl
mul_add-sum w (x ∷ xs) (c ∷ cs) [] = refl
mul_add-sum w (x ∷ xs) (c ∷ cs) (b ∷ bs) = cons (sym (xor_assoc c b (product w x))) (mul_add-sum w xs cs bs)

-- ---- many fragments

module _ (weight : ℕ → ℕ) (fragment : ℕ → List ℕ) where
  pub length-mul_add_all : (ks bs : List ℕ) → length (mul_add_all weight fragment ks bs) ≡ length bs
  unfolding mul_add_all
  length-mul_add_all [] bs = refl
  length-mul_add_all (k ∷ ks) bs = length-mul_add_all ks (mul_add (weight k) (fragment k) bs) ∙ length-mul_add (weight k) (fragment k) bs

  mul_add_all-sum : (ks cs bs : List ℕ)
      → sum_bytes cs (mul_add_all weight fragment ks bs) ≡ mul_add_all weight fragment ks (sum_bytes cs bs)
  unfolding mul_add_all
  mul_add_all-sum [] cs bs = refl
  mul_add_all-sum (k ∷ ks) cs bs =
      mul_add_all-sum ks cs (mul_add (weight k) (fragment k) bs)
      ∙ ap (mul_add_all weight fragment ks) (mul_add-sum (weight k) (fragment k) cs bs)

  mul_add_all-append : (ks ls bs : List ℕ)
      → mul_add_all weight fragment (ks ++ ls) bs ≡ mul_add_all weight fragment ls (mul_add_all weight fragment ks bs)
  unfolding mul_add_all
  mul_add_all-append [] ls bs = refl
  mul_add_all-append (k ∷ ks) ls bs = mul_add_all-append ks ls (mul_add (weight k) (fragment k) bs)

sum_bytes-zeros : (m : ℕ) (cs : List ℕ) → length cs ≡ m → sum_bytes cs (replicate m 0) ≡ cs
unfolding sum_bytes
sum_bytes-zeros zero [] e = refl
sum_bytes-zeros zero (c ∷ cs) e = absurd (omega arith)
sum_bytes-zeros (suc m) [] e = absurd (omega arith)
sum_bytes-zeros (suc m) (c ∷ cs) e = cons (xor_zero_r c) (sum_bytes-zeros m cs (omega arith))

pub mul_add_all_shares : TwoShares
mul_add_all_shares weight fragment ks ls m = let share = mul_add_all weight fragment ks (replicate m 0) in
    mul_add_all-sum weight fragment ls share (replicate m 0)
    ∙ ap (mul_add_all weight fragment ls)
    (sum_bytes-zeros m share (length-mul_add_all weight fragment ks (replicate m 0) ∙ length-replicate m 0))
    ∙ sym (mul_add_all-append weight fragment ks ls (replicate m 0))
