-- Many fragments added to a buffer, in any order: what byte p gains.
--
--   mul_add_all_at     the sum over the list of fragments
--   mul_add_all_once   after each chosen fragment once, in any order: the sum over those of 1, 2, .., n that are chosen
--   any_order        so the order is of no account
-- Assumes nothing.
use mathlib.Core.Path.{◌≡◌, sym, ap, ◌∙◌}
use mathlib.Core.Bool.{Bool, true, cond}
use mathlib.Core.List.{List, [], ◌∷◌}
use Prim.Native.Nat.{ℕ, suc, ◌<◌, ◌≤◌}
use native.Mathlib.Omega.{arith}
use lib.Bits.{bit_xor, xor_zero_r}
use lib.ListN.{length, get_or}
use lib.Seq.{ext_get_or}
use Rattle.gf256.specs.Polynomial.{sum_below}
use Rattle.gf256.specs.Field.{product}
use Rattle.gf256.proofs.Xor.{xor_assoc}
use Rattle.mul_add.specs.MulAdd.{mul_add, mul_add_all}
use Rattle.mul_add.specs.Once.{Once}
use Rattle.mul_add.specs.Claim.{AnyOrder}
use Rattle.mul_add.proofs.MulAdds.{length-mul_add, mul_add_at, length-mul_add_all}
use Rattle.mul_add.proofs.Sums.{sum_over, sum_over_once}

module _ (weight : ℕ → ℕ) (fragment : ℕ → List ℕ) where
  mul_add_all_at : (ks bs : List ℕ) (p : ℕ) → p < length bs
      → get_or (mul_add_all weight fragment ks bs) p 0
      ≡ bit_xor (get_or bs p 0) (sum_over (λ k. product (weight k) (get_or (fragment k) p 0)) ks)
  unfolding mul_add_all sum_over
  mul_add_all_at [] bs p h = sym (xor_zero_r (get_or bs p 0))
  mul_add_all_at (k ∷ ks) bs p h = let x = product (weight k) (get_or (fragment k) p 0) in
      let rest = sum_over (λ k. product (weight k) (get_or (fragment k) p 0)) ks in
      let l = length-mul_add (weight k) (fragment k) bs in
      mul_add_all_at ks (mul_add (weight k) (fragment k) bs) p (omega arith)
      ∙ ap (λ (z : ℕ). bit_xor z rest) (mul_add_at (weight k) (fragment k) bs p h) ∙ xor_assoc (get_or bs p 0) x rest

  pub mul_add_all_once : (n : ℕ) (chosen : ℕ → Bool) (ks bs : List ℕ) → Once chosen ks
      → ((k : ℕ) → chosen k ≡ true → (0 < k) × (k ≤ n)) → (p : ℕ) → p < length bs
      → get_or (mul_add_all weight fragment ks bs) p 0
      ≡ bit_xor (get_or bs p 0)
      (sum_below n (λ i. cond (chosen (suc i)) (product (weight (suc i)) (get_or (fragment (suc i)) p 0)) 0))
  mul_add_all_once n chosen ks bs once inside p h =
      mul_add_all_at ks bs p h
      ∙ ap (bit_xor (get_or bs p 0)) (sum_over_once (λ k. product (weight k) (get_or (fragment k) p 0)) n chosen ks once inside)

pub any_order : AnyOrder
any_order weight fragment n chosen ks ls bs inside once once' = let size = length-mul_add_all weight fragment ks bs in
    ext_get_or 0 (mul_add_all weight fragment ks bs) (mul_add_all weight fragment ls bs) (size ∙ sym (length-mul_add_all weight fragment ls bs))
    (λ p h.
    mul_add_all_once weight fragment n chosen ks bs once inside p (omega arith)
    ∙ sym (mul_add_all_once weight fragment n chosen ls bs once' inside p (omega arith)))
