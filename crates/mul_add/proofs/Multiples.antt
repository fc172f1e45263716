-- What the multiples of a weight add, its products with 1, 2, 4, .., 128: the weight times the fragment.
--
--   eight_in_a_row     the multiples that `mul_add_by` reads
--   by_tables          with the multiples that the tables give
-- Assumes nothing.
use mathlib.Core.Path.{◌≡◌, refl, sym, ap, ap₂, ◌∙◌}
use mathlib.Core.Bool.{Bool, cond}
use mathlib.Core.List.{List, [], ◌∷◌}
use Prim.Native.Nat.{ℕ, ◌+◌, ◌*◌, ◌^◌, ◌<◌}
use native.Mathlib.Nat.{add-zero, pos_of_ne-zero}
use native.Mathlib.Decide.{ℕ_discrete}
use lib.Bits.{bit_xor}
use lib.Dec.{eqb}
use lib.ListN.{get_or}
use borrow.Author.Tests.{eq-eqb, ne_eqb}
use Rattle.computed_tests.specs.Lists.{list_below}
use Rattle.gf256.specs.Polynomial.{coeff, sum_below}
use Rattle.gf256.specs.Field.{product}
use Rattle.gf256.specs.Tables.{IsTables, eight_from}
use Rattle.gf256.specs.declared.tables.Tables.{Tables}
use Rattle.gf256.proofs.Polynomials.{sum_below-same}
use Rattle.gf256.proofs.Products.{product_bits}
use Rattle.gf256.proofs.TableLaws.{eight_by_tables}
use Rattle.mul_add.specs.MulAdd.{mul_add, mul_add_by, add_multiples}
use Rattle.mul_add.proofs.MulAdds.{mul_add_zero}

pub eight_in_a_row : (ps : List ℕ) (e : ℕ)
    → get_or ps e 0 ∷ get_or ps (e + 1) 0 ∷ get_or ps (e + 2) 0 ∷ get_or ps (e + 3) 0 ∷ get_or ps (e + 4) 0 ∷ get_or ps (e + 5) 0 ∷ get_or ps (e + 6) 0
    ∷ get_or ps (e + 7) 0 ∷ []
    ≡ eight_from ps e
unfolding eight_from list_below
eight_in_a_row ps e =
    ap
    (λ (n : ℕ).
    get_or ps n 0 ∷ get_or ps (e + 1) 0 ∷ get_or ps (e + 2) 0 ∷ get_or ps (e + 3) 0 ∷ get_or ps (e + 4) 0 ∷ get_or ps (e + 5) 0 ∷ get_or ps (e + 6) 0
    ∷ get_or ps (e + 7) 0 ∷ []) (sym (add-zero e))

-- the multiples of w
abbrev Multiples : List ℕ → ℕ → Type 0
Multiples ms w = (i : ℕ) → i < 8 → get_or ms i 0 ≡ product w (2 ^ i)

-- those at the places of the bits of x sum to the product by x
combine_product : (ms : List ℕ) (w x : ℕ) → Multiples ms w → sum_below 8 (λ i. coeff x i * get_or ms i 0) ≡ product w x
combine_product ms w x e =
    sum_below-same 8 (λ i. coeff x i * get_or ms i 0) (λ i. coeff x i * product w (2 ^ i)) (λ i l. ap (λ (y : ℕ). coeff x i * y) (e i l))
    ∙ sym (product_bits w x)

each_byte : (ms : List ℕ) (w : ℕ) → Multiples ms w → (xs bs : List ℕ) → add_multiples ms xs bs ≡ mul_add w xs bs
unfolding add_multiples mul_add
each_byte ms w e [] bs = refl
each_byte ms w e (x ∷ xs) [] = refl
each_byte ms w e (x ∷ xs) (b ∷ bs) = ap₂ (λ (y : ℕ) (l : List ℕ). bit_xor b y ∷ l) (combine_product ms w x e) (each_byte ms w e xs bs)

pub by_tables : (t : Tables) → IsTables t → (w : ℕ) → w < 256 → (xs bs : List ℕ) → mul_add_by t.powers t.exponents w xs bs ≡ mul_add w xs bs
unfolding mul_add_by
by_tables t is w h xs bs = elim (ℕ_discrete w 0) [
  | yes e ↦ by_weight (eq-eqb w 0 e) ∙ sym (ap (λ (v : ℕ). mul_add v xs bs) e ∙ mul_add_zero xs bs)
  | no q ↦ by_weight (ne_eqb w 0 q) ∙ each_byte ms w (eight_by_tables t is w (pos_of_ne-zero q) h) xs bs
]
  where
    ms : List ℕ
    ms = eight_from t.powers (get_or t.exponents w 0)

    by_weight : {z : Bool} → eqb w 0 ≡ z → mul_add_by t.powers t.exponents w xs bs ≡ cond z bs (add_multiples ms xs bs)
    by_weight e = ap (λ (z : Bool). cond z bs (add_multiples ms xs bs)) e
