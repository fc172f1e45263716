-- The laws of the parity of contents, over any rule for the coefficients.
--
--   length-parity, parity_at   the parity, byte by byte
--   file_le_greatest           no file is longer than the greatest size
--   parity_byte_end             past the greatest size the parity is 0
--   parity_byte_byte            the parity of bytes, by coefficients that are bytes, is a byte
-- Assumes nothing.
use mathlib.Core.Path.{◌≡◌, ap, ◌∙◌}
use mathlib.Core.Logic.{⊎_elim}
use Prim.Native.Nat.{ℕ, zero, suc, ◌<◌, ◌≤◌}
use native.Mathlib.Nat.{le_of_suc-le-suc, eq-or-lt_of_le}
use native.Mathlib.Omega.{arith}
use lib.ListN.{length, get_or, get_or-eq_default}
use Rattle.computed_tests.proofs.Lists.{length-list_below, list_below_at}
use Rattle.gf256.specs.Field.{product}
use Rattle.gf256.proofs.Polynomials.{sum_below_lt, sum_below-same, sum_below-none}
use Rattle.gf256.proofs.Products.{product_byte, product_zero_r}
use Rattle.parity.specs.Parity.{Contents, greatest, parity_byte, parity}

-- ---- the greatest size

pub file_le_greatest : (n : ℕ) (size : ℕ → ℕ) (f : ℕ) → 0 < f → f ≤ n → size f ≤ greatest n size
unfolding greatest
file_le_greatest zero size f pos h = absurd (omega arith)
file_le_greatest (suc n) size f pos h =
    ⊎_elim (λ (e : f ≡ suc n). let s = ap size e in omega arith)
    (λ (l : f < suc n). let s = file_le_greatest n size f pos (le_of_suc-le-suc l) in omega arith) (eq-or-lt_of_le h)

-- ---- the parity

module _ (rule : ℕ → ℕ → ℕ) (n : ℕ) (X : Contents) (v : ℕ) where
  pub length-parity : (m : ℕ) → length (parity rule n X v m) ≡ m
  unfolding parity
  length-parity m = length-list_below m (parity_byte rule n X v)

  pub parity_at : (m p : ℕ) → p < m → get_or (parity rule n X v m) p 0 ≡ parity_byte rule n X v p
  unfolding parity
  parity_at m p h = list_below_at m (parity_byte rule n X v) p h

  pub parity_byte_end : (p : ℕ) → greatest n (λ f. length (X f)) ≤ p → parity_byte rule n X v p ≡ 0
  unfolding parity_byte
  parity_byte_end p h =
      sum_below-same n (λ i. product (rule (suc i) v) (get_or (X (suc i)) p 0)) (λ i. 0)
      (λ i l.
      let s = file_le_greatest n (λ f. length (X f)) (suc i) (omega arith) l in
      ap (product (rule (suc i) v)) (get_or-eq_default (X (suc i)) 0 (omega arith))
      ∙ product_zero_r (rule (suc i) v))
      ∙ sum_below-none n

  pub parity_byte_byte : (p : ℕ) → ((f : ℕ) → 0 < f → f ≤ n → rule f v < 256)
      → ((f : ℕ) → get_or (X f) p 0 < 256) → parity_byte rule n X v p < 256
  unfolding parity_byte
  parity_byte_byte p hr h_x =
      sum_below_lt n 8 (λ i. product (rule (suc i) v) (get_or (X (suc i)) p 0))
      (λ i l. product_byte (rule (suc i) v) (get_or (X (suc i)) p 0) (hr (suc i) (omega arith) l) (h_x (suc i)))
