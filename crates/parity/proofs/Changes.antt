-- The parity of files of which one has changed, over any rule for the coefficients.
--
--   sum_one                       a sum with one term that gained d
--   parity_gains                  one file changed: each byte gains the coefficient times the difference
--   parity_longer                 zeros after the end of every file are the parity still
--   stretched w at old new z      a list z to which old and new bytes, times w, were added from the place on
--   stretched_before, stretched_from    its bytes, before the place and from it on
--   parity_stretched              the parity after a file changed from a place on
-- Assumes nothing.
use mathlib.Core.Path.{◌≡◌, sym, ap, ap₂, ◌∙◌, subst}
use mathlib.Core.List.{List, ◌++◌}
use mathlib.Core.Logic.{⊎_elim}
use Prim.Native.Nat.{ℕ, zero, suc, ◌+◌, ◌-◌, ◌≤◌, ◌<◌}
use native.Mathlib.Nat.{eq-or-lt_of_le}
use native.Mathlib.Decide.{dec_lt}
use native.Mathlib.Omega.{arith}
use lib.Bits.{bit_xor, xor_comm, xor_zero_r}
use lib.ListN.{length, take, drop, get_or, replicate, length-append, length-drop, length-replicate}
use lib.ListN.{get_or-replicate, get_or-append, get_or-eq_default}
use lib.Seq.{ext_get_or, length-take-le, get_or-take, get_or-drop, get_or-append-add}
use Rattle.gf256.specs.Polynomial.{sum_below}
use Rattle.gf256.specs.Field.{product}
use Rattle.gf256.proofs.Xor.{xor_assoc}
use Rattle.gf256.proofs.Polynomials.{sum_below-same, sum_below-none}
use Rattle.gf256.proofs.Products.{product_xor_r, product_zero_r}
use Rattle.mul_add.specs.MulAdd.{mul_add}
use Rattle.mul_add.proofs.MulAdds.{length-mul_add, mul_add_at}
use Rattle.parity.specs.Parity.{Contents, parity_byte, parity}
use Rattle.parity.proofs.Parities.{length-parity, parity_at}

-- ---- a sum with one term that gained d

sum_one : (n k d : ℕ) (f g : ℕ → ℕ) → k < n → ((i : ℕ) → i < n → (i ≡ k → ⊥) → g i ≡ f i) → g k ≡ bit_xor (f k) d
    → sum_below n g ≡ bit_xor (sum_below n f) d
unfolding sum_below
sum_one zero k d f g h same gain = absurd (omega arith)
sum_one (suc n) k d f g h same gain =
    ⊎_elim
    (λ (e : k ≡ n).
    let last : g n ≡ bit_xor (f n) d = subst (λ (i : ℕ). g i ≡ bit_xor (f i) d) e gain in
    ap₂ bit_xor (sum_below-same n g f (λ i l. same i (omega arith) (λ q. omega arith))) last
    ∙ sym (xor_assoc (sum_below n f) (f n) d))
    (λ (l : k < n).
    ap₂ bit_xor (sum_one n k d f g l (λ i h. same i (omega arith)) gain) (same n (omega arith) (λ q. omega arith))
    ∙ xor_assoc (sum_below n f) d (f n) ∙ ap (bit_xor (sum_below n f)) (xor_comm d (f n)) ∙ sym (xor_assoc (sum_below n f) (f n) d))
    (eq-or-lt_of_le (below h))
  where
    below : k < suc n → k ≤ n
    below h = omega arith

-- ---- a list to which a stretch was added

abbrev pub stretched : ℕ → ℕ → List ℕ → List ℕ → List ℕ → List ℕ
stretched w at old new z = take at z ++ mul_add w new (mul_add w old (drop at z))

module _ (w at : ℕ) (old new z : List ℕ) where
  pub length_stretched : at ≤ length z → length (stretched w at old new z) ≡ length z
  length_stretched h = let b : List ℕ = mul_add w new (mul_add w old (drop at z)) in
      let n : length b ≡ length (drop at z) = length-mul_add w new _ ∙ length-mul_add w old (drop at z) in
      omega (arith, length-append (take at z) b, length-take-le at z h, length-drop at z)

  pub stretched_before : (p : ℕ) → at ≤ length z → p < at → get_or (stretched w at old new z) p 0 ≡ get_or z p 0
  stretched_before p h l = let n : length (take at z) ≡ at = length-take-le at z h in
      get_or-append (take at z) _ 0 p (omega arith) ∙ get_or-take at z p 0 l

  pub stretched_from : (q : ℕ) → at + q < length z
      → get_or (stretched w at old new z) (at + q) 0 ≡ bit_xor (get_or z (at + q) 0) (product w (bit_xor (get_or old q 0) (get_or new q 0)))
  stretched_from q h = let n : length (take at z) ≡ at = length-take-le at z (omega arith) in
      let b : List ℕ = drop at z in
      let o : List ℕ = mul_add w old b in
      let lb : length b ≡ length z - at = length-drop at z in
      let lo : length o ≡ length b = length-mul_add w old b in
      ap (λ (k : ℕ). get_or (take at z ++ mul_add w new o) (k + q) 0) (sym n) ∙ get_or-append-add (take at z) _ q 0
      ∙ mul_add_at w new o q (omega arith)
      ∙ ap (λ (x : ℕ). bit_xor x (product w (get_or new q 0))) (mul_add_at w old b q (omega arith))
      ∙ xor_assoc (get_or b q 0) (product w (get_or old q 0)) (product w (get_or new q 0))
      ∙ ap₂ bit_xor (get_or-drop at z q 0) (sym (product_xor_r w (get_or old q 0) (get_or new q 0)))

-- ---- one file has changed

module _ (rule : ℕ → ℕ → ℕ) (n : ℕ) (X Y : Contents) (v f : ℕ) (low : 1 ≤ f) (high : f ≤ n)
    (same : (g : ℕ) → 1 ≤ g → g ≤ n → (g ≡ f → ⊥) → Y g ≡ X g) where
  parity_gains : (p d : ℕ) → get_or (Y f) p 0 ≡ bit_xor (get_or (X f) p 0) d
      → parity_byte rule n Y v p ≡ bit_xor (parity_byte rule n X v p) (product (rule f v) d)
  unfolding parity_byte
  parity_gains p d e = let k : ℕ = f - 1 in
      let number : suc k ≡ f = omega arith in
      sum_one n k (product (rule f v) d) (λ i. product (rule (suc i) v) (get_or (X (suc i)) p 0)) (λ i. product (rule (suc i) v) (get_or (Y (suc i)) p 0))
      (omega arith)
      (λ i l q. ap (λ (m : List ℕ). product (rule (suc i) v) (get_or m p 0)) (same (suc i) (omega arith) (omega arith) (λ z. q (omega arith))))
      (subst (λ (g : ℕ). product (rule g v) (get_or (Y g) p 0) ≡ bit_xor (product (rule g v) (get_or (X g) p 0)) (product (rule f v) d)) (sym number)
      (ap (product (rule f v)) e ∙ product_xor_r (rule f v) (get_or (X f) p 0) d))

  parity_stays : (p : ℕ) → get_or (Y f) p 0 ≡ get_or (X f) p 0 → parity_byte rule n Y v p ≡ parity_byte rule n X v p
  parity_stays p e =
      parity_gains p 0 (e ∙ sym (xor_zero_r _)) ∙ ap (bit_xor (parity_byte rule n X v p)) (product_zero_r (rule f v)) ∙ xor_zero_r _

  -- before the place it is the same, and from the place on it gained the old bytes and the new ones
  pub parity_stretched : (k at : ℕ) (old new : List ℕ) → at ≤ k → ((p : ℕ) → p < at → get_or (Y f) p 0 ≡ get_or (X f) p 0)
      → ((q : ℕ) → get_or (Y f) (at + q) 0 ≡ bit_xor (get_or (X f) (at + q) 0) (bit_xor (get_or old q 0) (get_or new q 0)))
      → parity rule n Y v k ≡ stretched (rule f v) at old new (parity rule n X v k)
  parity_stretched k at old new inside before gains = let w : ℕ = rule f v in
      let z : List ℕ = parity rule n X v k in
      let lz : length z ≡ k = length-parity rule n X v k in
      let ly : length (parity rule n Y v k) ≡ k = length-parity rule n Y v k in
      let size = length_stretched w at old new z (omega arith) in
      ext_get_or 0 (parity rule n Y v k) (stretched w at old new z) (ly ∙ sym lz ∙ sym size)
      (λ p h. parity_at rule n Y v k p (omega arith) ∙ by p (omega arith) (dec_lt p at))
    where
      by : (p : ℕ) → p < k → Dec (p < at) → parity_byte rule n Y v p ≡ get_or (stretched (rule f v) at old new (parity rule n X v k)) p 0
      by p h (yes l) = let z : List ℕ = parity rule n X v k in
          let lz : length z ≡ k = length-parity rule n X v k in
          parity_stays p (before p l) ∙ sym (parity_at rule n X v k p h) ∙ sym (stretched_before (rule f v) at old new z p (omega arith) l)
      by p h (no l) = let z : List ℕ = parity rule n X v k in
          let lz : length z ≡ k = length-parity rule n X v k in
          let q : ℕ = p - at in
          let here : at + q ≡ p = omega arith in
          let d : ℕ = bit_xor (get_or old q 0) (get_or new q 0) in
          subst (λ (j : ℕ). parity_byte rule n Y v j ≡ get_or (stretched (rule f v) at old new z) j 0) here
          (parity_gains (at + q) d (gains q)
          ∙ ap (λ (x : ℕ). bit_xor x (product (rule f v) d)) (sym (parity_at rule n X v k (at + q) (omega arith)))
          ∙ sym (stretched_from (rule f v) at old new z q (omega arith)))

-- ---- longer data

module _ (rule : ℕ → ℕ → ℕ) (n : ℕ) (X : Contents) (v m k : ℕ) (ends : (g : ℕ) → 1 ≤ g → g ≤ n → length (X g) ≤ m) (longer : m ≤ k) where
  -- past the end of every file the parity is 0
  parity_past : (p : ℕ) → m ≤ p → parity_byte rule n X v p ≡ 0
  unfolding parity_byte
  parity_past p h =
      sum_below-same n (λ i. product (rule (suc i) v) (get_or (X (suc i)) p 0)) (λ i. 0)
      (λ i l.
      let s = ends (suc i) (omega arith) (omega arith) in
      ap (product (rule (suc i) v)) (get_or-eq_default (X (suc i)) 0 (omega arith)) ∙ product_zero_r (rule (suc i) v))
      ∙ sum_below-none n

  pub parity_longer : parity rule n X v m ++ replicate (k - length (parity rule n X v m)) 0 ≡ parity rule n X v k
  parity_longer = let d : List ℕ = parity rule n X v m in
      let ld : length d ≡ m = length-parity rule n X v m in
      let zeros : List ℕ = replicate (k - length d) 0 in
      let lz : length (d ++ zeros) ≡ k = omega (arith, length-append d zeros, length-replicate {A = ℕ} (k - length d) 0) in
      ext_get_or 0 (d ++ zeros) (parity rule n X v k) (lz ∙ sym (length-parity rule n X v k))
      (λ p h. by p (omega arith) (dec_lt p m) ∙ sym (parity_at rule n X v k p (omega arith)))
    where
      by : (p : ℕ) → p < k → Dec (p < m) → get_or (parity rule n X v m ++ replicate (k - length (parity rule n X v m)) 0) p 0 ≡ parity_byte rule n X v p
      by p h (yes l) = let ld : length (parity rule n X v m) ≡ m = length-parity rule n X v m in
          get_or-append (parity rule n X v m) _ 0 p (omega arith) ∙ parity_at rule n X v m p l
      by p h (no l) = let d : List ℕ = parity rule n X v m in
          let ld : length d ≡ m = length-parity rule n X v m in
          let q : ℕ = p - length d in
          let at : length d + q ≡ p = omega arith in
          ap (λ (j : ℕ). get_or (d ++ replicate (k - length d) 0) j 0) (sym at) ∙ get_or-append-add d (replicate (k - length d) 0) q 0
          ∙ get_or-replicate (k - length d) q 0 0 (omega arith) ∙ sym (parity_past p (omega arith))
