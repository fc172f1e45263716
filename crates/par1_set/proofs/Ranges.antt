-- The rules on the number and the data size of a volume and of an index, in numbers.
--
--   volume_number, number_range    a volume's number and the number of its files
--   volume_size                    a volume's data size
--   index_number, index_range      the number of files of an index
--   index_size, index_even         the size of its comment
-- Assumes nothing.
use mathlib.Core.Path.{◌≡◌, sym, ap, ◌∙◌}
use mathlib.Core.Bool.{Bool, true, false, ◌&&◌, ◌||◌}
use Prim.Native.Nat.{ℕ, ◌+◌, ◌%◌, ◌≤◌}
use native.Mathlib.Omega.{arith}
use lib.Dec.{leb, eqb}
use borrow.Author.Tests.{leb-true, le-leb, eqb-true, eq-eqb, ne_eqb}
use Rattle.computed_tests.proofs.Tests.{and_both}
use Rattle.par1_rules.specs.Rules.{number_allowed, data_allowed}

-- ---- volumes

pub volume_number : (v n : ℕ) → 1 ≤ v → 1 ≤ n → v + n ≤ 255 → number_allowed v n ≡ true
unfolding number_allowed
volume_number v n low count high =
    simp (le-leb n 254 (omega arith), ne_eqb v 0 (λ z. omega arith), le-leb 1 n count, le-leb (v + n) 255 high)

pub number_range : (v n : ℕ) → 1 ≤ v → number_allowed v n ≡ true → (1 ≤ n) × (v + n ≤ 255)
unfolding number_allowed
number_range v n low e = let both = and_both (leb n 254) _ e in
    let z : eqb v 0 ≡ false = ne_eqb v 0 (λ z. omega arith) in
    let two = and_both (leb 1 n) (leb (v + n) 255) (sym (ap (λ (b : Bool). b || (leb 1 n && leb (v + n) 255)) z) ∙ both.1) in
    (leb-true _ _ two.0, leb-true _ _ two.1)

pub volume_size : (v n : ℕ) {greatest : ℕ} → 1 ≤ v → n ≡ greatest → data_allowed v greatest n ≡ true
unfolding data_allowed
volume_size v n {greatest} low e = simp (ne_eqb v 0 (λ z. omega arith), eq-eqb n greatest e)

-- ---- the index

pub index_number : (n : ℕ) → n ≤ 254 → number_allowed 0 n ≡ true
unfolding number_allowed
index_number n h = simp (le-leb n 254 h)

pub index_range : (n : ℕ) → number_allowed 0 n ≡ true → n ≤ 254
unfolding number_allowed
index_range n e = leb-true n 254 (and_both (leb n 254) true e).0

pub index_size : (greatest n : ℕ) → n % 2 ≡ 0 → data_allowed 0 greatest n ≡ true
unfolding data_allowed
index_size greatest n e = eq-eqb (n % 2) 0 e

pub index_even : (greatest n : ℕ) → data_allowed 0 greatest n ≡ true → n % 2 ≡ 0
unfolding data_allowed
index_even greatest n e = eqb-true (n % 2) 0 e
