-- The loop of `add_multiples`, byte by byte.
--
--   combined ms x       what the byte x of the fragment adds
--   add_multiples_none   before the first byte
--   add_multiples_more   one byte further
--   add_multiples_all    at the end of the shorter of the two
-- Assumes nothing.
use mathlib.Core.Path.{◌≡◌, refl, sym, ap, ap₂, ◌∙◌}
use mathlib.Core.List.{List, [], ◌∷◌}
use Prim.Native.Nat.{ℕ, zero, suc, ◌+◌, ◌*◌, ◌≤◌, ◌<◌, min}
use native.Mathlib.Nat.{le_of_suc-le-suc, not-suc-le-zero}
use native.Mathlib.Numerals.{add-one}
use native.Mathlib.Omega.{arith}
use lib.Bits.{bit_xor}
use lib.ListN.{length, get_or, take, set}
use Rattle.gf256.specs.Polynomial.{coeff, sum_below}
use Rattle.mul_add.specs.MulAdd.{add_multiples}

-- what a byte of the fragment adds
abbrev pub combined : List ℕ → ℕ → ℕ
combined ms x = sum_below 8 (λ i. coeff x i * get_or ms i 0)

pub add_multiples_none : (ms xs bs : List ℕ) → bs ≡ add_multiples ms (take 0 xs) bs
unfolding add_multiples
add_multiples_none ms xs bs = refl

-- byte i of the buffer c gains y
gain : List ℕ → ℕ → ℕ → List ℕ
gain c i y = set c i (bit_xor (get_or c i 0) y)

add_multiples_suc : (ms xs bs : List ℕ) (i : ℕ) → i < length xs → i < length bs
    → gain (add_multiples ms (take i xs) bs) i (combined ms (get_or xs i 0)) ≡ add_multiples ms (take (suc i) xs) bs
unfolding gain add_multiples
add_multiples_suc ms [] bs i hx hb = absurd (not-suc-le-zero hx)
add_multiples_suc ms (x ∷ xs) [] i hx hb = absurd (not-suc-le-zero hb)
add_multiples_suc ms (x ∷ xs) (b ∷ bs) zero hx hb = refl
add_multiples_suc ms (x ∷ xs) (b ∷ bs) (suc i) hx hb =
    ap (λ (l : List ℕ). bit_xor b (combined ms x) ∷ l) (add_multiples_suc ms xs bs i (le_of_suc-le-suc hx) (le_of_suc-le-suc hb))

-- the buffer c has the first i bytes of the fragment, and y is what byte i gains
pub add_multiples_more : (ms xs bs : List ℕ) (i : ℕ) {c : List ℕ} {y : ℕ}
    → c ≡ add_multiples ms (take i xs) bs → y ≡ combined ms (get_or xs i 0) → i < length xs → i < length bs
    → set c i (bit_xor (get_or c i 0) y) ≡ add_multiples ms (take (i + 1) xs) bs
unfolding gain
add_multiples_more ms xs bs i ec ey hx hb =
    ap₂ (λ (c : List ℕ) (y : ℕ). gain c i y) ec ey ∙ add_multiples_suc ms xs bs i hx hb
    ∙ ap (λ (k : ℕ). add_multiples ms (take k xs) bs) (sym (add-one i))

pub add_multiples_all : (ms xs bs : List ℕ) (i : ℕ) → min (length xs) (length bs) ≤ i
    → add_multiples ms (take i xs) bs ≡ add_multiples ms xs bs
unfolding add_multiples
add_multiples_all ms [] bs zero h = refl
add_multiples_all ms [] bs (suc i) h = refl
add_multiples_all ms (x ∷ xs) [] zero h = refl
add_multiples_all ms (x ∷ xs) [] (suc i) h = refl
add_multiples_all ms (x ∷ xs) (b ∷ bs) zero h = absurd (omega arith)
add_multiples_all ms (x ∷ xs) (b ∷ bs) (suc i) h =
    ap (λ (l : List ℕ). bit_xor b (combined ms x) ∷ l) (add_multiples_all ms xs bs i (omega arith))
