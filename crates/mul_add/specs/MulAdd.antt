-- A weight times a fragment, added to a buffer (document 01, "The parity bytes": folding a piece).
--
--   mul_add w fragment buffer              one fragment, with the weight w
--   add_multiples ms fragment buffer       one fragment, bit by bit: with a multiple for each bit of a byte
--   mul_add_by ps es w fragment buffer      one fragment, by a table ps of powers of 2 and a table es of exponents
--   mul_add_all weight fragment ks buffer   for each number k in ks, one after another, fragment k with weight k
--   sum_bytes xs ys                        the sum of two equally long lists, byte by byte
-- Assumes nothing.
use Rattle.std.specs.Prelude.{ℕ, ◌*◌, List, [], ◌∷◌, cond, eqb, get_or}
use Rattle.std.specs.Int.Bits.{bit_xor}
use Rattle.gf256.specs.Polynomial.{coeff, sum_below}
use Rattle.gf256.specs.Field.{product}
use Rattle.gf256.specs.Tables.{eight_from}

-- "buffer byte p gains weight times piece byte p, for each p that lies in both; other buffer bytes stay"
unfoldable pub mul_add : ℕ → List ℕ → List ℕ → List ℕ
mul_add w [] buffer = buffer
mul_add w (x ∷ fragment) [] = []
mul_add w (x ∷ fragment) (b ∷ buffer) = bit_xor b (product w x) ∷ mul_add w fragment buffer

-- the same, where bit i of a fragment's byte counts as ms i
unfoldable pub add_multiples : List ℕ → List ℕ → List ℕ → List ℕ
add_multiples ms [] buffer = buffer
add_multiples ms (x ∷ fragment) [] = []
add_multiples ms (x ∷ fragment) (b ∷ buffer) = bit_xor b (sum_below 8 (λ i. coeff x i * get_or ms i 0)) ∷ add_multiples ms fragment buffer

-- document 02, 2026-04: "use tables of logarithms and powers": the multiples are the eight powers from the weight's exponent on
unfoldable pub mul_add_by : List ℕ → List ℕ → ℕ → List ℕ → List ℕ → List ℕ
mul_add_by ps es w fragment buffer = cond (eqb w 0) buffer (add_multiples (eight_from ps (get_or es w 0)) fragment buffer)

-- "Every saved file folded with its factor", "folding each piece .. with its weight"
unfoldable pub mul_add_all : (ℕ → ℕ) → (ℕ → List ℕ) → List ℕ → List ℕ → List ℕ
mul_add_all weight fragment [] buffer = buffer
mul_add_all weight fragment (k ∷ ks) buffer = mul_add_all weight fragment ks (mul_add (weight k) (fragment k) buffer)

-- "Sum is exclusive or"
unfoldable pub sum_bytes : List ℕ → List ℕ → List ℕ
sum_bytes [] ys = []
sum_bytes (x ∷ xs) [] = []
sum_bytes (x ∷ xs) (y ∷ ys) = bit_xor x y ∷ sum_bytes xs ys
