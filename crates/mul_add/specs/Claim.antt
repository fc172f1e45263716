-- What is promised of adding multiples of fragments to a buffer (document 01, "The parity bytes": folding; document 02, 2026-12,
-- "Folding obeys the sums"), for all weights, fragments and buffers.
--
--   ByteByByte         which bytes gain what
--   TwoFragments       two equally long fragments with one weight: their sum, once
--   TwoWeights         one fragment with two weights: once, with the sum of the weights
--   ZeroWeight         the weight 0 leaves the buffer
--   TwiceRestores      twice restores the buffer
--   EitherOrder        two fragments in either order
--   AnyOrder           any number of fragments, once each, in any order
--   TwoShares          two shares of the fragments, each added to zeros, sum to the whole
-- Assumes nothing.
use Rattle.std.specs.Prelude.{◌≡◌, Bool, true, List, ◌++◌, ℕ, ◌<◌, ◌≤◌, length, get_or, replicate}
use Rattle.std.specs.Int.Bits.{bit_xor}
use Rattle.gf256.specs.Field.{product}
use Rattle.mul_add.specs.MulAdd.{mul_add, mul_add_all, sum_bytes}
use Rattle.mul_add.specs.Once.{Once}

-- "buffer byte p gains weight times piece byte p, for each p that lies in both; other buffer bytes stay"; proved: proofs/MulAdds.antt, `byte_by_byte`
abbrev pub ByteByByte : Type 0
ByteByByte =
    (w : ℕ) (xs bs : List ℕ)
    → (length (mul_add w xs bs) ≡ length bs)
    × ((p : ℕ) → p < length xs → p < length bs → get_or (mul_add w xs bs) p 0 ≡ bit_xor (get_or bs p 0) (product w (get_or xs p 0)))
    × ((p : ℕ) → length xs ≤ p → get_or (mul_add w xs bs) p 0 ≡ get_or bs p 0)

-- "folding two equally long pieces with one weight equals folding their byte-by-byte sum"; proved: proofs/MulAdds.antt, `mul_add_fragments`
abbrev pub TwoFragments : Type 0
TwoFragments =
    (w : ℕ) (xs ys bs : List ℕ) → length xs ≡ length ys → mul_add w ys (mul_add w xs bs) ≡ mul_add w (sum_bytes xs ys) bs

-- "folding one piece with two weights equals folding it once with the sum of the weights"; proved: proofs/MulAdds.antt, `mul_add_weights`
abbrev pub TwoWeights : Type 0
TwoWeights = (v w : ℕ) (xs bs : List ℕ) → mul_add w xs (mul_add v xs bs) ≡ mul_add (bit_xor v w) xs bs

-- proved: proofs/MulAdds.antt, `mul_add_zero`
abbrev pub ZeroWeight : Type 0
ZeroWeight = (xs bs : List ℕ) → mul_add 0 xs bs ≡ bs

-- "the same fold done twice restores the buffer"; proved: proofs/MulAdds.antt, `mul_add_twice`
abbrev pub TwiceRestores : Type 0
TwiceRestores = (w : ℕ) (xs bs : List ℕ) → mul_add w xs (mul_add w xs bs) ≡ bs

-- "folds in either order end the same"; proved: proofs/MulAdds.antt, `mul_add_order`
abbrev pub EitherOrder : Type 0
EitherOrder = (v w : ℕ) (xs ys bs : List ℕ) → mul_add w ys (mul_add v xs bs) ≡ mul_add v xs (mul_add w ys bs)

-- "in any order, once each", of fragments numbered from 1 to some n; proved: proofs/AnyOrder.antt, `any_order`
abbrev pub AnyOrder : Type 0
AnyOrder =
    (weight : ℕ → ℕ) (fragment : ℕ → List ℕ) (n : ℕ) (chosen : ℕ → Bool) (ks ls bs : List ℕ)
    → ((k : ℕ) → chosen k ≡ true → (0 < k) × (k ≤ n)) → Once chosen ks → Once chosen ls
    → mul_add_all weight fragment ks bs ≡ mul_add_all weight fragment ls bs

-- "each folds its share .. into zeros .., the two buffers summed"; proved: proofs/MulAdds.antt, `mul_add_all_shares`
abbrev pub TwoShares : Type 0
TwoShares =
    (weight : ℕ → ℕ) (fragment : ℕ → List ℕ) (ks ls : List ℕ) (m : ℕ)
    → sum_bytes (mul_add_all weight fragment ks (replicate m 0)) (mul_add_all weight fragment ls (replicate m 0))
    ≡ mul_add_all weight fragment (ks ++ ls) (replicate m 0)
