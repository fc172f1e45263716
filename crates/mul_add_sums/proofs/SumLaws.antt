-- The laws of the calls that add a fragment to a buffer, at once or in chunks, from C too.
--
--   adds_alike      any way the buffer is that of mul_add, of which the laws are known
--   adds_short      it stays one that can be lent
--   two_adds        one after the other
--   two_fragments, two_weights, twice_restores, either_order, sum_called    the claims
-- Assumes nothing.
use mathlib.Core.Path.{◌≡◌, refl, sym, ap, ap₂, ◌∙◌}
use mathlib.Core.List.{List, [], ◌∷◌}
use Prim.Native.Nat.{ℕ, zero, suc, ◌<◌}
use native.Mathlib.Omega.{arith}
use lib.Bits.{bit_xor}
use lib.ListN.{length, get_or}
use Rattle.gf256.proofs.Products.{product_one_l}
use Rattle.job_bytes.proofs.MulAddChunks.{mul_add_bytes_one_buffer}
use Rattle.jobs.specs.Claim.{lend_limit}
use Rattle.little_endian.specs.Bytes.{Bytes}
use Rattle.mul_add.specs.MulAdd.{mul_add, sum_bytes}
use Rattle.mul_add.proofs.MulAdds.{length-mul_add, mul_add_fragments, mul_add_weights, mul_add_twice, mul_add_order}
use Rattle.running_mul_add.proofs.Chunks.{one_buffer}
use Rattle.mul_add_sums.specs.Adding.{Adds, at_once, in_chunks, in_chunks_from_c}
use Rattle.mul_add_sums.specs.Claim.{AddsAlike, TwoFragments, TwoWeights, TwiceRestores, EitherOrder, SumCalled}

pub adds_alike : AddsAlike
adds_alike w xs b c h (at_once e) = e
adds_alike w xs b c h (in_chunks cs cut e) = e ∙ one_buffer w cs b h ∙ ap (λ (l : List ℕ). mul_add w l b) cut
adds_alike w xs b c h (in_chunks_from_c start cs weight cut e) = cc (mul_add_bytes_one_buffer start cs b h)

pub adds_short : (w : ℕ) (xs b c : List ℕ) → length b < lend_limit → Adds w xs b c → length c < lend_limit
adds_short w xs b c h p = omega (arith, ap length (adds_alike w xs b c h p), length-mul_add w xs b)

pub two_adds : (v w : ℕ) (xs ys b c d : List ℕ) → length b < lend_limit → Adds v xs b c → Adds w ys c d → d ≡ mul_add w ys (mul_add v xs b)
two_adds v w xs ys b c d h p q = adds_alike w ys c d (adds_short v xs b c h p) q ∙ ap (mul_add w ys) (adds_alike v xs b c h p)

pub two_fragments : TwoFragments
two_fragments w xs ys b c d e h same p q r =
    two_adds w w xs ys b c d h p q ∙ mul_add_fragments w xs ys b same ∙ sym (adds_alike w (sum_bytes xs ys) b e h r)

pub two_weights : TwoWeights
two_weights v w xs b c d e h p q r = two_adds v w xs xs b c d h p q ∙ mul_add_weights v w xs b ∙ sym (adds_alike (bit_xor v w) xs b e h r)

pub twice_restores : TwiceRestores
twice_restores w xs b c d h p q = two_adds w w xs xs b c d h p q ∙ mul_add_twice w xs b

pub either_order : EitherOrder
either_order v w xs ys b c d c' d' h p q p' q' = cc (two_adds v w xs ys b c d h p q, mul_add_order v w xs ys b, two_adds w v ys xs b c' d' h p' q')

-- ---- the weight 1

pub mul_add_one : (xs ys : List ℕ) → length ys ≡ length xs → Bytes ys → mul_add 1 ys xs ≡ sum_bytes xs ys
unfolding mul_add sum_bytes
mul_add_one [] [] e h = refl
mul_add_one [] (y ∷ ys) e h = absurd (omega arith)
mul_add_one (x ∷ xs) [] e h = absurd (omega arith)
mul_add_one (x ∷ xs) (y ∷ ys) e h =
    ap₂ (λ (z : ℕ) (zs : List ℕ). z ∷ zs) (ap (bit_xor x) (product_one_l y (h zero))) (mul_add_one xs ys (omega arith) (λ i. h (suc i)))

sum_at : (xs ys : List ℕ) → length ys ≡ length xs → (p : ℕ) → get_or (sum_bytes xs ys) p 0 ≡ bit_xor (get_or xs p 0) (get_or ys p 0)
unfolding sum_bytes
sum_at [] [] e p = refl
sum_at [] (y ∷ ys) e p = absurd (omega arith)
sum_at (x ∷ xs) [] e p = absurd (omega arith)
sum_at (x ∷ xs) (y ∷ ys) e zero = refl
sum_at (x ∷ xs) (y ∷ ys) e (suc p) = sum_at xs ys (omega arith) p

pub sum_called : SumCalled
sum_called xs ys c h e bytes p = let sum : c ≡ sum_bytes xs ys = adds_alike 1 ys xs c h p ∙ mul_add_one xs ys e bytes in
    (sum, λ p. ap (λ (l : List ℕ). get_or l p 0) sum ∙ sum_at xs ys e p)
