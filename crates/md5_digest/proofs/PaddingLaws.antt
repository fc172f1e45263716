-- The padding of a message.
--
--   padding_aligns   a padded message is whole blocks, by as few zeros as can be
--   padding_mod      only the length modulo 2 ^ 64 counts
--   padding_is       what the code's buffer holds in its first bytes
-- Assumes nothing.
use Rattle.std.proofs.Common.{◌≡◌, ℕ, ◌+◌, ◌-◌, ◌*◌, ◌%◌, ◌^◌, ◌≤◌, List, ◌∷◌, ◌++◌, length, take, drop, replicate, sym, ap, ◌∙◌, ap₂, add-one, arith, length-append, take_at}
use lib.ListN.{length-replicate, replicate-append-replicate}
use lib.Seq.{sets, sets-eq}
use Rattle.little_endian.specs.Bytes.{to_le}
use Rattle.little_endian.proofs.Numbers.{length-to_le, to_mod}
use Rattle.md5_digest.specs.Padding.{zeros, padding}
use Rattle.md5_digest.specs.Claim.{PaddingAligns}

pub padding_aligns : PaddingAligns
unfolding zeros
padding_aligns n = (omega arith, omega arith)

pub padding_mod : (n : ℕ) → padding (n % 2 ^ 64) ≡ padding n
unfolding padding zeros
padding_mod n = let e : n % 2 ^ 64 % 64 ≡ n % 64 = omega arith in
    let f : 8 * (n % 2 ^ 64) % 2 ^ 64 ≡ 8 * n % 2 ^ 64 = omega arith in
    ap₂ (λ (k : ℕ) (l : List ℕ). 128 ∷ replicate ((119 - k) % 64) 0 ++ l) e (sym (to_mod 8 (8 * (n % 2 ^ 64))) ∙ ap (to_le 8) f ∙ to_mod 8 (8 * n))

take-zeros : (k n : ℕ) → k ≤ n → ◌≡◌ {A = List ℕ} (take k (replicate n 0)) (replicate k 0)
take-zeros k n h = let e : n ≡ k + (n - k) = omega arith in
    ap (λ (j : ℕ). take {A = ℕ} k (replicate j 0)) e
    ∙ ap (take {A = ℕ} k) (sym (replicate-append-replicate k (n - k) 0))
    ∙ take_at (replicate k 0) (replicate (n - k) 0) k (length-replicate k 0)

pub padding_is : (n : ℕ) → take (zeros n + 9) (sets (128 ∷ replicate 71 0) (zeros n + 1) (to_le 8 (n * 8 % 2 ^ 64))) ≡ padding n
unfolding padding zeros
padding_is n = let z : ℕ = zeros n in
    let bits : ℕ = n * 8 % 2 ^ 64 in
    let front : List ℕ = 128 ∷ replicate z 0 in
    let head : take (z + 1) (128 ∷ replicate 71 0) ≡ front = rw add-one (ap (λ (l : List ℕ). 128 ∷ l) (take-zeros z 71 (omega arith))) in
    let stored = sets-eq (to_le 8 bits) (128 ∷ replicate 71 0) (z + 1) (omega (arith, length-to_le 8 bits, length-replicate {A = ℕ} 71 0)) in
    let len : length (front ++ to_le 8 bits) ≡ z + 9 = length-append front (to_le 8 bits) ∙ omega (arith, length-replicate {A = ℕ} z 0, length-to_le 8 bits) in
    let same : bits % 2 ^ 64 ≡ 8 * n % 2 ^ 64 = omega arith in
    ap (take (z + 9)) (stored ∙ ap (λ (l : List ℕ). l ++ to_le 8 bits ++ drop (z + 1 + length (to_le 8 bits)) (128 ∷ replicate 71 0)) head)
    ∙ take_at (front ++ to_le 8 bits) (drop (z + 1 + length (to_le 8 bits)) (128 ∷ replicate 71 0)) (z + 9) len
    ∙ ap (λ (l : List ℕ). front ++ l) (sym (to_mod 8 bits) ∙ ap (to_le 8) same ∙ to_mod 8 (8 * n))
