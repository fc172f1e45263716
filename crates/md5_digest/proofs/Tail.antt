-- The tail of a running hash: up to 64 bytes, and zeros.
--
--   tail_fill    bytes stored after those that are there
--   tail_first   bytes stored into zeros
--   tail_full    64 bytes need no zeros
--   take_tail    the bytes again
-- Assumes nothing.
use Rattle.std.proofs.Common.{◌≡◌, ℕ, zero, suc, ◌+◌, ◌-◌, List, [], ◌++◌, length, take, drop, replicate, sym, refl, ap, ◌∙◌, ap₂, append-nil, arith, length-append, take_at}
use native.Mathlib.Nat.{sub-zero, zero-sub, suc-sub-suc}
use lib.Seq.{paste, take-length, drop-append-add}
use Rattle.md5_digest.specs.Running.{tail_of}

drop-zeros : (n k : ℕ) → ◌≡◌ {A = List ℕ} (drop n (replicate k 0)) (replicate (k - n) 0)
drop-zeros zero k = ap (λ (j : ℕ). replicate {A = ℕ} j 0) (sym (sub-zero k))
drop-zeros (suc n) zero = ap (λ (j : ℕ). replicate {A = ℕ} j 0) (sym (zero-sub (suc n)))
drop-zeros (suc n) (suc k) = drop-zeros n k ∙ ap (λ (j : ℕ). replicate {A = ℕ} j 0) (sym (suc-sub-suc k n))

stored : (p s : List ℕ) → paste (tail_of p) (length p) s (length s) ≡ tail_of (p ++ s)
stored p s = let z : ℕ = 64 - length p in
    let left : 64 - length p - length s ≡ 64 - length (p ++ s) = omega (arith, length-append p s) in
    let after : drop (length p + length s) (tail_of p) ≡ replicate (64 - length (p ++ s)) 0
    = drop-append-add p (replicate z 0) (length s) ∙ drop-zeros (length s) z ∙ ap (λ (k : ℕ). replicate {A = ℕ} k 0) left in
    ap₂ (λ (k l : List ℕ). k ++ l) (ap₂ (λ (k l : List ℕ). k ++ l) (take_at p (replicate z 0) (length p) refl) (take-length s)) after

pub tail_fill : (p s : List ℕ) {at : ℕ} {t u : List ℕ} → length p ≡ at → t ≡ tail_of p → u ≡ paste t at s (length s) → u ≡ tail_of (p ++ s)
tail_fill p s e f g = g ∙ ap₂ (λ (l : List ℕ) (k : ℕ). paste l k s (length s)) f (sym e) ∙ stored p s

pub tail_first : (s : List ℕ) {u : List ℕ} → u ≡ paste (replicate 64 0) 0 s (length s) → u ≡ tail_of s
tail_first s g = tail_fill [] s refl refl g

pub tail_full : (s : List ℕ) → length s ≡ 64 → tail_of s ≡ s
tail_full s h = ap (λ (k : ℕ). s ++ replicate (64 - k) 0) h ∙ append-nil s

pub take_tail : (s : List ℕ) → take (length s) (tail_of s) ≡ s
take_tail s = take_at s (replicate (64 - length s) 0) (length s) refl
