-- Parts of lists.
--
--   part_take, number_take    a part of the first n elements, or a number in them, is that of the list
--   part_to_end           the part from a position to the end, as code takes it
--   split, split_number   a list from a position on is a part, or a number, and the list from the position after it on
-- Assumes nothing.
use mathlib.Core.Path.{◌≡◌, refl, sym, ap, ◌∙◌}
use mathlib.Core.List.{List, [], ◌∷◌, ◌++◌}
use Prim.Native.Nat.{ℕ, zero, suc, ◌+◌, ◌-◌, ◌≤◌}
use native.Mathlib.Omega.{arith}
use lib.ListN.{length, take, drop, length-drop, take-append-drop}
use lib.Seq.{take-take, take_all, drop-drop}
use Rattle.little_endian.specs.Bytes.{Bytes, from_le, to_le, le_at}
use Rattle.little_endian.proofs.Reading.{to_le_at}

pub part_take : (i k n : ℕ) (s : List ℕ) → i + k ≤ n → take k (drop i (take n s)) ≡ take k (drop i s)
part_take zero k n s h = take-take k n s (omega arith)
part_take (suc i) k zero s h = absurd (omega arith)
part_take (suc i) k (suc n) [] h = refl
part_take (suc i) k (suc n) (b ∷ s) h = part_take i k n s (omega arith)

pub number_take : (k i n : ℕ) (s : List ℕ) → i + k ≤ n → le_at k (take n s) i ≡ le_at k s i
unfolding le_at
number_take k i n s h = ap from_le (part_take i k n s h)

pub part_to_end : (s : List ℕ) (at : ℕ) → take (length s - at) (drop at s) ≡ drop at s
part_to_end s at = take_all (length s - at) (drop at s) (omega (arith, length-drop at s))

pub split : (k i : ℕ) (f : List ℕ) → drop i f ≡ take k (drop i f) ++ drop (i + k) f
split k i f = sym (take-append-drop k (drop i f)) ∙ ap (λ (q : List ℕ). take k (drop i f) ++ q) (drop-drop k i f)

pub split_number : (k i : ℕ) (f : List ℕ) → Bytes f → i + k ≤ length f → drop i f ≡ to_le k (le_at k f i) ++ drop (i + k) f
split_number k i f h fits = split k i f ∙ ap (λ (p : List ℕ). p ++ drop (i + k) f) (sym (to_le_at k f i h fits))
