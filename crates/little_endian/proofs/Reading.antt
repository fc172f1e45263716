-- The number in k bytes of a list, from a place on. The place may be any: past the end bytes count as 0.
--
--   le_at_zero, le_at_suc, le_at_byte   a number byte by byte
--   le_at_add       a number of j + k bytes is that of its j low bytes, plus 256 ^ j times that of the next k
--   le_at_out       past the end it is 0
--   le_at_below     it is below 256 ^ k
--   le_at-same      lists with the same bytes there have the same number there
--   le_at-drop, le_at-append   a number of a part, and of the first of two lists in a row
--   to_le_at        the bytes of the number there are the bytes there
--   byte_past       the byte there, where places stop at a last one past the end
--   le_at_bytes     the number that std makes of the k + 1 bytes there
-- Assumes nothing.
use mathlib.Core.Path.{◌≡◌, refl, sym, ap, ap₂, ◌∙◌}
use Prim.Native.Nat.{ℕ, zero, suc, ◌+◌, ◌*◌, ◌^◌, ◌≤◌, ◌<◌, min}
use native.Mathlib.Nat.{mul_comm, pow-zero, pow-succ', zero-add, add-zero, suc-add, mul_assoc}
use native.Mathlib.Numerals.{add-one}
use native.Mathlib.Omega.{arith}
use mathlib.Core.List.{List, [], ◌∷◌, ◌++◌}
use lib.ListN.{length, take, drop, get_or, length-drop, drop_of_length-le, get_or-append}
use lib.Seq.{take-nil, drop-drop, length-take-le}
use Rattle.std.specs.Int.{byte_worth, sum_through}
use Rattle.std.specs.Prelude.{slice_index}
use Rattle.little_endian.specs.Bytes.{Bytes, from_le, to_le, le_at}
use Rattle.little_endian.proofs.Numbers.{bytes_take, bytes_drop, to_from}
use Rattle.little_endian.proofs.Past.{at_min}

-- ---- byte by byte

le_at_zero : (s : List ℕ) (i : ℕ) → le_at 0 s i ≡ 0
unfolding le_at from_le
le_at_zero s i = refl

pub le_at_suc : (k : ℕ) (s : List ℕ) (i : ℕ) → le_at (suc k) s i ≡ get_or s i 0 + 256 * le_at k s (suc i)
unfolding le_at from_le
le_at_suc k [] zero = rw take-nil (omega arith)
le_at_suc k [] (suc i) = rw take-nil (omega arith)
le_at_suc k (b ∷ s) zero = refl
le_at_suc k (b ∷ s) (suc i) = le_at_suc k s i

pub le_at_byte : (s : List ℕ) (i : ℕ) → le_at 1 s i ≡ get_or s i 0
le_at_byte s i = le_at_suc 0 s i ∙ omega (arith, le_at_zero s (suc i))

le_at-same : (k : ℕ) (s t : List ℕ) (i : ℕ) → ((p : ℕ) → i ≤ p → p < i + k → get_or s p 0 ≡ get_or t p 0)
    → le_at k s i ≡ le_at k t i
le_at-same zero s t i h = le_at_zero s i ∙ sym (le_at_zero t i)
le_at-same (suc k) s t i h = let low = h i (omega arith) (omega arith) in
    let rest = le_at-same k s t (suc i) (λ p from to. h p (omega arith) (omega arith)) in
    rw (le_at_suc k s i, le_at_suc k t i, low, rest)

pub le_at_out : (k : ℕ) (s : List ℕ) (i : ℕ) → length s ≤ i → le_at k s i ≡ 0
unfolding le_at from_le
le_at_out k s i h = simp (drop_of_length-le s h, take-nil)

pub le_at_below : (k : ℕ) (s : List ℕ) (i : ℕ) → Bytes s → le_at k s i < 256 ^ k
le_at_below zero s i h = rw (le_at_zero, pow-zero) (omega arith)
le_at_below (suc k) s i h = rw (le_at_suc k s i, pow-succ') (omega (arith, h i, le_at_below k s (suc i) h))

-- ---- of a part, and of two lists in a row

pub le_at-drop : (k : ℕ) (s : List ℕ) (i j : ℕ) → le_at k (drop i s) j ≡ le_at k s (i + j)
unfolding le_at
le_at-drop k s i j = rw drop-drop

pub le_at-append : (k : ℕ) (s t : List ℕ) (i : ℕ) → i + k ≤ length s → le_at k (s ++ t) i ≡ le_at k s i
le_at-append k s t i h = le_at-same k (s ++ t) s i (λ p from to. get_or-append s t 0 p (omega arith))

pub to_le_at : (k : ℕ) (s : List ℕ) (i : ℕ) → Bytes s → i + k ≤ length s → to_le k (le_at k s i) ≡ take k (drop i s)
unfolding le_at
to_le_at k s i h fits = let part = take k (drop i s) in
    let size : length part ≡ k = length-take-le k (drop i s) (omega (arith, length-drop i s)) in
    ap (λ (m : ℕ). to_le m (from_le part)) (sym size) ∙ to_from part (bytes_take k (drop i s) (bytes_drop i s h))

-- ---- of two parts, and of bytes

le_at_add : (j k : ℕ) (s : List ℕ) (i : ℕ) → le_at (j + k) s i ≡ le_at j s i + 256 ^ j * le_at k s (i + j)
le_at_add zero k s i = rw (zero-add, add-zero, le_at_zero, pow-zero) (omega arith)
le_at_add (suc j) k s i = let next : suc i + j ≡ i + suc j = omega arith in
    let more = le_at_add j k s (suc i) in
    rw (suc-add, le_at_suc (j + k), le_at_suc j, pow-succ', mul_assoc) (omega (arith, rw next at more))

pub byte_past : (s : List ℕ) (i m : ℕ) → length s ≤ m → le_at 1 s (min i m) ≡ get_or s i 0
byte_past s i m h = at_min (le_at 1 s) i m (λ past. le_at_out 1 s m h ∙ sym (le_at_out 1 s i (omega arith))) ∙ le_at_byte s i

pub le_at_bytes : (k : ℕ) (b s : List ℕ) (i : ℕ) → ((j : ℕ) → j < suc k → slice_index b j ≡ slice_index s (i + j))
    → sum_through (λ j. byte_worth j (slice_index b j)) k ≡ le_at (suc k) s i
le_at_bytes zero b s i h = h 0 (omega arith) ∙ rw add-zero (sym (le_at_byte s i))
le_at_bytes (suc k) b s i h = let top : ℕ = get_or s (i + suc k) 0 in
    let more : le_at (suc (suc k)) s i ≡ le_at (suc k) s i + 256 ^ suc k * top =
    ap (λ (j : ℕ). le_at j s i) (sym (add-one (suc k))) ∙ le_at_add (suc k) 1 s i
    ∙ ap (λ (b : ℕ). le_at (suc k) s i + 256 ^ suc k * b) (le_at_byte s (i + suc k)) in
    ap₂ (λ (x y : ℕ). x + y * 256 ^ suc k) (le_at_bytes k b s i (λ j l. h j (omega arith))) (h (suc k) (omega arith))
    ∙ ap (λ (x : ℕ). le_at (suc k) s i + x) (mul_comm top (256 ^ suc k)) ∙ sym more
