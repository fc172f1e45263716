-- A number and the list of its bytes, at any width.
--
--   bytes_take,
--   bytes_drop    parts of bytes are bytes
--   bytes_append  bytes and bytes after them are bytes
--   bytes_to_le    and so are those of a number
--   length-to_le   the k lowest bytes are k
--   to_add        j + k bytes are the j lowest bytes, then the next k
--   to_mod        only the number modulo 256 ^ k counts
--   low_first     std's k lowest bytes are these
--   from_to       a number turned into k bytes and back is the number modulo 256 ^ k
--   to_from       bytes turned into a number and back are the same bytes
-- Assumes nothing.
use mathlib.Core.Path.{◌≡◌, refl, sym, ap, ap₂, ◌∙◌}
use Prim.Native.Nat.{ℕ, zero, suc, ◌+◌, ◌*◌, ◌/◌, ◌%◌, ◌^◌, ◌<◌}
use native.Mathlib.Nat.{pow-suc, zero-lt-suc, zero-add, suc-add, mod-one, div-one, one-le-pow, div-div-eq-div-mul, pow-succ'}
use native.Mathlib.Omega.{arith}
use mathlib.Core.List.{List, [], ◌∷◌, ◌++◌}
use lib.ListN.{length, take, drop}
use lib.Arith.{mod-mul}
use lib.Seq.{get_or-drop}
use Rattle.std.specs.Int.{bytes_low_first}
use Rattle.little_endian.specs.Bytes.{Bytes, from_le, to_le}

-- ---- Bytes

pub bytes_take : (n : ℕ) (s : List ℕ) → Bytes s → Bytes (take n s)
bytes_take zero s h i = zero-lt-suc 255
bytes_take (suc n) [] h i = zero-lt-suc 255
bytes_take (suc n) (b ∷ s) h zero = h 0
bytes_take (suc n) (b ∷ s) h (suc i) = bytes_take n s (λ p. h (suc p)) i

pub bytes_drop : (n : ℕ) (s : List ℕ) → Bytes s → Bytes (drop n s)
bytes_drop n s h i = rw get_or-drop (h (n + i))

pub bytes_append : (s t : List ℕ) → Bytes s → Bytes t → Bytes (s ++ t)
bytes_append [] t h k i = k i
bytes_append (b ∷ s) t h k zero = h 0
bytes_append (b ∷ s) t h k (suc i) = bytes_append s t (λ p. h (suc p)) k i

-- ---- 256 ^ k

pow_pos : (k : ℕ) → zero < 256 ^ k
pow_pos k = one-le-pow k 256 (zero-lt-suc 255)

-- a number of one more byte: its lowest byte is kept, the others are those of n / 256
mod_suc : (k n : ℕ) → n % 256 ^ suc k ≡ n % 256 + 256 * (n / 256 % 256 ^ k)
mod_suc k n = ap (λ (m : ℕ). n % m) (pow-suc 256 k) ∙ omega (arith, mod-mul n {m = 256 ^ k} {c = 256} (pow_pos k) (zero-lt-suc 255))

-- ---- to_le

pub length-to_le : (k n : ℕ) → length (to_le k n) ≡ k
unfolding to_le
length-to_le zero n = refl
length-to_le (suc k) n = ap suc (length-to_le k (n / 256))

pub bytes_to_le : (k n : ℕ) → Bytes (to_le k n)
unfolding to_le
bytes_to_le zero n i = zero-lt-suc 255
bytes_to_le (suc k) n zero = omega arith
bytes_to_le (suc k) n (suc i) = bytes_to_le k (n / 256) i

pub to_add : (j k n : ℕ) → to_le (j + k) n ≡ to_le j n ++ to_le k (n / 256 ^ j)
unfolding to_le
to_add zero k n = ap₂ to_le (zero-add k) (sym (div-one n))
to_add (suc j) k n = rw (suc-add, to_add j k (n / 256), pow-succ', div-div-eq-div-mul)

pub to_mod : (k n : ℕ) → to_le k (n % 256 ^ k) ≡ to_le k n
unfolding to_le
to_mod zero n = refl
to_mod (suc k) n = let low : n % 256 ^ suc k % 256 ≡ n % 256 = omega (arith, mod_suc k n) in
    let rest : n % 256 ^ suc k / 256 ≡ n / 256 % 256 ^ k = omega (arith, mod_suc k n) in
    rw (low, rest, to_mod k (n / 256))

low_from : (i k n : ℕ) → bytes_low_first i k n ≡ to_le k (n / 256 ^ i)
unfolding to_le
low_from i zero n = refl
low_from zero (suc k) n = rw div-one (ap (λ (l : List ℕ). n % 256 ∷ l) (low_from 1 k n))
low_from (suc i) (suc k) n = let next : n / 256 ^ suc (suc i) ≡ n / 256 ^ suc i / 256 = ap (λ (m : ℕ). n / m) (pow-suc 256 (suc i)) ∙ sym (div-div-eq-div-mul n (256 ^ suc i) 256) in
    ap (λ (l : List ℕ). n / 256 ^ suc i % 256 ∷ l) (low_from (suc (suc i)) k n ∙ ap (to_le k) next)

pub low_first : (k n : ℕ) → bytes_low_first 0 k n ≡ to_le k n
low_first k n = low_from 0 k n ∙ ap (to_le k) (div-one n)

-- ---- both ways

pub from_to : (k n : ℕ) → from_le (to_le k n) ≡ n % 256 ^ k
unfolding from_le to_le
from_to zero n = sym (mod-one n)
from_to (suc k) n = ap (λ (m : ℕ). n % 256 + 256 * m) (from_to k (n / 256)) ∙ sym (mod_suc k n)

pub to_from : (s : List ℕ) → Bytes s → to_le (length s) (from_le s) ≡ s
unfolding from_le to_le
to_from [] h = refl
to_from (b ∷ s) h = let byte : b < 256 = h 0 in
    let low : (b + 256 * from_le s) % 256 ≡ b = omega arith in
    let rest : (b + 256 * from_le s) / 256 ≡ from_le s = omega arith in
    rw (low, rest, to_from s (λ i. h (suc i)))
