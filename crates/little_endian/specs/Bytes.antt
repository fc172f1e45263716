-- Numbers as bytes, lowest first, at any width.
--
--   Bytes s      each element of s is a byte
--   from_le s     the number whose bytes are s
--   to_le k n     the k lowest bytes of n
--   le_at k s i   the number in the k bytes of s from byte i on; bytes past the end count as 0
--   numbers ns   the bytes of the numbers ns, of 64 bits each, one after another
--   numbers_at k s i   k such numbers of s, from byte i on
--
-- A write of the k lowest bytes of n at byte i is `sets s i (to_le k n)` of lib.Seq; bytes past the end are dropped.
-- Assumes nothing.
use Rattle.std.specs.Prelude.{ℕ, zero, suc, ◌+◌, ◌*◌, ◌/◌, ◌%◌, ◌<◌, List, [], ◌∷◌, ◌++◌, take, drop, get_or}

abbrev pub Bytes : List ℕ → Type 0
Bytes s = (i : ℕ) → get_or s i 0 < 256

unfoldable pub from_le : List ℕ → ℕ
from_le [] = 0
from_le (b ∷ s) = b + 256 * from_le s

unfoldable pub to_le : ℕ → ℕ → List ℕ
to_le zero n = []
to_le (suc k) n = n % 256 ∷ to_le k (n / 256)

unfoldable pub le_at : ℕ → List ℕ → ℕ → ℕ
le_at k s i = from_le (take k (drop i s))

unfoldable pub numbers : List ℕ → List ℕ
numbers [] = []
numbers (n ∷ ns) = to_le 8 n ++ numbers ns

unfoldable pub numbers_at : ℕ → List ℕ → ℕ → List ℕ
numbers_at zero s i = []
numbers_at (suc k) s i = le_at 8 s i ∷ numbers_at k s (i + 8)
