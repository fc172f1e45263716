-- The lines that a replay prints (document 02, 2026-11).
--
--   refused_line n        the line of a refusal with the number n
--   files_of n test       the numbers 1 to n that pass a test, ascending
--   spaced ks            numbers, with single spaces between
--   numbers_line ks       the line of the numbers ks
-- Assumes nothing.
use Rattle.std.specs.Prelude.{ℕ, zero, suc, Bool, cond}
use mathlib.Core.List.{List, [], ◌∷◌, ◌++◌, map, flatten}
use Rattle.text.specs.Ascii.{ascii}
use Rattle.text.specs.Decimal.{decimal, field}

-- "`refused N`"
unfoldable pub refused_line : ℕ → List ℕ
refused_line n = field (ascii "refused ") n ++ (10 ∷ [])

-- "the file numbers that are rebuildable now, ascending"
unfoldable pub files_of : ℕ → (ℕ → Bool) → List ℕ
files_of zero test = []
files_of (suc n) test = files_of n test ++ cond (test (suc n)) (suc n ∷ []) []

-- "lines of the same shape": "single spaces"
abbrev pub spaced : List ℕ → List ℕ
spaced [] = []
spaced (k ∷ ks) = decimal k ++ flatten (map (field (ascii " ")) ks)

-- "or `none`"
abbrev pub numbers_line : List ℕ → List ℕ
numbers_line [] = ascii "none\n"
numbers_line (k ∷ ks) = spaced (k ∷ ks) ++ (10 ∷ [])
