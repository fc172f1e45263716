-- The Cauchy coefficient of a file in a volume (document 02, 2026-13: the factor). The rule stands here alone.
--
--   row_point v            the number that stands for volume v: 256 - v, as a byte
--   cauchy f v            the coefficient of file f in volume v
--   cauchy_by ps es f v    the same by a table of powers and a table of exponents
-- Assumes nothing.
use Rattle.std.specs.Prelude.{ℕ, ◌-◌, ◌%◌, List, bit_xor}
use Rattle.gf256.specs.Field.{inverse}
use Rattle.gf256.specs.Tables.{power_by}

-- "256 - v": of a volume's number 1 to 254 it is a byte; there is no volume 0
abbrev pub row_point : ℕ → ℕ
row_point v = (256 - v) % 256

-- "for file f and volume v, the inverse of f exclusive-or (256 - v)"
unfoldable pub cauchy : ℕ → ℕ → ℕ
cauchy f v = inverse (bit_xor f (row_point v))

-- 2026-04: "use tables of logarithms and powers"; an inverse is the power 254
unfoldable pub cauchy_by : List ℕ → List ℕ → ℕ → ℕ → ℕ
cauchy_by ps es f v = power_by ps es (bit_xor f (row_point v)) 254
