-- What is promised of Cauchy coefficients (document 02, 2026-13), for each file f and volume v with f and v at least 1 and f + v up to 255.
--
--   InRange f v        f and v are the numbers of a file and a volume of one set
--   CauchyRule         the coefficient times f exclusive-or (256 - v) is 1, and no other byte's product with it is
--   CauchyBytes        it is a byte, and not 0
-- Numbers in range are there (1 and 1), so no claim is empty. Calls for a coefficient are claimed in crate `parity`, and what
-- the coefficients are for in crate `cauchy_recovery`. Sentences in quotation marks are document 02's, or document 01's.
-- Assumes nothing.
use Rattle.std.specs.Prelude.{◌≡◌, ℕ, ◌+◌, ◌-◌, ◌<◌, ◌≤◌, bit_xor}
use Rattle.gf256.specs.Field.{product}
use Rattle.cauchy.specs.Cauchy.{cauchy}

-- "for f + v up to 255"
pub record InRange (f v : ℕ) : Type 0 where
  pub file : 1 ≤ f
  pub volume : 1 ≤ v
  pub both : f + v ≤ 255

-- "the inverse of f exclusive-or (256 - v)": "Each non-zero byte has one inverse"; proved: proofs/Coefficients.antt, `cauchy_rule`
abbrev pub CauchyRule : Type 0
CauchyRule =
    (f v : ℕ) → InRange f v
    → (product (bit_xor f (256 - v)) (cauchy f v) ≡ 1) × ((c : ℕ) → c < 256 → product (bit_xor f (256 - v)) c ≡ 1 → c ≡ cauchy f v)

-- a coefficient is a byte, and each file counts in each volume; proved: proofs/Coefficients.antt, `cauchy_bytes`
abbrev pub CauchyBytes : Type 0
CauchyBytes = (f v : ℕ) → InRange f v → (cauchy f v < 256) × (0 < cauchy f v)
