-- The two codes (document 02, 2026-13): Par 1.0's, and that of Cauchy coefficients.
--
--   code_number c      the number of a code in lent bytes and from C
--   is_code k          whether k is the number of a code
--   code_of k          the code of the number k
--   CodeFrom k r       r is the code of the number k, or the refusal where k is that of no code
--   same c d          whether two codes are the same
-- Assumes nothing.
use Rattle.std.specs.Prelude.{◌≡◌, ℕ, zero, suc, Bool, true, false, eqb, leb, Result, MatchResult}
use Rattle.codes.specs.declared.Code.{Code}
use Rattle.codes.specs.declared.Code.TheVariants.{Powers, Cauchy}
use Rattle.codes.specs.declared.NoCode.{NoCode}

-- 0 is Par 1.0's, 1 that of Cauchy coefficients: no document numbers them
abbrev pub code_number : Code → ℕ
code_number Powers = 0
code_number Cauchy = 1

abbrev pub is_code : ℕ → Bool
is_code k = leb k 1

abbrev pub code_of : ℕ → Code
code_of zero = Powers
code_of (suc k) = Cauchy

abbrev pub CodeFrom : ℕ → Result Code NoCode → Type 0
CodeFrom k r = MatchResult r (λ c. (is_code k ≡ true) × (c ≡ code_of k)) (λ e. is_code k ≡ false)

-- "a volume of the other code"
abbrev pub same : Code → Code → Bool
same c d = eqb (code_number c) (code_number d)
