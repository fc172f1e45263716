-- The numbers of the two codes, as the header has them: PAR1_POWERS is 0, PAR1_CAUCHY is 1.
--
--   CodeNumbers     0 is Par 1.0's code, 1 that of Cauchy coefficients, and no other number is that of a code
-- Assumes nothing.
use Rattle.std.specs.Prelude.{◌≡◌, ◌↔◌, true, ℕ, ◌≤◌}
use Rattle.codes.specs.Codes.{code_number, is_code, code_of}
use Rattle.codes.specs.declared.Code.TheVariants.{Powers, Cauchy}

-- proved: proofs/CodeLaws.antt, `code_numbers`
pub record CodeNumbers : Type 0 where
  pub zero_powers : (code_number Powers ≡ 0) × (code_of 0 ≡ Powers)
  pub one_cauchy : (code_number Cauchy ≡ 1) × (code_of 1 ≡ Cauchy)
  pub no_others : (k : ℕ) → (is_code k ≡ true) ↔ (k ≤ 1)
