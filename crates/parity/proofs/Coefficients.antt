-- The coefficients of each code, and when a call for one is answered.
--
--   answer_in_range                      numbers in range are answered
--   answer_file_zero, answer_volume_zero,
--   answer_sum_above                     other numbers are refused
--   coefficient-answered                 so each call is answered
--   powers_coefficients                  by Par 1.0's code the coefficients are powers
--   cauchy_coefficients                  by the other they are Cauchy's
--   coefficient_byte, rule_byte          the coefficient of a file is a byte, by either code
--   rule_by_tables                       it is what the tables give
-- Assumes nothing.
use Rattle.std.specs.Prelude.{Ok, Err}
use mathlib.Core.Path.{◌≡◌}
use mathlib.Core.Bool.{or-true}
use Prim.Native.Nat.{ℕ, ◌+◌, ◌-◌, ◌<◌, ◌≤◌}
use native.Mathlib.Decide.{ℕ_discrete, dec_lt}
use native.Mathlib.Omega.{arith}
use borrow.Author.Tests.{eq-eqb, ne_eqb, lt-ltb, le-ltb}
use Rattle.gf256.specs.Tables.{IsTables}
use Rattle.gf256.specs.declared.tables.Tables.{Tables}
use Rattle.gf256.proofs.Powers.{power_byte}
use Rattle.gf256.proofs.TableLaws.{power_by_tables}
use Rattle.codes.specs.declared.Code.{Code}
use Rattle.codes.specs.declared.Code.TheVariants.{Powers, Cauchy}
use Rattle.cauchy.specs.Claim.{InRange}
use Rattle.cauchy.proofs.Coefficients.{cauchy_byte, cauchy_by_tables}
use Rattle.parity.specs.Claim.{PowersCoefficients, CauchyCoefficients, CoefficientAnswered}
use Rattle.parity.specs.Coefficient.{coefficient, rule_of, coefficient_by, coefficient_answer}

-- ---- calls

module _ (c : Code) (f v : ℕ) where
  pub answer_in_range : 0 < f → 0 < v → f + v ≤ 255 → coefficient_answer c f v ≡ Ok (rule_of c f v)
  unfolding coefficient_answer
  answer_in_range hf hv h = simp (ne_eqb f 0 (λ e. omega arith), ne_eqb v 0 (λ e. omega arith), le-ltb 255 (f + v) h)

  pub answer_file_zero : f ≡ 0 → coefficient_answer c f v ≡ Err 10
  unfolding coefficient_answer
  answer_file_zero e = simp (eq-eqb f 0 e)

  pub answer_volume_zero : v ≡ 0 → coefficient_answer c f v ≡ Err 10
  unfolding coefficient_answer
  answer_volume_zero e = simp (eq-eqb v 0 e, or-true)

  pub answer_sum_above : 255 < f + v → coefficient_answer c f v ≡ Err 10
  unfolding coefficient_answer
  answer_sum_above h = simp (lt-ltb 255 (f + v) h, or-true)

  out_of_range_lem : ¬ InRange f v → coefficient_answer c f v ≡ Err 10
  out_of_range_lem h = elim (ℕ_discrete f 0) [
    | yes e ↦ answer_file_zero e
    | no p ↦
        elim (ℕ_discrete v 0) [
          | yes e ↦ answer_volume_zero e
          | no q ↦
              elim (dec_lt 255 (f + v)) [
                | yes l ↦ answer_sum_above l
                | no r ↦ absurd (h (record { file = omega (arith, p); volume = omega (arith, q); both = omega (arith, r) }))
              ]
        ]
  ]

pub coefficient-answered : CoefficientAnswered
coefficient-answered = record {
  in_range = λ c f v h. answer_in_range c f v h.file h.volume h.both;
  out_of_range = out_of_range_lem;
}

-- ---- the rules

pub powers_coefficients : PowersCoefficients
unfolding coefficient
powers_coefficients f v h = coefficient-answered.in_range Powers f v h

pub cauchy_coefficients : CauchyCoefficients
cauchy_coefficients f v h = coefficient-answered.in_range Cauchy f v h

pub coefficient_byte : (f v : ℕ) → f < 256 → coefficient f v < 256
unfolding coefficient
coefficient_byte f v h = power_byte f (v - 1) h

pub rule_byte : (c : Code) (f v : ℕ) → f < 256 → rule_of c f v < 256
rule_byte Powers f v h = coefficient_byte f v h
rule_byte Cauchy f v h = cauchy_byte f v h

-- ---- the tables

pub rule_by_tables : (c : Code) (t : Tables) → IsTables t → (f v : ℕ) → f < 256 → coefficient_by c t.powers t.exponents f v ≡ rule_of c f v
unfolding coefficient_by coefficient
rule_by_tables Powers t is f v h = power_by_tables t is f (v - 1) h
rule_by_tables Cauchy t is f v h = cauchy_by_tables t is f v h
