-- The coefficient of a file in a volume (document 01, "The parity bytes": the factor; document 02, 2026-13). Which rule a code has
-- stands here alone; the Cauchy rule is that of crate `cauchy`.
--
--   coefficient f v               the coefficient of file f in volume v, by Par 1.0's rule
--   rule_of c                      the rule of code c: `rule_of c f v` is the coefficient of file f in volume v
--   coefficient_by c ps es f v     the same by a table of powers and a table of exponents
--   coefficient_answer c f v       the answer to a call for it
-- Assumes nothing.
use Rattle.std.specs.Prelude.{ℕ, ◌+◌, ◌-◌, cond, ◌||◌, List, eqb, ltb, Ok, Err}
use Rattle.gf256.specs.Field.{power}
use Rattle.gf256.specs.Tables.{power_by}
use Rattle.gf256.specs.Answer.{ByteAnswer}
use Rattle.codes.specs.declared.Code.{Code}
use Rattle.codes.specs.declared.Code.TheVariants.{Powers, Cauchy}
use Rattle.cauchy.specs.Cauchy.{cauchy, cauchy_by}

-- "The factor of file f in volume v is f to the power v - 1"
unfoldable pub coefficient : ℕ → ℕ → ℕ
coefficient f v = power f (v - 1)

-- document 02, 2026-13: "For this code condition 2 is read with .. these factors in place of Par 1.0's."
abbrev pub rule_of : Code → ℕ → ℕ → ℕ
rule_of Powers = coefficient
rule_of Cauchy = cauchy

-- document 02, 2026-04: "use tables of logarithms and powers"
unfoldable pub coefficient_by : Code → List ℕ → List ℕ → ℕ → ℕ → ℕ
coefficient_by Powers ps es f v = power_by ps es f (v - 1)
coefficient_by Cauchy ps es f v = cauchy_by ps es f v

-- "Asking for a factor refuses with 10 if f or v is 0 or f + v is above 255"; document 02, 2026-13: "writing and
-- asking for a factor are told the code"
unfoldable pub coefficient_answer : Code → ℕ → ℕ → ByteAnswer
coefficient_answer c f v = cond (eqb f 0 || (eqb v 0 || ltb 255 (f + v))) (Err 10) (Ok (rule_of c f v))
