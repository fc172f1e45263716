-- What a call answers that gives a byte or refuses (document 01, "What comes back").
--
--   ByteAnswer         a byte, or the number of a refusal
--   inverse_answer a   the answer to a call for the inverse of a
-- Assumes nothing.
use Rattle.std.specs.Prelude.{ℕ, cond, eqb, Result, Ok, Err}
use Rattle.gf256.specs.Field.{inverse}

abbrev pub ByteAnswer : Type 0
ByteAnswer = Result ℕ ℕ

-- "10 .. inverse of 0"
unfoldable pub inverse_answer : ℕ → ByteAnswer
inverse_answer a = cond (eqb a 0) (Err 10) (Ok (inverse a))
