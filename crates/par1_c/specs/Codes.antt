-- The calls that are told a code (document 02, 2026-13), as C makes them: by the number of the code.
--
--   by_code k call lent     what a call gives that is told the number k of a code; the lent bytes are what it may change
--   coefficient_into k f v out      the number of a call for a coefficient, and what `out` then holds
--   volume_into k program number list area out     the answer of the writing of a volume, and what `out` then holds
-- Assumes nothing.
use Rattle.std.specs.Prelude.{cond, List, ℕ}
use Rattle.codes.specs.Codes.{is_code, code_of}
use Rattle.codes.specs.declared.Code.{Code}
use Rattle.parity.specs.Coefficient.{coefficient_answer}
use Rattle.answer_bytes.specs.Results.{byte_into}
use Rattle.lent_bytes.specs.Writing.{with_refusal}
use Rattle.par1_write.specs.VolumeWriting.{write_volume_of}
use Rattle.par1_c.specs.Answers.{answered}

-- what is the number of no code is refused with 10, first of all, and nothing changes
unfoldable pub by_code : ℕ → (Code → ℕ × List ℕ) → List ℕ → ℕ × List ℕ
by_code k call lent = cond (is_code k) (call (code_of k)) (10, lent)

-- "writing and asking for a factor are told the code"
abbrev pub coefficient_into : ℕ → ℕ → ℕ → List ℕ → ℕ × List ℕ
coefficient_into k f v out = by_code k (λ c. byte_into (coefficient_answer c f v) out) out

abbrev pub volume_into : ℕ → ℕ → ℕ → List ℕ → List ℕ → List ℕ → ℕ × List ℕ
volume_into k program number list area out = by_code k (λ c. answered (with_refusal (write_volume_of c program number list area out))) out
