-- A running mul_add in lent bytes: three numbers of 64 bits (its weight; its position; 0, or another number where it is over).
--
--   mul_add_bytes s            the bytes of the job s
--   is_mul_add b               whether the bytes b are a job that is not over
--   over_mul_add               a job that is over
--   mul_add_of b               the job that the bytes b are, if they are one, else one that is over
--   mul_add_stored o out       the number of the outcome o, or 14, and what `out` then holds
--   mul_add_started w out      the number of a start with the weight w, and what `out` then holds
--   mul_add_pushed b fragment buffer   the number of a push on the job in the bytes b, and what b and the buffer then hold
--   mul_add_ended b            the number of an end, and what the bytes b then hold
-- Assumes nothing.
use Rattle.std.specs.Prelude.{Bool, true, cond, ◌&&◌, List, [], ◌∷◌, ℕ, leb, eqb, length}
use Rattle.lent_bytes.specs.Writing.{written_unless, with_number}
use Rattle.little_endian.specs.Bytes.{le_at, numbers}
use Rattle.refusals.specs.Tests.{bare}
use Rattle.running_mul_add.specs.Running.{mul_add_from, start_mul_add, accepted, push_of, end_of}
use Rattle.running_mul_add.specs.declared.RunningMulAdd.{RunningMulAdd}
use Rattle.running_mul_add.specs.declared.Outcome.{Outcome}
use Rattle.job_bytes.specs.Marks.{mark_of}

unfoldable pub mul_add_bytes : RunningMulAdd → List ℕ
mul_add_bytes s = numbers (s.weight ∷ s.position ∷ mark_of s.ended ∷ [])

-- the weight is a byte
unfoldable pub is_mul_add : List ℕ → Bool
is_mul_add b = eqb (length b) 24 && leb (le_at 8 b 0) 255 && eqb (le_at 8 b 16) 0

abbrev pub over_mul_add : RunningMulAdd
over_mul_add = record { weight = 0; position = 0; ended = true }

-- "a job whose counts no run of pushes gives": as one that is over, it is refused with 20 by every call
unfoldable pub mul_add_of : List ℕ → RunningMulAdd
mul_add_of b = cond (is_mul_add b) (mul_add_from (le_at 8 b 0) (le_at 8 b 8)) over_mul_add

unfoldable pub mul_add_stored : Outcome → List ℕ → ℕ × List ℕ
mul_add_stored o out = with_number (written_unless (bare o.number) (mul_add_bytes o.next) out)

-- bytes past the job's stay
abbrev pub mul_add_started : ℕ → List ℕ → ℕ × List ℕ
mul_add_started w out = mul_add_stored (accepted (start_mul_add w)) out

abbrev pub mul_add_pushed : List ℕ → List ℕ → List ℕ → ℕ × List ℕ × List ℕ
mul_add_pushed b fragment buffer =
    let r = push_of (mul_add_of b) fragment buffer in
    let stored = mul_add_stored r.0 b in
    (stored.0, stored.1, r.1)

abbrev pub mul_add_ended : List ℕ → ℕ × List ℕ
mul_add_ended b = mul_add_stored (end_of (mul_add_of b)) b
