-- A running mul_add (document 02, 2026-03: folding "must accept input in successive chunks of any length"): its weight, the place in the
-- buffer where the next chunk goes on, and whether it is over.
--
--   mul_add_at w p fragment buffer    the fragment, with the weight w, added to the buffer from byte p on
--   position_after p n               the place n bytes after p, or the last one
--   mul_add_from w p                  a job with the weight w that goes on at byte p
--   start_mul_add w                   the job that a start with the weight w gives
--   accepted s, refused s           the answers 0 and 20, with the job s after them
--   push_of s fragment buffer        what a push answers on the job s, with the job after it; and what the buffer then holds
--   end_of s                         what an end answers, with the job after it
-- Assumes nothing.
use Rattle.std.specs.Prelude.{true, false, cond, List, ◌++◌, ℕ, ◌+◌, ◌-◌, ◌^◌, min, length, take, drop}
use Rattle.mul_add.specs.MulAdd.{mul_add}
use Rattle.running_mul_add.specs.declared.RunningMulAdd.{RunningMulAdd}
use Rattle.running_mul_add.specs.declared.Outcome.{Outcome}

-- each push goes on at the position, in the buffer that is lent with it; what lies past the buffer's end is taken and adds nothing
unfoldable pub mul_add_at : ℕ → ℕ → List ℕ → List ℕ → List ℕ
mul_add_at w p fragment buffer = take p buffer ++ mul_add w fragment (drop p buffer)

-- the position goes on by the whole fragment, past the buffer's end too; it stops at 2^64 - 1, which is past every buffer
abbrev pub position_after : ℕ → ℕ → ℕ
position_after p n = min (p + n) (2 ^ 64 - 1)

-- a job that goes on at byte p of the buffer
abbrev pub mul_add_from : ℕ → ℕ → RunningMulAdd
mul_add_from w p = record { weight = w; position = p; ended = false }

abbrev pub start_mul_add : ℕ → RunningMulAdd
start_mul_add w = mul_add_from w 0

abbrev pub accepted : RunningMulAdd → Outcome
accepted s = record { number = 0; next = s }

-- "20, first of all, pushed or ended after the end .. nothing changed"
abbrev pub refused : RunningMulAdd → Outcome
refused s = record { number = 20; next = s }

unfoldable pub push_of : RunningMulAdd → List ℕ → List ℕ → Outcome × List ℕ
push_of s fragment buffer =
    cond s.ended (refused s, buffer)
    (accepted (mul_add_from s.weight (position_after s.position (length fragment))), mul_add_at s.weight s.position fragment buffer)

-- "the end finishes the job"
unfoldable pub end_of : RunningMulAdd → Outcome
end_of s = cond s.ended (refused s) (accepted (record { weight = s.weight; position = s.position; ended = true }))
