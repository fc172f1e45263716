-- A running hash that its owner keeps between the calls, a job (document 02, 2026-03: "Logs too long to hold"): what each call on one gives.
--
--   is_open h             whether the job h still runs
--   running s, over s    a job with the state s that runs, and one that is over
--   outcome n h          the number n, and the job h
--   start_hash            the job before any byte
--   refused h            the refusal 20, and the job h as it was
--   push_of h bs          the outcome of a push of the bytes bs
--   ended_by s w          the state s ended: w is the number, and what the lent room then holds
--   end_of h out          the outcome of an end, and what the lent room `out` then holds
-- Assumes nothing.
use Rattle.std.specs.Prelude.{Bool, cond, List, [], ℕ, eqb}
use Rattle.lent_bytes.specs.Writing.{written, with_number}
use Rattle.md5_digest.specs.Running.{state_of, pushed, finished}
use Rattle.md5_digest.specs.declared.Md5.{Md5}
use Rattle.running_hash.specs.declared.RunningHash.{RunningHash}
use Rattle.running_hash.specs.declared.Outcome.{Outcome}

-- the mark is 0 while the job runs
abbrev pub is_open : RunningHash → Bool
is_open h = eqb h.ended 0

abbrev pub running : Md5 → RunningHash
running s = record { hash = s; ended = 0 }

abbrev pub over : Md5 → RunningHash
over s = record { hash = s; ended = 1 }

abbrev pub outcome : ℕ → RunningHash → Outcome
outcome n h = record { number = n; next = h }

unfoldable pub start_hash : RunningHash
start_hash = running (state_of [])

-- "20, first of all, pushed or ended after the end, or a job whose counts no run of pushes gives; nothing changed": every total is one that
-- pushes give, so the mark decides (specs/Claim.antt, `Hash20`)
abbrev pub refused : RunningHash → Outcome
refused h = outcome 20 h

-- "The recorder owns one running hash and pushes bytes into it where it stands"
unfoldable pub push_of : RunningHash → List ℕ → Outcome
push_of h bs = cond (is_open h) (outcome 0 (running (pushed h.hash bs))) (refused h)

-- "Any refusal but 20 is given at the end only": 14; "the end finishes the job either way"
abbrev pub ended_by : Md5 → ℕ × List ℕ → Outcome × List ℕ
ended_by s w = (outcome w.0 (over s), w.1)

unfoldable pub end_of : RunningHash → List ℕ → Outcome × List ℕ
end_of h out = cond (is_open h) (ended_by h.hash (with_number (written (finished h.hash) out))) (refused h, out)
