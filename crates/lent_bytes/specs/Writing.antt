-- What a call gives that writes into lent bytes: its answer, and what these bytes then hold (document 01, "What comes back").
--
--   Writing                 what such a call answers: the length written, or its refusal
--   refused r out           the refusal r
--   accepted s out          the length of s, and s over the first bytes of out
--   written s out           the same; or 14, where out is shorter
--   written_unless r s out   the same, after the tests that give r: the refusal r where it is one, the number 0 being none
--   RefusedExactly R w out     the call that gives w is refused exactly with what R has, and then no byte of out changes
--   writing_refusal w        the refusal that an answer is, with the number 0 where it is accepted
--   with_refusal w           what a call gives, where it answers with the refusal alone
--   with_number w            what it gives, where it answers with the number alone
--   Kept w out              where the answer is a refusal, the bytes are those of out
-- Assumes nothing.
use Rattle.std.specs.Prelude.{ℕ, ◌≡◌, cond, List, ◌++◌, leb, eqb, length, drop, Result, Ok, Err}
use Rattle.refusals.specs.Tests.{bare}
use Rattle.refusals.specs.declared.Refusal.{Refusal}

abbrev pub Writing : Type 0
Writing = Result ℕ Refusal

-- "A refusal returns its number only and writes nothing"; document 02, 2026-01, gives some a place beside it
abbrev pub refused : Refusal → List ℕ → Writing × List ℕ
refused r out = (Err r, out)

-- "Bytes past the written length stay."
abbrev pub accepted : List ℕ → List ℕ → Writing × List ℕ
accepted s out = (Ok (length s), s ++ drop (length s) out)

-- "14: lent room too short"
unfoldable pub written : List ℕ → List ℕ → Writing × List ℕ
written s out = cond (leb (length s) (length out)) (accepted s out) (refused (bare 14) out)

-- 14 is the last of a call's tests
unfoldable pub written_unless : Refusal → List ℕ → List ℕ → Writing × List ℕ
written_unless r s out = cond (eqb r.number 0) (written s out) (refused r out)

-- "Refusals, in this order": R r says that r is the first that holds. The call gives it, and gives no other
abbrev pub RefusedExactly : (Refusal → Type 0) → Writing × List ℕ → List ℕ → Type 0
RefusedExactly R w out =
    (r : Refusal) → (R r → w ≡ refused r out) × ((room : List ℕ) → w ≡ (Err r, room) → R r × (room ≡ out))

abbrev pub writing_refusal : Writing → Refusal
writing_refusal (Ok length) = bare 0
writing_refusal (Err r) = r

abbrev pub with_refusal : Writing × List ℕ → Refusal × List ℕ
with_refusal w = (writing_refusal w.0, w.1)

abbrev pub with_number : Writing × List ℕ → ℕ × List ℕ
with_number w = ((writing_refusal w.0).number, w.1)

-- "A refusal returns its number only and writes nothing"
abbrev pub Kept : Writing × List ℕ → List ℕ → Type 0
Kept w out = (r : Refusal) → w.0 ≡ Err r → w.1 ≡ out
