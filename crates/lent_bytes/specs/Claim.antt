-- What every call has that writes into lent bytes by the definitions of specs/Writing.
--
--   WritingKept    a refusal leaves the bytes as they were
-- Assumes nothing.
use Rattle.std.specs.Prelude.{List, ℕ}
use Rattle.refusals.specs.declared.Refusal.{Refusal}
use Rattle.lent_bytes.specs.Writing.{refused, written, written_unless, Kept}

-- whatever is to be written, and whatever the call's tests give; proved: proofs/WritingLaws.antt, `writing_kept`
pub record WritingKept : Type 0 where
  pub refused_at_once : (r : Refusal) (out : List ℕ) → Kept (refused r out) out
  pub for_room : (s out : List ℕ) → Kept (written s out) out
  pub by_tests : (r : Refusal) (s out : List ℕ) → Kept (written_unless r s out) out
