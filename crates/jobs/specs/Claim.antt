-- What is claimed of a job that takes its input in chunks (document 02, 2026-03). Each job has these claims, over the definitions that the
-- contracts of its calls cite. A list of calls begins with a start, and may then hold anything, calls after an end too; what is claimed of a
-- call that is refused with 20 is claimed of jobs that no calls give too.
--
--   Chunked k w           the calls k on a job answer what w says, over all lists of chunks and all lists of calls
--   lend_limit             no slice that can be lent has so many bytes
--   Lendable c            the bytes c can be lent to one push
--   Given k w counts s    a start and pushes give a job with the counts of s
--   Exactly20 k w Held counts    a call on a job is refused with 20 exactly where no start and pushes give its counts
-- Assumes nothing.
use Rattle.std.specs.Prelude.{◌≡◌, ◌↔◌, ℕ, ◌^◌, ◌<◌, length}
use mathlib.Core.List.{List, ◌∷◌, map, flatten}
use Rattle.cut_lists.specs.All.{All}
use Rattle.little_endian.specs.Bytes.{Bytes}
use Rattle.jobs.specs.Job.{Call, start, Steps, Whole, over, answers, after_pushes, modelled}

pub record Chunked {S A P E R : Type 0} (k : Steps S A P E R) (w : Whole A P E R) : Type 0 where
  -- "For every way of cutting, the final answer is the one the whole input gets in one call."
  pub cut_anyhow : (a : A) (ps : List P) (e : E)
      → (k.ends (after_pushes k (k.starts a).1 ps) e).0 ≡ w.whole a (flatten (map w.chunk ps)) e
  -- each answer and each lent byte, over every list of calls from a start on; starts and ends may come anywhere
  pub every_call : (s : S) (a : A) (cs : List (Call A P E)) → answers k s (start a ∷ cs) ≡ answers (modelled w) over (start a ∷ cs)
  -- "nothing changed", whatever the job: no byte that is lent, nor the job
  pub kept_by_push : (s : S) (p : P) → w.number (k.pushes s p).0 ≡ 20 → k.pushes s p ≡ (w.refused_push p, s)
  pub kept_by_end : (s : S) (e : E) → w.number (k.ends s e).0 ≡ 20 → k.ends s e ≡ (w.refused_end e, s)

abbrev pub lend_limit : ℕ
lend_limit = 2 ^ 63

abbrev pub Lendable : List ℕ → Type 0
Lendable c = Bytes c × (length c < lend_limit)

pub record Given {S A P E R C : Type 0} (k : Steps S A P E R) (w : Whole A P E R) (counts : S → C) (s : S) : Type 0 where
  pub by : A
  pub pushed : List P
  pub lendable : All (λ (p : P). Lendable (w.chunk p)) pushed
  pub same : counts (after_pushes k (k.starts by).1 pushed) ≡ counts s

-- "a job whose counts no run of pushes gives", both ways, of jobs whose numbers their types can hold; the mark that a job is over is one of
-- its counts
pub record Exactly20 {S A P E R C : Type 0} (k : Steps S A P E R) (w : Whole A P E R) (Held : S → Type 0) (counts : S → C) : Type 0 where
  pub pushed : (s : S) → Held s → (p : P) → (w.number (k.pushes s p).0 ≡ 20) ↔ (Given k w counts s → ⊥)
  pub ended : (s : S) → Held s → (e : E) → (w.number (k.ends s e).0 ≡ 20) ↔ (Given k w counts s → ⊥)
