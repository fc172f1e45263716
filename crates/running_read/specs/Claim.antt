-- What is claimed of a file that is read in chunks, over the definitions that the contracts of start, push and end cite.
--
--   Reply          what a call on a job answers: a number, or a reading
--   number_of r     the number that the reply r says, 0 where a reading is accepted
--   read_steps      the calls
--   read_whole      what they are to answer
--   ReadChunked    however a file is cut, the end gives what reading it whole gives, and no push is refused before it
--   counts j       the counts of the job j: the bytes that came, those that the control hash has, those of the entry at hand; the entries, the saved
--                  ones; the bytes that the set hash has; and the mark that it is over
--   Read20         a push and an end are refused with 20 exactly where no start and pushes give the counts of the job
-- What excludes an empty reading: every list of bytes is a chunk, 20 is claimed of every job, and what an end is to answer is what `read` promises
-- of the whole file, which determines the parts, or the number and the place of the refusal. Of jobs that are not over some are refused and some
-- are not. The counts are read from the fields of the job, whatever the calls look at.
-- Assumes nothing.
use Rattle.std.specs.Prelude.{Bool, List, ℕ, Err}
use Rattle.jobs.specs.Job.{Steps, Whole}
use Rattle.jobs.specs.Claim.{Chunked, Exactly20}
use Rattle.refusals.specs.Tests.{bare}
use Rattle.par1_read.specs.Reading.{read_of, reading_refusal}
use Rattle.par1_read.specs.Reading.{Reading}
use Rattle.running_read.specs.declared.RunningRead.{RunningRead}
use Rattle.running_read.specs.Running.{start_read, push_answer, end_answer}

pub data Reply : Type 0 where
  number : ℕ → Reply
  reading : Reading → Reply

abbrev pub number_of : Reply → ℕ
number_of (number n) = n
number_of (reading r) = (reading_refusal r).number

-- a start and an end are given nothing, a push bytes
abbrev pub read_steps : Steps RunningRead (Unit {0}) (List ℕ) (Unit {0}) Reply
read_steps =
    record {
      starts = λ _. (number 0, start_read);
      pushes = λ j bs. (number (push_answer j bs).number, (push_answer j bs).next);
      ends = λ j _. (reading (end_answer j).reading, (end_answer j).next);
    }

-- "Any refusal but 20 is given at the end only"
abbrev pub read_whole : Whole (Unit {0}) (List ℕ) (Unit {0}) Reply
read_whole =
    record {
      number = number_of;
      begun = λ _. number 0;
      chunk = λ bs. bs;
      taken = λ _ m bs. number 0;
      whole = λ _ m _. reading (read_of m);
      refused_push = λ bs. number 20;
      refused_end = λ _. reading (Err (bare 20));
    }

-- proved: proofs/Chunks.antt, `read_chunked`
abbrev pub ReadChunked : Type 0
ReadChunked = Chunked read_steps read_whole

abbrev pub counts : RunningRead → ℕ × ℕ × ℕ × ℕ × ℕ × ℕ × Bool
counts j =
    (j.total, j.control.total, j.list.at, j.list.totals.entries, j.list.totals.saved, j.list.hash.total, j.ended)

-- of every job, whatever its numbers are; proved: proofs/Chunks.antt, `read_20`
abbrev pub Read20 : Type 0
Read20 = Exactly20 read_steps read_whole (λ j. Unit {0}) counts
