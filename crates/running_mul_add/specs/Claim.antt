-- What is claimed of a running mul_add (document 02, 2026-03), over the definitions that the contracts of its calls cite.
--
--   Push                what is lent to a push: a fragment, and a buffer
--   mul_add_steps         the calls on a running mul_add: each answers a number, with what the buffer then holds
--   mul_add_whole         what they are to answer, told by the bytes pushed since the start
--   MulAddChunked       they do, over all lists of chunks and all lists of calls
--   Held s              the position of the job s is one that 64 bits can hold
--   MulAdd20            a call is refused with 20 exactly where no start and pushes give the job
--   pushed_into s cs b   what the buffer b holds after the fragments cs are pushed into it one after another
--   OneBuffer           for every way of cutting, the buffer is the one that the whole fragment gives in one call
-- What excludes an empty reading: every list of bytes is a fragment, every list that can be lent a buffer, every job of the struct is held, and
-- what a push is to answer is told by `mul_add`, which determines each byte of the buffer. Of jobs that are held some are refused and some are not:
-- the mark decides, whatever the weight and the position.
-- Assumes nothing.
use Rattle.std.specs.Prelude.{◌≡◌, ℕ, ◌^◌, ◌<◌, length}
use mathlib.Core.List.{List, [], ◌∷◌, flatten}
use Rattle.jobs.specs.Job.{Steps, Whole}
use Rattle.jobs.specs.Claim.{Chunked, lend_limit, Exactly20}
use Rattle.mul_add.specs.MulAdd.{mul_add}
use Rattle.running_mul_add.specs.Running.{mul_add_at, start_mul_add, push_of, end_of}
use Rattle.running_mul_add.specs.declared.RunningMulAdd.{RunningMulAdd}

pub record Push : Type 0 where
  pub fragment : List ℕ
  pub buffer : List ℕ
  pub short : length buffer < lend_limit

-- a start and an end are lent nothing
abbrev pub mul_add_steps : Steps RunningMulAdd ℕ Push (Unit {0}) (ℕ × List ℕ)
mul_add_steps =
    record {
      starts = λ w. ((0, []), start_mul_add w);
      pushes = λ s p. let r = push_of s p.fragment p.buffer in ((r.0.number, r.1), r.0.next);
      ends = λ s e. (((end_of s).number, []), (end_of s).next);
    }

-- a push goes on in its buffer where the bytes pushed before it would end; "Any refusal but 20 is given at the end only": there is none
abbrev pub mul_add_whole : Whole ℕ Push (Unit {0}) (ℕ × List ℕ)
mul_add_whole =
    record {
      number = λ r. r.0;
      begun = λ w. (0, []);
      chunk = λ p. p.fragment;
      taken = λ w m p. (0, mul_add_at w (length m) p.fragment p.buffer);
      whole = λ w m e. (0, []);
      refused_push = λ p. (20, p.buffer);
      refused_end = λ e. (20, []);
    }

-- proved: proofs/Chunks.antt, `mul_add_chunked`
abbrev pub MulAddChunked : Type 0
MulAddChunked = Chunked mul_add_steps mul_add_whole

abbrev pub Held : RunningMulAdd → Type 0
Held s = s.position < 2 ^ 64

-- the job is nothing but its weight, its position and the mark that it is over: all of it is given; proved: proofs/Chunks.antt, `mul_add_20`
abbrev pub MulAdd20 : Type 0
MulAdd20 = Exactly20 mul_add_steps mul_add_whole Held (λ s. s)

-- each push is lent the buffer as the one before it left it
abbrev pub pushed_into : RunningMulAdd → List (List ℕ) → List ℕ → List ℕ
pushed_into s [] buffer = buffer
pushed_into s (c ∷ cs) buffer = pushed_into (push_of s c buffer).0.next cs (push_of s c buffer).1

-- "For every way of cutting, the final answer is the one the whole input gets in one call."; proved: proofs/Chunks.antt, `one_buffer`
abbrev pub OneBuffer : Type 0
OneBuffer =
    (w : ℕ) (cs : List (List ℕ)) (buffer : List ℕ) → length buffer < lend_limit
    → pushed_into (start_mul_add w) cs buffer ≡ mul_add w (flatten cs) buffer
