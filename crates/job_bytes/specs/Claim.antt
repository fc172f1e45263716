-- What is claimed of jobs in lent bytes (document 02, 2026-03), over the definitions that the contracts of the calls from C cite: the job goes
-- from call to call in its bytes, and nowhere else.
--
--   MulAddStart             what is lent to a start of a running mul_add: a weight, and the bytes that the job is to have
--   mul_add_byte_steps         the calls on a running mul_add: each answers a number, with what the buffer then holds
--   mul_add_byte_whole         what they are to answer: as on the job itself
--   MulAddBytesChunked      they do, over all lists of chunks and all lists of calls
--   MulAddBytes20           a call is refused with 20 exactly where no start and pushes give the bytes
--   mul_add_pushed_into b cs buffer    what the buffer holds after the fragments cs are pushed into it one after another
--   MulAddBytesOneBuffer    for every way of cutting, the buffer is the one that the whole fragment gives in one call
--   HeldMd5 h, HeldScan sc, HeldRead j    bytes can hold the hash h, the scan sc, the running read j: what their types hold
--   ReadLoadedBack          the bytes of a running read are that running read
--   ReadStart, Chunk        what is lent to a start of a running read, and to a push: bytes that the job is to have, and bytes of the file
--   read_byte_steps           the calls on a running read: each answers a refusal, with the number 0 where it is accepted, and what the room then holds
--   read_byte_whole           what they are to answer: the end what one call on the whole file answers
--   ReadBytesChunked        they do, over all lists of chunks and all lists of calls
--   ReadBytes20             a call is refused with 20 exactly where no start and pushes give the counts of the job in the bytes
-- What excludes an empty reading: 20 is claimed of every list of bytes, every one that can be lent is a chunk, and what is to be answered is told
-- by `mul_add`, and by what `read` promises of the whole file. Of bytes of a job's length some are refused and some are not. A start in a list of
-- calls is lent exactly the job's length: that it is refused with 14 where it is lent less, and leaves the bytes past the job where it is lent
-- more, its contract alone says.
-- Assumes nothing.
use Rattle.std.specs.Prelude.{◌≡◌, ℕ, ◌^◌, ◌<◌, length}
use mathlib.Core.List.{List, [], ◌∷◌, flatten}
use Rattle.jobs.specs.Job.{Steps, Whole}
use Rattle.jobs.specs.Claim.{Chunked, lend_limit, Lendable, Exactly20}
use Rattle.answer_bytes.specs.Results.{read_into}
use Rattle.list_scan.specs.declared.Scan.{Scan}
use Rattle.little_endian.specs.Bytes.{Bytes}
use Rattle.md5_digest.specs.declared.Md5.{Md5}
use Rattle.mul_add.specs.MulAdd.{mul_add}
use Rattle.par1_read.specs.Reading.{read_of}
use Rattle.refusals.specs.Tests.{bare}
use Rattle.refusals.specs.declared.Refusal.{Refusal}
use Rattle.running_mul_add.specs.Claim.{Push, mul_add_whole}
use Rattle.running_read.specs.Claim.{counts}
use Rattle.running_read.specs.declared.RunningRead.{RunningRead}
use Rattle.job_bytes.specs.MulAdds.{mul_add_started, mul_add_pushed, mul_add_ended}
use Rattle.job_bytes.specs.Reads.{read_job_bytes, read_job_of, read_started, read_pushed, read_ended}

-- the weight is a u8; pushes and ends want the exact length, else 20
pub record MulAddStart : Type 0 where
  pub weight : ℕ
  pub byte : weight < 256
  pub room : List ℕ
  pub whole : length room ≡ 24

abbrev pub mul_add_byte_steps : Steps (List ℕ) MulAddStart Push (Unit {0}) (ℕ × List ℕ)
mul_add_byte_steps =
    record {
      starts = λ a. let r = mul_add_started a.weight a.room in ((r.0, []), r.1);
      pushes = λ b p. let r = mul_add_pushed b p.fragment p.buffer in ((r.0, r.2), r.1);
      ends = λ b e. let r = mul_add_ended b in ((r.0, []), r.1);
    }

abbrev pub mul_add_byte_whole : Whole MulAddStart Push (Unit {0}) (ℕ × List ℕ)
mul_add_byte_whole =
    record {
      number = mul_add_whole.number;
      begun = λ a. mul_add_whole.begun a.weight;
      chunk = mul_add_whole.chunk;
      taken = λ a. mul_add_whole.taken a.weight;
      whole = λ a. mul_add_whole.whole a.weight;
      refused_push = mul_add_whole.refused_push;
      refused_end = mul_add_whole.refused_end;
    }

-- proved: proofs/MulAddChunks.antt, `mul_add_bytes_chunked`
abbrev pub MulAddBytesChunked : Type 0
MulAddBytesChunked = Chunked mul_add_byte_steps mul_add_byte_whole

-- of bytes of any length; proved: proofs/MulAddChunks.antt, `mul_add_bytes_20`
abbrev pub MulAddBytes20 : Type 0
MulAddBytes20 = Exactly20 mul_add_byte_steps mul_add_byte_whole Bytes (λ b. b)

-- each push is lent the job's bytes and the buffer as the one before it left them
abbrev pub mul_add_pushed_into : List ℕ → List (List ℕ) → List ℕ → List ℕ
mul_add_pushed_into b [] buffer = buffer
mul_add_pushed_into b (c ∷ cs) buffer = let r = mul_add_pushed b c buffer in mul_add_pushed_into r.1 cs r.2

-- "For every way of cutting, the final answer is the one the whole input gets in one call."; proved: proofs/MulAddChunks.antt,
-- `mul_add_bytes_one_buffer`
abbrev pub MulAddBytesOneBuffer : Type 0
MulAddBytesOneBuffer =
    (a : MulAddStart) (cs : List (List ℕ)) (buffer : List ℕ) → length buffer < lend_limit
    → mul_add_pushed_into (mul_add_started a.weight a.room).1 cs buffer ≡ mul_add a.weight (flatten cs) buffer

-- ---- reading

pub record HeldMd5 (h : Md5) : Type 0 where
  pub a_fits : h.words.a < 2 ^ 32
  pub b_fits : h.words.b < 2 ^ 32
  pub c_fits : h.words.c < 2 ^ 32
  pub d_fits : h.words.d < 2 ^ 32
  pub tail_size : length h.tail ≡ 64
  pub total_fits : h.total < 2 ^ 64

pub record HeldScan (sc : Scan) : Type 0 where
  pub head_size : length sc.head ≡ 56
  pub at_fits : sc.at < 2 ^ 64
  pub low_fits : sc.low < 256
  pub entries_fit : sc.totals.entries < 2 ^ 64
  pub saved_fit : sc.totals.saved < 2 ^ 64
  pub greatest_fits : sc.totals.greatest < 2 ^ 64
  pub hash_held : HeldMd5 sc.hash

pub record HeldRead (j : RunningRead) : Type 0 where
  pub total_fits : j.total < 2 ^ 64
  pub header_size : length j.header ≡ 96
  pub control_held : HeldMd5 j.control
  pub list_held : HeldScan j.list

-- proved: proofs/ReadBack.antt, `read_loaded_back`
abbrev pub ReadLoadedBack : Type 0
ReadLoadedBack = (j : RunningRead) → HeldRead j → read_job_of (read_job_bytes j) ≡ j

-- pushes and ends want the exact length, else 20
pub record ReadStart : Type 0 where
  pub room : List ℕ
  pub whole : length room ≡ 392

pub record Chunk : Type 0 where
  pub bytes : List ℕ
  pub lendable : Lendable bytes

-- the room is lent to an end; a number is a refusal without a place
abbrev pub read_byte_steps : Steps (List ℕ) ReadStart Chunk (List ℕ) (Refusal × List ℕ)
read_byte_steps =
    record {
      starts = λ a. let r = read_started a.room in ((bare r.0, []), r.1);
      pushes = λ b p. let r = read_pushed b p.bytes in ((bare r.0, []), r.1);
      ends = λ b out. let r = read_ended b out in ((r.0, r.2), r.1);
    }

abbrev pub read_byte_whole : Whole ReadStart Chunk (List ℕ) (Refusal × List ℕ)
read_byte_whole =
    record {
      number = λ r. r.0.number;
      begun = λ a. (bare 0, []);
      chunk = λ p. p.bytes;
      taken = λ a m p. (bare 0, []);
      whole = λ a m out. read_into (read_of m) out;
      refused_push = λ p. (bare 20, []);
      refused_end = λ out. (bare 20, out);
    }

-- proved: proofs/ReadChunks.antt, `read_bytes_chunked`
abbrev pub ReadBytesChunked : Type 0
ReadBytesChunked = Chunked read_byte_steps read_byte_whole

-- of bytes of any length, and the counts of the job that they are; proved: proofs/ReadChunks.antt, `read_bytes_20`
abbrev pub ReadBytes20 : Type 0
ReadBytes20 = Exactly20 read_byte_steps read_byte_whole Bytes (λ b. counts (read_job_of b))
