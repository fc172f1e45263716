-- What is claimed of a running hash (document 02, 2026-03), over the definitions that the contracts of its calls cite.
--
--   hash_steps       the calls on a running hash: each answers a number, with what the lent room then holds
--   hash_whole       what they are to answer, told by the bytes pushed since the start
--   HashChunked     they do, over all lists of chunks and all lists of calls
--   Held h          the total of the job h is one that 64 bits can hold
--   counts h        the counts of the job h: how many bytes it was given, and the mark that it is over
--   Hash20          a call is refused with 20 exactly where no start and pushes give the counts
-- What excludes an empty reading: every list of bytes is a chunk and a room, every job of the struct is held, and what an end is to answer is
-- what `digest_into` promises, which determines the number and each byte of the room. Of jobs that are held some are refused and some are not:
-- the mark decides, whatever the total.
-- Assumes nothing.
use Rattle.std.specs.Prelude.{List, [], ℕ, ◌^◌, ◌<◌}
use Rattle.jobs.specs.Claim.{Chunked, Exactly20}
use Rattle.jobs.specs.Job.{Steps, Whole}
use Rattle.md5_digest.specs.Digest.{digest_into}
use Rattle.running_hash.specs.Hash.{start_hash, push_of, end_of}
use Rattle.running_hash.specs.declared.RunningHash.{RunningHash}

-- a start is given nothing; a start and a push are lent no room
abbrev pub hash_steps : Steps RunningHash (Unit {0}) (List ℕ) (List ℕ) (ℕ × List ℕ)
hash_steps =
    record {
      starts = λ a. ((0, []), start_hash);
      pushes = λ h bs. (((push_of h bs).number, []), (push_of h bs).next);
      ends = λ h out. let r = end_of h out in ((r.0.number, r.1), r.0.next);
    }

-- "Any refusal but 20 is given at the end only": that of the digest of the whole in one call, 14
abbrev pub hash_whole : Whole (Unit {0}) (List ℕ) (List ℕ) (ℕ × List ℕ)
hash_whole =
    record {
      number = λ r. r.0;
      begun = λ a. (0, []);
      chunk = λ bs. bs;
      taken = λ a m bs. (0, []);
      whole = λ a m out. digest_into m out;
      refused_push = λ bs. (20, []);
      refused_end = λ out. (20, out);
    }

-- proved: proofs/Chunks.antt, `hash_chunked`
abbrev pub HashChunked : Type 0
HashChunked = Chunked hash_steps hash_whole

abbrev pub Held : RunningHash → Type 0
Held h = h.hash.total < 2 ^ 64

abbrev pub counts : RunningHash → ℕ × ℕ
counts h = (h.hash.total, h.ended)

-- "a job whose counts no run of pushes gives"; proved: proofs/Chunks.antt, `hash_20`
abbrev pub Hash20 : Type 0
Hash20 = Exactly20 hash_steps hash_whole Held counts
