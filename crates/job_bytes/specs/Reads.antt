-- A running read in lent bytes: 392 of them, one part after another, numbers lowest byte first and of 64 bits unless a width is said.
-- Bytes so far; header (96 bytes); control hash; scan of the list; 0, or another number where the job is over. A hash is its four words (32 bits),
-- its tail (64 bytes) and its total. A scan is the first 56 bytes of the entry at hand; how many of its bytes came, the last of them, two marks of
-- its name so far (bit 0 where each unit is allowed, bit 1 where each is a dot), entries, saved entries, greatest size; the hash over the saved
-- ones.
--
--   words_bytes w, md5_bytes h, scan_bytes sc, read_job_bytes j   the bytes of four words, of a hash, of a scan and of a job
--   words_at b i, md5_at b i   the four words and the hash at byte i of b
--   scan_in b, read_job_in b    the scan and the job in b
--   read_job_of b              the job that the bytes b are, if they are 392, else one that is over
--   read_stored n j out       the number n of a call on a job, or 14, and what `out` then holds: the job j that it left, where n is 0
--   read_started out          the number of a start, and what `out` then holds
--   read_pushed b bs          the number of a push of the bytes bs on the job in b, and what b then holds
--   job_number n              the number of an end that refused its job: 20, where n is that, else 0
--   read_ended b out          the refusal of an end on the job in b, with the number 0 where it is accepted, and what b and `out` then hold
-- Assumes nothing.
use Rattle.std.specs.Prelude.{cond, ℕ, ◌+◌, eqb, length, take, drop}
use mathlib.Core.List.{List, [], ◌∷◌, flatten}
use Rattle.answer_bytes.specs.Results.{read_into}
use Rattle.lent_bytes.specs.Writing.{written_unless, with_number}
use Rattle.list_scan.specs.declared.Scan.{Scan}
use Rattle.little_endian.specs.Bytes.{to_le, le_at, numbers}
use Rattle.md5_digest.specs.declared.Md5.{Md5}
use Rattle.md5_blocks.specs.declared.rounds.Words.{Words}
use Rattle.refusals.specs.Tests.{bare}
use Rattle.refusals.specs.declared.Refusal.{Refusal}
use Rattle.running_read.specs.declared.RunningRead.{RunningRead}
use Rattle.running_read.specs.Running.{start_read, over_of, push_answer, end_answer}
use Rattle.job_bytes.specs.Marks.{mark_of, is_marked, name_mark, name_marked}

-- ---- the bytes of a job

unfoldable pub words_bytes : Words → List ℕ
words_bytes w = flatten (to_le 4 w.a ∷ to_le 4 w.b ∷ to_le 4 w.c ∷ to_le 4 w.d ∷ [])

unfoldable pub md5_bytes : Md5 → List ℕ
md5_bytes h = flatten (words_bytes h.words ∷ h.tail ∷ to_le 8 h.total ∷ [])

unfoldable pub scan_bytes : Scan → List ℕ
scan_bytes sc =
    let t = sc.totals in
    flatten
    (sc.head
    ∷ numbers (sc.at ∷ sc.low ∷ name_mark sc.named ∷ t.entries ∷ t.saved ∷ t.greatest ∷ [])
    ∷ md5_bytes sc.hash
    ∷ [])

unfoldable pub read_job_bytes : RunningRead → List ℕ
read_job_bytes j =
    flatten (to_le 8 j.total ∷ j.header ∷ md5_bytes j.control ∷ scan_bytes j.list ∷ to_le 8 (mark_of j.ended) ∷ [])

-- ---- the job in bytes

abbrev pub words_at : List ℕ → ℕ → Words
words_at b i = record { a = le_at 4 b i; b = le_at 4 b (i + 4); c = le_at 4 b (i + 8); d = le_at 4 b (i + 12) }

abbrev pub md5_at : List ℕ → ℕ → Md5
md5_at b i = record { words = words_at b i; tail = take 64 (drop (i + 16) b); total = le_at 8 b (i + 80) }

-- of the number that the last byte is, its lowest byte
abbrev pub scan_in : List ℕ → Scan
scan_in b =
    record {
      head = take 56 (drop 192 b);
      at = le_at 8 b 248;
      low = le_at 1 b 256;
      named = name_marked (le_at 8 b 264);
      totals = record { entries = le_at 8 b 272; saved = le_at 8 b 280; greatest = le_at 8 b 288 };
      hash = md5_at b 296;
    }

unfoldable pub read_job_in : List ℕ → RunningRead
read_job_in b =
    record {
      total = le_at 8 b 0;
      header = take 96 (drop 8 b);
      control = md5_at b 104;
      list = scan_in b;
      ended = is_marked (le_at 8 b 384);
    }

-- bytes of another length are no job: one that is over, which every call refuses with 20
unfoldable pub read_job_of : List ℕ → RunningRead
read_job_of b = cond (eqb (length b) 392) (read_job_in b) (over_of start_read)

-- ---- the calls

unfoldable pub read_stored : ℕ → RunningRead → List ℕ → ℕ × List ℕ
read_stored n j out = with_number (written_unless (bare n) (read_job_bytes j) out)

-- bytes past the job's stay
abbrev pub read_started : List ℕ → ℕ × List ℕ
read_started out = read_stored 0 start_read out

abbrev pub read_pushed : List ℕ → List ℕ → ℕ × List ℕ
read_pushed b bs = let p = push_answer (read_job_of b) bs in read_stored p.number p.next b

-- "the end finishes the job either way": 20 alone leaves it as it was
abbrev pub job_number : ℕ → ℕ
job_number n = cond (eqb n 20) 20 0

abbrev pub read_ended : List ℕ → List ℕ → Refusal × List ℕ × List ℕ
read_ended b out =
    let e = end_answer (read_job_of b) in
    let answer = read_into e.reading out in
    (answer.0, (read_stored (job_number answer.0.number) e.next b).1, answer.1)
