-- Reading of a file that comes in chunks (document 02, 2026-03: "volume reading must accept input in successive chunks of any length, zero
-- too").
--
--   cap               one byte more than a file may have
--   start_read         the job before any byte
--   push_of j bs       the job j after the bytes bs
--   reading_of j       what reading gives at the end of the job j
--   over_of j          the job j, over
--   counts_of j        what the job j counts
--   is_open c          whether a job with the counts c goes on
--   push_answer j bs   what a push of the bytes bs into the job j gives
--   end_answer j       what the end of the job j gives
-- Assumes nothing.
use Rattle.std.specs.Prelude.{ℕ, ◌+◌, ◌-◌, ◌*◌, Bool, true, false, cond, not, ◌&&◌, List, [], leb, eqb, length, take, drop, replicate, Err}
use Rattle.std.proofs.lemmas.List.Edits.{sets}
use Rattle.md5_digest.specs.Running.{state_of, pushed, finished}
use Rattle.refusals.specs.Limits.{max_volume_length}
use Rattle.refusals.specs.Tests.{bare}
use Rattle.par1_rules.specs.Layout.{list_size_of}
use Rattle.par1_read.specs.Reading.{read_from}
use Rattle.par1_read.specs.Reading.{Reading}
use Rattle.list_scan.specs.Scan.{scan_start}
use Rattle.list_scan.specs.Room as scan
use Rattle.list_scan.specs.Found.{found_of}
use Rattle.running_read.specs.declared.RunningRead.{RunningRead}
use Rattle.running_read.specs.declared.Pushed.{Pushed}
use Rattle.running_read.specs.declared.Ended.{Ended}
use Rattle.running_read.specs.declared.Counts.{Counts}

-- bytes past it change nothing: the file is too long, and test 1 comes first
unfoldable pub cap : ℕ
cap = max_volume_length + 1

unfoldable pub start_read : RunningRead
start_read = record { total = 0; header = replicate 96 0; control = state_of []; list = scan_start; ended = false }

-- the header is the first 96 bytes, the control hash is over those from 32 on, and the list begins at 96 and has the size that the header says
unfoldable pub push_of : RunningRead → List ℕ → RunningRead
push_of j bs =
    let s : List ℕ = take (cap - j.total) bs in
    let header : List ℕ = sets j.header j.total s in
    record {
      total = j.total + length s;
      header = header;
      control = pushed j.control (drop (32 - j.total) s);
      list = scan.pushed j.list (take (list_size_of header - (j.total - 96)) (drop (96 - j.total) s));
      ended = j.ended;
    }

-- "Any refusal but 20 is given at the end only, so the order of checks holds"
unfoldable pub reading_of : RunningRead → Reading
reading_of j = read_from j.header j.total (finished j.control) (finished j.list.hash) (found_of j.list)

unfoldable pub over_of : RunningRead → RunningRead
over_of j = record { total = j.total; header = j.header; control = j.control; list = j.list; ended = true }

unfoldable pub counts_of : RunningRead → Counts
counts_of j =
    record {
      total = j.total;
      control = j.control.total;
      at = j.list.at;
      entries = j.list.totals.entries;
      saved = j.list.totals.saved;
      set = j.list.hash.total;
      ended = j.ended;
    }

-- "20, first of all, pushed or ended after the end, or a job whose counts no run of pushes gives": a run gives those that pass these tests, and no
-- others (specs/Claim, `Read20`)
unfoldable pub is_open : Counts → Bool
is_open c =
    not c.ended
    && (leb c.total cap
    && (eqb c.control (c.total - 32)
    && (leb (c.at + 58 * c.entries) (c.total - 96) && (leb c.saved c.entries && eqb c.set (16 * c.saved)))))

-- "nothing changed"
unfoldable pub push_answer : RunningRead → List ℕ → Pushed
push_answer j bs = cond (is_open (counts_of j)) (record { number = 0; next = push_of j bs }) (record { number = 20; next = j })

-- "the end finishes the job either way"
unfoldable pub end_answer : RunningRead → Ended
end_answer j =
    cond (is_open (counts_of j)) (record { reading = reading_of j; next = over_of j }) (record { reading = Err (bare 20); next = j })
