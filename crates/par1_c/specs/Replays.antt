-- The replay of a log, as C calls it.
--
--   ReplayInto log out r out'     the answer r to a replay of the log, and the lent bytes after it, by any test that decides which files are
--                                 recoverable
-- Assumes nothing.
use Rattle.std.specs.Prelude.{◌≡◌, Bool, List, ℕ}
use Rattle.lent_bytes.specs.Writing.{written}
use Rattle.parity.specs.Coefficient.{coefficient}
use Rattle.recovery.specs.Recoverable.{State}
use Rattle.replay.specs.Replay.{Decides, replay_of}
use Rattle.par1_c.specs.Answers.{answered_length}

abbrev pub ReplayInto : List ℕ → List ℕ → ℕ → List ℕ → Type 0
ReplayInto log out r out' = (d : State → ℕ → Bool) → Decides coefficient d → (r, out') ≡ answered_length (written (replay_of d log) out)
