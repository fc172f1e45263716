-- Calls on the catalog in a room, one after another, and what is then in it (document 02, 2026-08: "After any run the index equals one opened
-- from the same list and given only the volumes now in it").
--
--   Call                   opening from a file, adding a volume, dropping one by its number
--   given c room           what the call c gives: its answer, and the room
--   answers room cs        the answers to the calls cs
--   room_after room cs      the room after them
--   Held                   the file that a catalog was opened from, and the volumes in it
--   newly_opened f          what is in a catalog newly opened
--   held_after c w h        what is in it after the call c, which answers w, where h was
--   held_run h room cs      and after the calls cs
--   held_length h           the length of the catalog
--   Ascend rs              the numbers of the rows rs ascend
-- Assumes nothing.
use Rattle.std.specs.Prelude.{not, List, [], ◌∷◌, ℕ, ◌+◌, ◌*◌, ◌<◌, eqb, length, Ok, Err}
use Rattle.cut_lists.specs.All.{All}
use Rattle.lent_bytes.specs.Writing.{Writing}
use Rattle.entries.specs.Numbering.{keep}
use Rattle.par1_read.specs.Reading.{entries_in}
use Rattle.par1_rules.specs.Layout.{volume_number_of}
use Rattle.catalog.specs.Rows.{number_of}
use Rattle.catalog.specs.Calls.{open_of, add_of, drop_of}

-- ---- the calls

pub data Call : Type 0 where
  opening : List ℕ → Call
  adding : List ℕ → Call
  dropping : ℕ → Call

abbrev pub given : Call → List ℕ → Writing × List ℕ
given (opening f) room = open_of f room
given (adding vol) room = add_of room vol
given (dropping v) room = drop_of room v

unfoldable pub answers : List ℕ → List Call → List Writing
answers room [] = []
answers room (c ∷ cs) = (given c room).0 ∷ answers (given c room).1 cs

unfoldable pub room_after : List ℕ → List Call → List ℕ
room_after room [] = room
room_after room (c ∷ cs) = room_after (given c room).1 cs

-- ---- "the volumes now in it"

pub record Held : Type 0 where
  pub file : List ℕ
  pub volumes : List (List ℕ)

-- "It is opened from one accepted file's list, with no volumes."
abbrev pub newly_opened : List ℕ → Held
newly_opened f = record { file = f; volumes = [] }

-- what is refused changes nothing; an opening begins anew
abbrev pub held_after : Call → Writing → Held → Held
held_after c (Err r) h = h
held_after (opening f) (Ok n) h = newly_opened f
held_after (adding vol) (Ok n) h = record { file = h.file; volumes = vol ∷ h.volumes }
held_after (dropping v) (Ok n) h = record { file = h.file; volumes = keep (λ vol. not (eqb (volume_number_of vol) v)) h.volumes }

unfoldable pub held_run : Held → List ℕ → List Call → Held
held_run h room [] = h
held_run h room (c ∷ cs) = held_run (held_after c (given c room).0 h) (given c room).1 cs

-- four numbers of 4 bytes, and a row of 28 for each entry and each volume
abbrev pub held_length : Held → ℕ
held_length h = 16 + 28 * (length (entries_in h.file) + length h.volumes)

-- "volume rows ascend by number"
pub data Ascend : List (List ℕ) → Type 0 where
  ascend_none : Ascend []
  ascend_more : {r : List ℕ} {rs : List (List ℕ)} → All (λ x. number_of r < number_of x) rs → Ascend rs → Ascend (r ∷ rs)
