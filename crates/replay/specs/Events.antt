-- A replay event by event, on inventories: what the calls give that a program goes by which holds one line at a time.
--
--   last k from s              no event is taken at `from`, by the refusal k or, where it is 0, at the end of the log
--   ended k                    nothing to go on from, by the refusal k
--   taken from o               an event with the outcome o, after which the next line starts at `from`
--   opened_by from o            the same of an opening, which ends where it is refused
--   opening log                the first line: where its events start, and what is present then, or its refusal
--   next_event log from s       the event at `from`, where s is present before it
--   told e                     what a program is told of e: nothing at the end of the log, else what is present after it, or its refusal
--   GoesOn log e r             the replay r of this log goes on after e, and has nothing left of it where e is the last
--   Gives r t r'               what is told next by a replay r, and the replay after it
--   EventLine rules e line     the line that is printed after e
--   Prints rules log e lines   the lines that are printed from the event e on, each event taken where the one before it ended
-- Assumes nothing.
use Rattle.std.specs.Prelude.{ℕ, ◌+◌, ◌≡◌, ◌≢◌, ◌≤◌, Option, None, Some, Result, Ok, Err, true, false, cond, List, [], ◌∷◌, leb, eqb, length, get_or, take, drop}
use Rattle.refusals.specs.Limits.{max_listed_length}
use Rattle.number_sets.specs.Sets.{member}
use Rattle.codes.specs.declared.Code.{Code}
use Rattle.codes.specs.declared.Code.TheVariants.{Powers}
use Rattle.inventory.specs.Steps.{is_inventory, zeros, open_step, change_step}
use Rattle.inventory.specs.RecoverableFiles.{RecoverableFiles, RecoverableSet}
use Rattle.inventory.specs.declared.Inventory.{Inventory}
use Rattle.inventory.specs.Outcome.{Outcome}
use Rattle.text.specs.TextLines.{line_length}
use Rattle.replay.specs.Log.{body_of, is_first_line, numbers_of, change_of, is_event_line, number_in}
use Rattle.replay.specs.Lines.{refused_line, files_of, numbers_line}
use Rattle.replay.specs.declared.events.Event.{Event}
use Rattle.replay.specs.declared.events.Replay.{Replay}

abbrev pub last : ℕ → ℕ → Inventory → Event
last k from s = record { number = k; over = true; from = from; inventory = s }

abbrev pub ended : ℕ → Event
ended k = last k 0 zeros

abbrev pub taken : ℕ → Outcome → Event
taken from o = record { number = o.number; over = false; from = from; inventory = o.next }

-- what an opening gives, after a first line of this length
unfoldable pub opened_by : ℕ → Outcome → Event
opened_by from o = cond (eqb o.number 0) (taken from o) (ended o.number)

-- 2026-13: "A sheet is opened for one code or the other (the replay keeps the old one)"
unfoldable pub opening : List ℕ → Event
opening log =
    let first : List ℕ = body_of (take (line_length log) log) in
    cond (leb (length log) max_listed_length)
    (cond (eqb (line_length log) 0) (ended 28)
    (cond (is_first_line first) (opened_by (line_length log) (open_step Powers (get_or (numbers_of first) 0 0) (drop 1 (numbers_of first)))) (ended 28)))
    (ended 1)

unfoldable pub next_event : List ℕ → ℕ → Inventory → Event
next_event log from s =
    let n : ℕ = line_length (drop from log) in
    let line : List ℕ = body_of (take n (drop from log)) in
    cond (leb (length log) from) (last 0 from s)
    (cond (eqb n 0) (last 28 from s)
    (cond (is_event_line line) (taken (from + n) (change_step (change_of (get_or line 0 0)) s (number_in line))) (last 28 from s)))

-- ---- a replay, as the code holds it

abbrev pub told : Event → Option (Result Inventory ℕ)
told e = cond (eqb e.number 0) (cond e.over None (Some (Ok e.inventory))) (Some (Err e.number))

pub record GoesOn (log : List ℕ) (e : Event) (r : Replay) : Type 0 where
  pub same : r.log.now ≡ log
  pub present : r.inventory ≡ e.inventory
  pub more : e.over ≡ false → r.from ≡ e.from
  pub no_more : e.over ≡ true → length log ≤ r.from

abbrev pub Gives : Replay → Option (Result Inventory ℕ) → Replay → Type 0
Gives r t r' = let e : Event = next_event r.log.now r.from r.inventory in (t ≡ told e) × GoesOn r.log.now e r'

-- ---- the lines

pub data EventLine (rules : Code → ℕ → ℕ → ℕ) (e : Event) : List ℕ → Type 0 where
  at_end : e.number ≡ 0 → e.over ≡ true → EventLine rules e []
  refused : e.number ≢ 0 → EventLine rules e (refused_line e.number)
  -- "Every call refuses with 10, first of all, a sheet that opening and accepted calls could not have given"
  no_inventory : e.number ≡ 0 → e.over ≡ false → is_inventory e.inventory ≡ false → EventLine rules e (refused_line 10)
  files : e.number ≡ 0 → e.over ≡ false → is_inventory e.inventory ≡ true → (r : RecoverableFiles) → RecoverableSet rules e.inventory r
      → EventLine rules e (numbers_line (files_of e.inventory.n (member r.files)))

pub data Prints (rules : Code → ℕ → ℕ → ℕ) (log : List ℕ) : Event → List (List ℕ) → Type 0 where
  ends : {e : Event} → e.over ≡ true → Prints rules log e []
  goes_on : {e : Event} {line : List ℕ} {lines : List (List ℕ)} → e.over ≡ false → EventLine rules (next_event log e.from e.inventory) line
      → Prints rules log (next_event log e.from e.inventory) lines → Prints rules log e (line ∷ lines)
