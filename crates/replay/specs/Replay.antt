-- The replay of a log (document 02, 2026-11), worked out from the log and the model alone.
--
--   Decides rule d          d tells of a state which of its files are missing and recoverable
--   event_line d t c k       the line after the change c of number k in the state t
--   event_lines d t ls rest  the lines after the events ls from the state t on, where `rest` is an unended last line
--   opened_lines d n sizes ls rest     the same from an opening on, or its refusal
--   log_lines d ls rest      the lines of a log of the lines ls
--   replay_of d log          what a replay prints, d being such a test
--   Replayed rule log out r      r is what a call gives that replays the log into `out`
-- Recoverable is a statement about all contents, which no definition computes; so the test d is any that decides it. There is one, and the
-- text is the same by each: specs/Claim.antt, Decided and OneText.
-- Assumes nothing.
use Rattle.std.specs.Prelude.{ℕ, ◌≤◌, ◌≡◌, ◌↔◌, Bool, true, cond, List, [], ◌∷◌, ◌++◌, leb, eqb, length, get_or, drop}
use Rattle.refusals.specs.Limits.{max_listed_length}
use Rattle.lent_bytes.specs.Writing.{written}
use Rattle.lent_bytes.specs.Writing.{Writing}
use Rattle.cut_lists.specs.Pieces.{Cut, cut}
use Rattle.codes.specs.declared.Code.TheVariants.{Powers}
use Rattle.recovery.specs.Recoverable.{State, RecoverableNow}
use Rattle.inventory.specs.Model.{Change, change, opened, number_of, next}
use Rattle.inventory.specs.Steps.{open_step}
use Rattle.inventory.specs.Claim.{size_in}
use Rattle.text.specs.TextLines.{line_length}
use Rattle.replay.specs.Log.{body_of, is_first_line, numbers_of, change_of, is_event_line, number_in}
use Rattle.replay.specs.Lines.{refused_line, files_of, numbers_line}

-- of the states of at most 254 files, as an opening gives. The promise and the claims take it at `coefficient`, the rule of the old code, whatever
-- the code of the state: so a replay that is opened for Cauchy coefficients is refused
abbrev pub Decides : (ℕ → ℕ → ℕ) → (State → ℕ → Bool) → Type 0
Decides rule d = (t : State) → t.n ≤ 254 → (f : ℕ) → (d t f ≡ true) ↔ RecoverableNow rule t f

module _ (d : State → ℕ → Bool) where
  -- "After each event a program prints the file numbers that are rebuildable now, ascending, or `none`, or `refused N`"
  unfoldable pub event_line : State → Change → ℕ → List ℕ
  event_line t c k =
      let now : State = next t (change c k) in
      cond (eqb (number_of t c k) 0) (numbers_line (files_of now.n (d now))) (refused_line (number_of t c k))

  -- "and goes on"; "28 for a line of another shape, .. or an unended last one included, which ends the replay"
  unfoldable pub event_lines : State → List (List ℕ) → List ℕ → List ℕ
  event_lines t [] [] = []
  event_lines t [] (b ∷ rest) = refused_line 28
  event_lines t (l ∷ ls) rest =
      let c : Change = change_of (get_or (body_of l) 0 0) in
      let k : ℕ = number_in (body_of l) in
      cond (is_event_line (body_of l)) (event_line t c k ++ event_lines (next t (change c k)) ls rest) (refused_line 28)

  -- after an accepted opening; "so does 10 or 1 from opening, 10 too if the sizes are more or fewer than the first number says"; 2026-13: "(the replay
  -- keeps the old one)"
  unfoldable pub opened_lines : ℕ → List ℕ → List (List ℕ) → List ℕ → List ℕ
  opened_lines n sizes ls rest =
      let number : ℕ = (open_step Powers n sizes).number in
      cond (eqb number 0) (event_lines (opened Powers n (size_in sizes)) ls rest) (refused_line number)

  -- "28 for a line of another shape, the first (or none) .. included": nothing is printed for a first line that is accepted
  unfoldable pub log_lines : List (List ℕ) → List ℕ → List ℕ
  log_lines [] rest = refused_line 28
  log_lines (l ∷ ls) rest =
      let numbers : List ℕ = numbers_of (body_of l) in
      cond (is_first_line (body_of l)) (opened_lines (get_or numbers 0 0) (drop 1 numbers) ls rest) (refused_line 28)

  -- "A log above 65,536 bytes gives only `refused 1`, as in the listing."
  unfoldable pub replay_of : List ℕ → List ℕ
  replay_of log =
      let lines : Cut = cut line_length log in
      cond (leb (length log) max_listed_length) (log_lines lines.pieces lines.rest) (refused_line 1)

abbrev pub Replayed : (ℕ → ℕ → ℕ) → List ℕ → List ℕ → Writing × List ℕ → Type 0
Replayed rule log out r = (d : State → ℕ → Bool) → Decides rule d → r ≡ written (replay_of d log) out
