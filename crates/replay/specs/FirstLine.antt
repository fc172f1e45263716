-- The parts of reading a first line.
--
--   NumbersRead line r     the numbers of a first line: how many they are, and the first 255 of them, each cut to 64 bits
--   opened_line line       what opening by a line's numbers gives, or the refusal of a line of another shape
-- Assumes nothing.
use Rattle.std.specs.Prelude.{ℕ, ◌<◌, min, ◌≡◌, true, cond, List, length, get_or, drop, Result, Err}
use Rattle.codes.specs.declared.Code.TheVariants.{Powers}
use Rattle.inventory.specs.Steps.{open_step, or_refusal}
use Rattle.inventory.specs.declared.Inventory.{Inventory}
use Rattle.inventory.specs.Outcome.{Outcome}
use Rattle.text.specs.Buffer.{usize_max}
use Rattle.replay.specs.Log.{is_first_line, numbers_of}
use Rattle.replay.specs.declared.first_line.Numbers.{Numbers}

pub record NumbersRead (line : List ℕ) (r : Numbers) : Type 0 where
  pub shape : is_first_line line ≡ true
  pub full : length r.values ≡ 255
  pub counted : r.count ≡ length (numbers_of line)
  pub each : (i : ℕ) → i < length (numbers_of line) → i < 255 → get_or r.values i 0 ≡ min (get_or (numbers_of line) i 0) usize_max

unfoldable pub opened_line : List ℕ → Result Inventory ℕ
opened_line line =
    let o : Outcome = open_step Powers (get_or (numbers_of line) 0 0) (drop 1 (numbers_of line)) in
    cond (is_first_line line) (or_refusal o.next o.number) (Err 28)
