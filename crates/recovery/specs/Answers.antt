-- What is told of a file (document 01, "The sheet": ask), and of all files at once (document 02, 2026-11), from sets of numbers and over any rule
-- for the coefficients. Of n files those of the set `files` are present, and those of `nonempty` are of size 1 or more; `volumes` are those present.
--
--   state_of n files volumes aside d size     the state that the sets stand for, of files of these sizes; volumes of `aside` are quarantined, and
--                              the code is d
--   InRange n nonempty         the files of the set are files of n
--   Matches n nonempty size    a size is 0 exactly where the file is not in the set
--   Found rule n files volumes nonempty i found ws     whether weights bring file i + 1 back, and these weights by volume number
--   Written rule n files ws room room' p     the first p weights of n files and the volumes, in the room
--   Answers rule n files volumes nonempty i room r room'     the answer r on file i + 1, and the room after it
--   is_empty files nonempty i     whether file i + 1 is missing and empty
--   Gathered rule n files volumes nonempty r     r is the set of the files whose columns are solved, and of the missing empty ones
-- That these are the answers that the notions of specs/Recoverable.antt give: specs/Claim.antt, AsRecoverable.
-- Assumes nothing.
use Rattle.std.specs.Prelude.{◌≡◌, Bool, true, false, not, ◌&&◌, List, ℕ, suc, ◌<◌, ◌≤◌, ◌+◌, ◌-◌, leb, length, get_or}
use Rattle.codes.specs.declared.Code.{Code}
use Rattle.parity.specs.Parity.{is_file}
use Rattle.number_sets.specs.Sets.{member, gathered}
use Rattle.volume_weights.specs.Weights.{Solved, SolvedColumns, file_weight}
use Rattle.recovery.specs.Recoverable.{State}
use Rattle.recovery.specs.declared.Answer.{Answer}
use Rattle.recovery.specs.declared.Answer.TheVariants as answer

-- ---- what the sets stand for

abbrev pub state_of : ℕ → List ℕ → List ℕ → (ℕ → Bool) → Code → (ℕ → ℕ) → State
state_of n files volumes aside d size = record { n = n; size = size; files = member files; volumes = member volumes; quarantined = aside; code = d }

abbrev pub InRange : ℕ → List ℕ → Type 0
InRange n nonempty = (g : ℕ) → g < 256 → member nonempty g ≡ true → is_file n g ≡ true

abbrev pub Matches : ℕ → List ℕ → (ℕ → ℕ) → Type 0
Matches n nonempty size = (f : ℕ) → is_file n f ≡ true → member nonempty f ≡ leb 1 (size f)

-- ---- one file

-- an empty file comes back by no weight; any other by those that solve the rows of the volumes present
pub data Found (rule : ℕ → ℕ → ℕ) (n : ℕ) (files volumes nonempty : List ℕ) (i : ℕ) (found : Bool) (ws : List ℕ) : Type 0 where
  empty : member nonempty (suc i) ≡ false → found ≡ true → ((v : ℕ) → get_or ws v 0 ≡ 0) → Found rule n files volumes nonempty i found ws
  not_empty : member nonempty (suc i) ≡ true → Solved rule nonempty files volumes (255 - n) i ws found
      → Found rule n files volumes nonempty i found ws

pub record Written (rule : ℕ → ℕ → ℕ) (n : ℕ) (files ws room room' : List ℕ) (p : ℕ) : Type 0 where
  pub same_length : length room' ≡ length room
  pub of_files : (i : ℕ) → i < p → i < n → get_or room' i 0 ≡ file_weight rule files ws (255 - n) i
  pub of_volumes : (i : ℕ) → i < p → n ≤ i → get_or room' i 0 ≡ get_or ws (i - n + 1) 0
  pub rest : (i : ℕ) → p ≤ i → get_or room' i 0 ≡ get_or room i 0

-- "13 if in hand; 12 if not rebuildable; 14 if the room is below 255 bytes; else rebuildable, and the recipe becomes the room's first 255 bytes"
pub data Answers (rule : ℕ → ℕ → ℕ) (n : ℕ) (files volumes nonempty : List ℕ) (i : ℕ) (room : List ℕ) : Answer → List ℕ → Type 0 where
  present : member files (suc i) ≡ true → Answers rule n files volumes nonempty i room answer.Present room
  undetermined : member files (suc i) ≡ false → (ws : List ℕ) → Found rule n files volumes nonempty i false ws
      → Answers rule n files volumes nonempty i room answer.Undetermined room
  no_room : member files (suc i) ≡ false → (ws : List ℕ) → Found rule n files volumes nonempty i true ws
      → length room < 255 → Answers rule n files volumes nonempty i room (answer.Refused 14) room
  recoverable : member files (suc i) ≡ false → (ws : List ℕ) → Found rule n files volumes nonempty i true ws
      → 255 ≤ length room → (room' : List ℕ) → Written rule n files ws room room' 255
      → Answers rule n files volumes nonempty i room answer.Recoverable room'

-- ---- all files at once

-- "An empty file not in hand is always rebuildable"
abbrev pub is_empty : List ℕ → List ℕ → ℕ → Bool
is_empty files nonempty i = not (member files (suc i)) && not (member nonempty (suc i))

pub record Gathered (rule : ℕ → ℕ → ℕ) (n : ℕ) (files volumes nonempty r : List ℕ) : Type 0 where
  pub solved : List ℕ
  pub columns : SolvedColumns rule nonempty files volumes (255 - n) solved
  pub with_empty : r ≡ gathered solved suc (is_empty files nonempty) n
