-- What a query does (document 01, "The sheet": ask), over any rule for the coefficients of each code.
--
--   state_of s size          the state that an inventory stands for, of files of these sizes
--   Matches s size          a size is 0 exactly where the inventory has the file as empty
--   Queried rules s f room r room'     the answer r to a query, and the room after it, by the rule of the inventory's code
-- Assumes nothing.
use Rattle.std.specs.Prelude.{◌≡◌, ◌⊎◌, true, false, List, ℕ}
use Rattle.number_sets.specs.Sets.{member}
use Rattle.codes.specs.declared.Code.{Code}
use Rattle.recovery.specs.Recoverable.{State}
use Rattle.recovery.specs.Answers as sets
use Rattle.inventory.specs.Model.{query, queried, Gives}
use Rattle.inventory.specs.Steps.{is_inventory, answer_number}
use Rattle.inventory.specs.declared.Inventory.{Inventory}
use Rattle.recovery.specs.declared.Answer.{Answer}
use Rattle.recovery.specs.declared.Answer.TheVariants as answer

abbrev pub state_of : Inventory → (ℕ → ℕ) → State
state_of s size = sets.state_of s.n s.files s.volumes (member s.quarantined) s.code size

abbrev pub Matches : Inventory → (ℕ → ℕ) → Type 0
Matches s size = sets.Matches s.n s.nonempty size

-- the number of the answer and the room, as document 01 has them
pub record Queried (rules : Code → ℕ → ℕ → ℕ) (s : Inventory) (f : ℕ) (room : List ℕ) (r : Answer) (room' : List ℕ) : Type 0 where
  -- "Every call refuses with 10, first of all, a sheet that opening and accepted calls could not have given"
  pub first : is_inventory s ≡ false → queried (answer_number r) room' ≡ queried 10 room
  -- else as the model gives it, for all sizes that the inventory can stand for
  pub as_model : is_inventory s ≡ true
      → (size : ℕ → ℕ) → Matches s size → Gives rules (state_of s size) (query f room) (queried (answer_number r) room')
  -- a refusal is 10 or 14, so the number tells the answer
  pub refusal : (k : ℕ) → r ≡ answer.Refused k → (k ≡ 10) ⊎ (k ≡ 14)
