-- Lists of calls from C on the bytes of an inventory, each on the bytes that the one before it left; and what the model gives to them.
--
--   CallOnBytes            a call on an inventory's bytes: its arguments other than these, with the room lent to it; a volume is added by the
--                          number of its code
--   StepInto b c r b₁      the call c on the bytes b gives r, its number and what its room then holds, and leaves the bytes b₁
--   RunInto b cs rs e      the calls cs, each on the bytes last left, give rs and leave e
--   call_of c               the model's call that c is; none where c is told the number of no code
--   calls_of cs             those of the calls cs
--   state_after d n sizes cs     the model's state after the calls cs on an opening for the code d and n files of these sizes
--   GivesInto t c r        the model gives r to the call c in the state t, as C sees it
--   GivesAllInto t cs rs   it gives rs to the calls cs, one after another
-- Assumes nothing.
use Rattle.std.specs.Prelude.{◌≡◌, cond, List, [], ◌∷◌, ◌++◌, ℕ}
use Rattle.codes.specs.Codes.{is_code, code_of}
use Rattle.codes.specs.declared.Code.{Code}
use Rattle.parity.specs.Coefficient.{rule_of}
use Rattle.recovery.specs.Recoverable.{State}
use Rattle.inventory.specs.Model as model
use Rattle.inventory.specs.Model.{Call, change, Reply, reply, number_of, after, Gives}
use Rattle.inventory.specs.Steps.{change_step}
use Rattle.inventory.specs.Claim as calls
use Rattle.inventory_bytes.specs.Inventories.{counted_into}
use Rattle.par1_c.specs.Inventories.{changed_by, added_by, count_into, QueryInto}

-- ---- what the calls do: par1_add_file, .., par1_query, by the very definitions that their contracts cite

pub data CallOnBytes : Type 0 where
  add_file remove_file : ℕ → CallOnBytes
  add_volume : ℕ → ℕ → CallOnBytes
  remove_volume quarantine release : ℕ → CallOnBytes
  count : List ℕ → CallOnBytes
  query : ℕ → List ℕ → CallOnBytes

-- a call that changes the inventory is lent no room; a count and a query are lent the inventory's bytes to read
unfoldable pub StepInto : List ℕ → CallOnBytes → ℕ × List ℕ → List ℕ → Type 0
StepInto b (add_file f) (k, room) b₁ = ((k, b₁) ≡ changed_by (change_step model.add_file) f b) × (room ≡ [])
StepInto b (remove_file f) (k, room) b₁ = ((k, b₁) ≡ changed_by (change_step model.remove_file) f b) × (room ≡ [])
StepInto b (add_volume c v) (k, room) b₁ = ((k, b₁) ≡ added_by c v b) × (room ≡ [])
StepInto b (remove_volume v) (k, room) b₁ = ((k, b₁) ≡ changed_by (change_step model.remove_volume) v b) × (room ≡ [])
StepInto b (quarantine v) (k, room) b₁ = ((k, b₁) ≡ changed_by (change_step model.quarantine) v b) × (room ≡ [])
StepInto b (release v) (k, room) b₁ = ((k, b₁) ≡ changed_by (change_step model.release) v b) × (room ≡ [])
StepInto b (count out) (k, room) b₁ = ((k, room) ≡ count_into b out) × (b₁ ≡ b)
StepInto b (query f out) (k, room) b₁ = QueryInto b f out k room × (b₁ ≡ b)

-- "Each later call gets the sheet last handed back"
unfoldable pub RunInto : List ℕ → List CallOnBytes → List (ℕ × List ℕ) → List ℕ → Type 0
RunInto b [] [] e = b ≡ e
RunInto b [] (r ∷ rs) e = ⊥
RunInto b (c ∷ cs) [] e = ⊥
RunInto b (c ∷ cs) (r ∷ rs) e = (b₁ : List ℕ) × StepInto b c r b₁ × RunInto b₁ cs rs e

-- ---- what the model gives

-- "noting a volume names its code": one that names none is no call of the model, and changes nothing
unfoldable pub call_of : CallOnBytes → List Call
call_of (add_file f) = change model.add_file f ∷ []
call_of (remove_file f) = change model.remove_file f ∷ []
call_of (add_volume c v) = cond (is_code c) (change (model.add_volume (code_of c)) v ∷ []) []
call_of (remove_volume v) = change model.remove_volume v ∷ []
call_of (quarantine v) = change model.quarantine v ∷ []
call_of (release v) = change model.release v ∷ []
call_of (count out) = model.count ∷ []
call_of (query f out) = model.query f out ∷ []

unfoldable pub calls_of : List CallOnBytes → List Call
calls_of [] = []
calls_of (c ∷ cs) = call_of c ++ calls_of cs

abbrev pub state_after : Code → ℕ → List ℕ → List CallOnBytes → State
state_after d n sizes cs = calls.state_after d n sizes (calls_of cs)

-- the model's own replies; but 10 for what is the number of no code, and the three numbers of a count as bytes in its room, or 14
unfoldable pub GivesInto : State → CallOnBytes → ℕ × List ℕ → Type 0
GivesInto t (add_file f) (k, room) = Gives rule_of t (change model.add_file f) (reply k room)
GivesInto t (remove_file f) (k, room) = Gives rule_of t (change model.remove_file f) (reply k room)
GivesInto t (add_volume c v) (k, room) = (k ≡ cond (is_code c) (number_of t (model.add_volume (code_of c)) v) 10) × (room ≡ [])
GivesInto t (remove_volume v) (k, room) = Gives rule_of t (change model.remove_volume v) (reply k room)
GivesInto t (quarantine v) (k, room) = Gives rule_of t (change model.quarantine v) (reply k room)
GivesInto t (release v) (k, room) = Gives rule_of t (change model.release v) (reply k room)
GivesInto t (count out) (k, room) = (r : Reply) × Gives rule_of t model.count r × ((k, room) ≡ counted_into r out)
GivesInto t (query f out) (k, room) = Gives rule_of t (model.query f out) (reply k room)

unfoldable pub GivesAllInto : State → List CallOnBytes → List (ℕ × List ℕ) → Type 0
GivesAllInto t [] [] = Unit {0}
GivesAllInto t [] (r ∷ rs) = ⊥
GivesAllInto t (c ∷ cs) [] = ⊥
GivesAllInto t (c ∷ cs) (r ∷ rs) = GivesInto t c r × GivesAllInto (after t (call_of c)) cs rs
