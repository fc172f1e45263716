-- What the calls on inventories in lent bytes give, as C sees them.
--
--   open_into k n s out    the number of an opening for the code of the number k with the sizes in the bytes s, and what `out` then holds
--   changed_by step k b    the number of a call that changes the inventory b, and the bytes after it
--   added_by k v b         the same of adding volume v of the code of the number k
--   count_into b out       the number of a count of the inventory b, and what `out` then holds
--   QueryInto b f out r out'   r is the number of a query for file f of the inventory b, and out' what `out` then holds
-- Assumes nothing.
use Rattle.std.specs.Prelude.{◌≡◌, List, ℕ}
use Rattle.parity.specs.Coefficient.{rule_of}
use Rattle.inventory.specs.Model.{add_volume}
use Rattle.inventory.specs.Steps.{change_step, count_step, answer_number}
use Rattle.inventory.specs.Query.{Queried}
use Rattle.recovery.specs.declared.Answer.{Answer}
use Rattle.inventory.specs.declared.Inventory.{Inventory}
use Rattle.inventory.specs.Outcome.{Outcome}
use Rattle.inventory_bytes.specs.Inventories.{inventory_of, opened_by, stored_by, counted_into}
use Rattle.par1_c.specs.Codes.{by_code}

-- "A sheet is opened for one code or the other"
abbrev pub open_into : ℕ → ℕ → List ℕ → List ℕ → ℕ × List ℕ
open_into k n s out = by_code k (λ c. stored_by (opened_by c n s) out) out

abbrev pub changed_by : (Inventory → ℕ → Outcome) → ℕ → List ℕ → ℕ × List ℕ
changed_by step k b = stored_by (step (inventory_of b) k) b

-- "noting a volume names its code"
abbrev pub added_by : ℕ → ℕ → List ℕ → ℕ × List ℕ
added_by k v b = by_code k (λ c. changed_by (change_step (add_volume c)) v b) b

abbrev pub count_into : List ℕ → List ℕ → ℕ × List ℕ
count_into b out = counted_into (count_step (inventory_of b)) out

-- as the query of the inventory answers
pub record QueryInto (b : List ℕ) (f : ℕ) (out : List ℕ) (r : ℕ) (out' : List ℕ) : Type 0 where
  pub answer : Answer
  pub queried : Queried rule_of (inventory_of b) f out answer out'
  pub number_is : r ≡ answer_number answer
