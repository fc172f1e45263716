-- Inventories in lent bytes: 18 numbers of 64 bits (n; files present, volumes present, files of size 1 or more, volumes in quarantine, four
-- words each; the code).
--
--   code_number_in b      the number of the code in the bytes b
--   inventory_in b       the inventory in the 18 numbers of the bytes b
--   inventory_of b       the inventory that the bytes b are, if they are 144 and their code is one, else zeros
--   inventory_bytes s    the bytes of the inventory s
--   opened_by c n s      what opening for the code c with the sizes in the bytes s gives
--   stored_by o out      the number of the outcome o, or 14, and what `out` then holds
--   stored r out         what a call gives that returns r: the inventory stored, or the number of the refusal
--   counted_into r out   the number of the reply r to a count, or 14, and what `out` then holds
-- Assumes nothing.
use Rattle.std.specs.Prelude.{cond, ◌&&◌, List, [], ◌∷◌, ◌++◌, ℕ, ◌*◌, leb, eqb, length, Result, Ok, Err}
use Rattle.lent_bytes.specs.Writing.{written_unless, with_number}
use Rattle.refusals.specs.Tests.{bare}
use Rattle.codes.specs.Codes.{is_code, code_of, code_number}
use Rattle.codes.specs.declared.Code.{Code}
use Rattle.inventory.specs.Model.{Reply, reply}
use Rattle.inventory.specs.Steps.{zeros, outcome, open_step, refused_opening}
use Rattle.inventory.specs.declared.Inventory.{Inventory}
use Rattle.inventory.specs.declared.Refused.{Refused}
use Rattle.inventory.specs.Outcome.{Outcome}
use Rattle.refusals.specs.Limits.{max_files}
use Rattle.little_endian.specs.Bytes.{le_at, numbers, numbers_at}

abbrev pub code_number_in : List ℕ → ℕ
code_number_in b = le_at 8 b 136

abbrev pub inventory_in : List ℕ → Inventory
inventory_in b = record {
  n = le_at 8 b 0;
  files = numbers_at 4 b 8;
  volumes = numbers_at 4 b 40;
  nonempty = numbers_at 4 b 72;
  quarantined = numbers_at 4 b 104;
  code = code_of (code_number_in b);
}

-- bytes of another length, or of another code, are no inventory: zeros, which every call refuses with 10
unfoldable pub inventory_of : List ℕ → Inventory
inventory_of b = cond (eqb (length b) 144 && is_code (code_number_in b)) (inventory_in b) zeros

unfoldable pub inventory_bytes : Inventory → List ℕ
inventory_bytes s = numbers (s.n ∷ s.files ++ s.volumes ++ s.nonempty ++ s.quarantined ++ (code_number s.code ∷ []))

-- the sizes are n numbers; else 10
unfoldable pub opened_by : Code → ℕ → List ℕ → Outcome
opened_by c n s = cond (leb n max_files && eqb (length s) (8 * n)) (open_step c n (numbers_at n s 0)) (refused_opening 10)

unfoldable pub stored_by : Outcome → List ℕ → ℕ × List ℕ
stored_by o out = with_number (written_unless (bare o.number) (inventory_bytes o.next) out)

unfoldable pub stored : Result Inventory Refused → List ℕ → ℕ × List ℕ
stored (Ok s) out = stored_by (outcome s 0) out
stored (Err r) out = (r.number, out)

-- the values of a count are numbers of 64 bits
unfoldable pub counted_into : Reply → List ℕ → ℕ × List ℕ
counted_into (reply number values) out = with_number (written_unless (bare number) (numbers values) out)
