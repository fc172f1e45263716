-- Marks as numbers.
--
--   mark_of t      1 where the mark t is set, else 0
--   is_marked n    whether the number n is a mark that is set: any but 0
--   name_mark n    the marks of the name so far n: 1 where each unit is allowed, and 2 where each is a dot
--   name_marked k  the name so far with the marks k
-- Assumes nothing.
use Rattle.std.specs.Prelude.{Bool, cond, not, ℕ, ◌+◌, ◌*◌, ◌/◌, ◌%◌, eqb}
use Rattle.list_scan.specs.declared.NameSoFar.{NameSoFar}

abbrev pub mark_of : Bool → ℕ
mark_of t = cond t 1 0

abbrev pub is_marked : ℕ → Bool
is_marked n = not (eqb n 0)

abbrev pub name_mark : NameSoFar → ℕ
name_mark n = mark_of n.allowed + 2 * mark_of n.dots

abbrev pub name_marked : ℕ → NameSoFar
name_marked k = record { allowed = eqb (k % 2) 1; dots = eqb (k / 2 % 2) 1 }
