-- File numbers.
--
--   number_saved    the file number of a saved entry: one more than there are saved ones before it
-- Assumes nothing.
use mathlib.Core.Path.{◌≡◌}
use mathlib.Core.Bool.{true}
use mathlib.Core.List.{List, []}
use Prim.Native.Nat.{ℕ, ◌+◌}
use lib.ListN.{length, take, get_or}
use Rattle.entries.specs.Entry.{status_of, is_saved}
use Rattle.entries.specs.Numbering.{saved_of, file_number}

pub number_saved : (es : List (List ℕ)) (k : ℕ) → is_saved (status_of (get_or es k [])) ≡ true → file_number es k ≡ length (saved_of (take k es)) + 1
number_saved es k t = simp t
