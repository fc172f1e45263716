-- Runs: bytes of an entry that are taken at once.
--
--   named_after named at low l   what is known of a name with the bytes l from the place at on, where named was known before them, and low came
--                               before them
--   NoneEnds head at l          no entry ends amid the bytes l, which come at the place at of the entry with these first bytes
--   IsRun head at low named l r    r is a run at the front of the bytes l
-- Assumes nothing.
use Rattle.std.specs.Prelude.{◌≡◌, ℕ, ◌+◌, ◌<◌, ◌≤◌, false, List, [], ◌∷◌, length, take}
use Rattle.std.proofs.lemmas.List.Edits.{sets}
use Rattle.list_scan.specs.declared.NameSoFar.{NameSoFar}
use Rattle.list_scan.specs.declared.Run.{Run}
use Rattle.list_scan.specs.Scan.{name_byte, is_whole}

unfoldable pub named_after : NameSoFar → ℕ → ℕ → List ℕ → NameSoFar
named_after named at low [] = named
named_after named at low (b ∷ l) = named_after (name_byte named at low b) (at + 1) b l

-- whatever is found of its name, it does not end before the last of them
abbrev pub NoneEnds : List ℕ → ℕ → List ℕ → Type 0
NoneEnds head at l = (k : ℕ) → 0 < k → k < length l → (named : NameSoFar) → is_whole (sets head at (take k l)) (at + k) named ≡ false

pub record IsRun (head : List ℕ) (at low : ℕ) (named : NameSoFar) (l : List ℕ) (r : Run) : Type 0 where
  pub some : 0 < r.length
  pub within : r.length ≤ length l
  pub none_ends : NoneEnds head at (take r.length l)
  pub named_is : r.named ≡ named_after named at low (take r.length l)
