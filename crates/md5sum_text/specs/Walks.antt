-- What the walks over the lines of a text find.
--
--   shapes_of s           how many lines of the right shape the text s begins with, and where they end
--   Stands s p           line p .number of the text s, from 0, stands at p.at
--   is_other name sum l   whether the line l has the name whose units are the bytes `name`, and another sum
--   Sought ls t n m k    k is the first of the lines ls from n on and below m for which the test t passes, or m
--   Found s name sum m p q     q is where the first such line stands that has the name and another sum, from where p stands on
-- Assumes nothing.
use Rattle.std.specs.Prelude.{◌≡◌, Bool, true, false, not, ◌&&◌, List, [], ℕ, ◌-◌, ◌≤◌, ◌<◌, length, drop, get_or}
use Rattle.entries.specs.Entry.{units_of}
use Rattle.lent_bytes.specs.Equal.{equal}
use Rattle.md5sum_text.specs.Lines.{lines_of, sum_in, name_in}
use Rattle.md5sum_text.specs.declared.lines.Shapes.{Shapes}
use Rattle.md5sum_text.specs.declared.lines.Place.{Place}

abbrev pub shapes_of : List ℕ → Shapes
shapes_of s = record { count = length (lines_of s).pieces; end = length s - length (lines_of s).rest }

abbrev pub Stands : List ℕ → Place → Type 0
Stands s p = (lines_of (drop p.at s)).pieces ≡ drop p.number (lines_of s).pieces

abbrev pub is_other : List ℕ → List ℕ → List ℕ → Bool
is_other name sum l = equal (units_of name) (name_in l) && not (equal (sum_in l) sum)

pub record Sought (ls : List (List ℕ)) (t : List ℕ → Bool) (n m k : ℕ) : Type 0 where
  pub low : n ≤ k
  pub high : k ≤ m
  pub before : (j : ℕ) → j < k → n ≤ j → t (get_or ls j []) ≡ false
  pub found : k < m → t (get_or ls k []) ≡ true

pub record Found (s name sum : List ℕ) (m : ℕ) (p q : Place) : Type 0 where
  pub sought : Sought (lines_of s).pieces (is_other name sum) p.number m q.number
  pub stands : Stands s q
