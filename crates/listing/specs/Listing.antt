-- The listing of a file (document 01, "What comes back": "The listing .. writes either the line `refused N`, or a first line and one
-- line per entry"; document 02, 2026-01, has `refused N P` for some refusals).
--
--   listing_by r f   the listing of a file f that reads as r
--   listing_of f     the listing of the file f
--   input_listing s  the listing of the program's input s
--   ListIn r f       the list that the reading r tells of lies in f
--   ListIn-prop r f  ListIn r f has at most one proof, so that a struct may keep it as a ghost field
-- Assumes nothing.
use Rattle.std.specs.Prelude.{ℕ, ◌+◌, ◌≤◌, ◌≡◌, cond, List, ◌++◌, leb, length, Ok, Err}
use Rattle.std.specs.Coded.{Coded-set, coded_ℕ, ×_prop, Unit-prop, le_prop}
use Rattle.refusals.specs.Limits.{max_listed_length}
use Rattle.refusals.specs.Tests.{bare}
use Rattle.par1_rules.specs.Layout.{list_size_of}
use Rattle.par1_read.specs.Reading.{entries_in, read_of}
use Rattle.par1_read.specs.Reading.{Reading}
use Rattle.listing.specs.Lines.{refused_line, head_line, entry_lines}

abbrev pub listing_by : Reading → List ℕ → List ℕ
listing_by (Ok p) f = head_line p.number p.entries p.saved ++ entry_lines 0 (entries_in f)
listing_by (Err r) f = refused_line r

unfoldable pub listing_of : List ℕ → List ℕ
listing_of f = listing_by (read_of f) f

-- "The listing program takes at most 65,536 bytes; more is refused with 1."
unfoldable pub input_listing : List ℕ → List ℕ
input_listing s = cond (leb (length s) max_listed_length) (listing_of s) (refused_line (bare 1))

abbrev pub ListIn : Reading → List ℕ → Type 0
ListIn (Ok p) f = (p.list_size ≡ list_size_of f) × (96 + list_size_of f ≤ length f)
ListIn (Err r) f = Unit {0}

pub ListIn-prop : (r : Reading) (f : List ℕ) → IsProp (ListIn r f)
ListIn-prop (Ok p) f = ×_prop (Coded-set coded_ℕ _ _) le_prop
ListIn-prop (Err r) f = Unit-prop
