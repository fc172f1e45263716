-- What the parts of the calls give, which their contracts cite.
--
--   counts_of b         how many entry and volume rows the catalog b has, and how many saved files
--   found_of b          these, where b begins with a catalog
--   entered_of rs       how many saved files the entry rows rs tell, and the greatest size of one, where the rows may stand in a catalog
--   place_of v rs       the place of volume v among the volume rows rs, from 0: the first with no lower number
--   place_in b v        where the row of volume v lies in the catalog b, or is to lie, and whether it is there
--   plan_by k p         the place p, or the refusal k where it is one
--   plan_add b vol, plan_drop b v     where the row lies, or the number of the refusal, the room apart
--   spread at to r s   the bytes s with the row r at the byte at: those up to the byte to move up
--   closed at to s     the bytes s without the row at the byte at: those up to the byte to move down
-- Assumes nothing.
use Rattle.std.specs.Prelude.{cond, List, [], ◌∷◌, ◌++◌, ℕ, suc, ◌+◌, ◌-◌, ◌*◌, ltb, eqb, length, take, drop, Option, Some, None, Result, Ok, Err}
use Rattle.par1_rules.specs.Layout.{volume_number_of}
use Rattle.catalog.specs.Rows.{number_of}
use Rattle.catalog.specs.Catalog.{entry_count, volume_count, catalog_length, entry_rows, volume_rows, saved_rows, greatest_size, entry_rows_allowed}
use Rattle.catalog.specs.Catalog.{is_catalog, holds}
use Rattle.catalog.specs.Calls.{add_number, drop_number}
use Rattle.catalog.specs.declared.checking.Counts.{Counts}
use Rattle.catalog.specs.declared.checking.Entered.{Entered}
use Rattle.catalog.specs.declared.planning.Place.{Place}

abbrev pub counts_of : List ℕ → Counts
counts_of b = record { entries = entry_count b; volumes = volume_count b; saved = length (saved_rows (entry_rows b)) }

unfoldable pub found_of : List ℕ → Option Counts
found_of b = cond (is_catalog b) (Some (counts_of b)) None

unfoldable pub entered_of : List (List ℕ) → Option Entered
entered_of rs = cond (entry_rows_allowed 0 rs) (Some (record { saved = length (saved_rows rs); greatest = greatest_size rs })) None

unfoldable pub place_of : ℕ → List (List ℕ) → ℕ
place_of v [] = 0
place_of v (r ∷ rs) = cond (ltb (number_of r) v) (suc (place_of v rs)) 0

abbrev pub place_in : List ℕ → ℕ → Place
place_in b v =
    record {
      entries = entry_count b;
      volumes = volume_count b;
      at = 16 + 28 * (entry_count b + place_of v (volume_rows b));
      to = catalog_length b;
      present = holds v (volume_rows b);
    }

abbrev pub plan_by : ℕ → Place → Result Place ℕ
plan_by number p = cond (eqb number 0) (Ok p) (Err number)

unfoldable pub plan_add : List ℕ → List ℕ → Result Place ℕ
plan_add b vol = plan_by (add_number b vol) (place_in b (volume_number_of vol))

unfoldable pub plan_drop : List ℕ → ℕ → Result Place ℕ
plan_drop b v = plan_by (drop_number b v) (place_in b v)

abbrev pub spread : ℕ → ℕ → List ℕ → List ℕ → List ℕ
spread at to r s = take at s ++ (r ++ (take (to - at) (drop at s) ++ drop (to + 28) s))

abbrev pub closed : ℕ → ℕ → List ℕ → List ℕ
closed at to s = take at s ++ (take (to - (at + 28)) (drop (at + 28) s) ++ drop (to - 28) s)
