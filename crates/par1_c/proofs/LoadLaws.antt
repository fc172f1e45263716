-- What a load plans is what it gives.
-- Assumes nothing.
use Rattle.std.specs.Prelude.{Ok, Err}
use mathlib.Core.Path.{◌≡◌, refl, ap}
use mathlib.Core.List.{List}
use Prim.Native.Nat.{ℕ, ◌≤◌}
use lib.ListN.{length}
use Rattle.lent_bytes.specs.Writing.{Writing}
use Rattle.catalog.specs.Calls.{loading_of, load_of}
use Rattle.catalog.specs.declared.records.Row.{Row}
use Rattle.catalog.proofs.RecordLaws.{filled_to, Filling, filling, filling_none}
use Rattle.par1_c.specs.Answers.{answer_of, length_told, filled_count, answered_rows, load_plan}

module _ (b : List ℕ) (ys : List Row) where
  filled : Filling b ys (filled_count (loading_of b (length ys)))
  filled = by (loading_of b (length ys)) refl
    where
      by : (w : Writing) → loading_of b (length ys) ≡ w → Filling b ys (filled_count w)
      by (Ok n) e = filling b ys n e
      by (Err r) e = filling_none b ys e

  pub plan_fits : (load_plan b (length ys)).count ≤ length ys
  unfolding load_plan
  plan_fits = filled.most

  pub plan_filled : ((load_plan b (length ys)).answer, filled_to b (load_plan b (length ys)).count ys) ≡ answered_rows (load_of b ys)
  unfolding load_plan
  plan_filled = ap (λ (l : List Row). (answer_of (length_told (loading_of b (length ys))), l)) filled.filled_is
