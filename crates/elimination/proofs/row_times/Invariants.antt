-- `elimination::row_times`: the multiples of the first `i` rows are added.
-- Assumes nothing.
use Rattle.std.proofs.Common.{◌≡◌, ℕ, ◌<◌, get_or}
use Rattle.gf256.specs.Polynomial.{sum_below}
use Rattle.gf256.specs.Field.{product}
use Rattle.elimination.specs.Reduction.{entry}
use Rattle.elimination.proofs.row_times.Given as goal

abbrev pub invariant-loop-i : goal.invariant-loop-i
invariant-loop-i l = (j : ℕ) → j < l.width → get_or l.sum j 0 ≡ sum_below l.i (λ i. product (get_or l.row i 0) (entry l.matrix i j))
