-- `elimination::Elimination::weights`: the entries of the first `k` columns are added.
-- Assumes nothing.
use Rattle.std.proofs.Common.{◌≡◌, ℕ, ◌<◌, length, get_or, cond, eqb}
use Rattle.gf256.specs.Polynomial.{sum_below}
use Rattle.elimination.specs.Reduction.{entry}
use Rattle.elimination.proofs.Elimination.weights.Given as goal

abbrev pub invariant-loop-k : goal.invariant-loop-k
invariant-loop-k l =
    (length l.weights ≡ 256)
    × ((v : ℕ) → v < 256 → get_or l.weights v 0 ≡ sum_below l.k (λ k. cond (eqb (get_or l.self.owners k 0) v) (entry l.self.matrix l.column k) 0))
