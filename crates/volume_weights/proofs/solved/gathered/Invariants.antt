-- `volume_weights::solved::gathered`: the files of the first `p` columns that are solved are in the set.
-- Assumes nothing.
use Rattle.std.proofs.Common.{◌≡◌, get_or, replicate}
use Rattle.elimination.specs.Reduction.{is_solvable}
use Rattle.number_sets.specs.Sets.{gathered}
use Rattle.volume_weights.proofs.solved.gathered.Given as goal

abbrev pub invariant-loop-p : goal.invariant-loop-p
invariant-loop-p l = l.set ≡ gathered (replicate 4 0) (λ p. get_or l.columns.files p 0) (is_solvable l.elimination.matrix l.elimination.owners) l.p
