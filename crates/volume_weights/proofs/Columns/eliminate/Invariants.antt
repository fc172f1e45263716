-- `volume_weights::Columns::eliminate`: the rows of the first `v` volumes are added.
-- Assumes nothing.
use Rattle.std.proofs.Common.{replicate}
use Rattle.elimination.specs.Reduction.{with_diagonal}
use Rattle.parity.specs.Coefficient.{rule_of}
use Rattle.volume_weights.proofs.Steps.{Added}
use Rattle.volume_weights.proofs.Columns.eliminate.Given as goal

abbrev pub invariant-loop-v : goal.invariant-loop-v
invariant-loop-v l =
    Added (rule_of l.code) l.self.files l.volumes l.self.width l.v (with_diagonal 256 (replicate 65536 0), replicate 256 0)
    (l.elimination.matrix, l.elimination.owners)
