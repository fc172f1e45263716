-- `volume_weights::file_weights`: the sums have the terms of the first `v` volumes.
-- Assumes nothing.
use Rattle.parity.specs.Coefficient.{rule_of}
use Rattle.volume_weights.proofs.Steps.{Weighted}
use Rattle.volume_weights.proofs.file_weights.Given as goal

abbrev pub invariant-loop-v : goal.invariant-loop-v
invariant-loop-v l = Weighted (rule_of l.code) l.present l.weights l.v l.sums
