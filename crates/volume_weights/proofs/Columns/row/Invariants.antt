-- `volume_weights::Columns::row`: the first `p` entries are those of the columns, and the others are 0.
-- Assumes nothing.
use Rattle.std.proofs.Common.{get_or}
use Rattle.parity.specs.Coefficient.{rule_of}
use Rattle.volume_weights.proofs.CoefficientRows.{Front}
use Rattle.volume_weights.proofs.Columns.row.Given as goal

abbrev pub invariant-loop-p : goal.invariant-loop-p
invariant-loop-p l = Front (λ p. rule_of l.code (get_or l.self.files p 0) l.volume) l.p l.row
