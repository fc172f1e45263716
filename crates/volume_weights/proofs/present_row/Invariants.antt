-- `volume_weights::present_row`: the first `i` entries are those of the row, and the others are 0.
-- Assumes nothing.
use Rattle.std.proofs.Common.{replicate}
use Rattle.parity.specs.Coefficient.{rule_of}
use Rattle.volume_weights.proofs.CoefficientRows.{Front, entry_of}
use Rattle.volume_weights.proofs.present_row.Given as goal

abbrev pub invariant-loop-i : goal.invariant-loop-i
invariant-loop-i l = Front (entry_of (rule_of l.code) l.present (replicate 4 0) l.volume) l.i l.row
