-- `volume_weights::Columns::new`: the columns among the first `i` files are listed.
-- Assumes nothing.
use Rattle.std.proofs.Common.{suc, ◌≤◌}
use Rattle.volume_weights.specs.Weights.{column_in}
use Rattle.volume_weights.proofs.SideBySide.{Filled}
use Rattle.volume_weights.proofs.Columns.new.Given as goal

abbrev pub invariant-loop-i : goal.invariant-loop-i
invariant-loop-i l = (l.width ≤ l.i) × Filled (λ k. column_in l.nonempty l.present (suc k)) l.i l.width l.files
