-- `volume_weights::solved::solved_columns` meets its contract.
-- Assumes nothing.
use Rattle.std.proofs.Common.{refl}
use Rattle.parity.specs.Coefficient.{rule_of}
use Rattle.parity.proofs.Coefficients.{rule_byte}
use Rattle.volume_weights.proofs.SolvedColumns.{columns_solved}
use Rattle.volume_weights.proofs.solved.solved_columns.Goals as goal

pub returns : goal.returns
returns c = let a = c.args in columns_solved (rule_of a.code) (rule_byte a.code) a.nonempty a.present a.volumes _ _ c.new-columns.ensures
    a.rows _ _ _ refl c.eliminate.ensures _ c.gathered.ensures
