-- `elimination::Elimination::set_diagonal`: the first `i` entries of the diagonal are set.
-- Assumes nothing.
use Rattle.std.proofs.Common.{◌≡◌}
use Rattle.elimination.specs.Reduction.{with_diagonal}
use Rattle.elimination.proofs.Elimination.set_diagonal.Given as goal

abbrev pub invariant-loop-i : goal.invariant-loop-i
invariant-loop-i l = (l.self.matrix ≡ with_diagonal l.i l.initial.self.matrix) × (l.self.owners ≡ l.initial.self.owners)
