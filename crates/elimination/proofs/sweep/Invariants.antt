-- `elimination::sweep`: the first `r` rows are swept.
-- Assumes nothing.
use Rattle.elimination.proofs.Steps.{Swept}
use Rattle.elimination.proofs.sweep.Given as goal

abbrev pub invariant-loop-r : goal.invariant-loop-r
invariant-loop-r l = Swept l.width l.r l.y l.k l.scale l.initial.matrix l.matrix
