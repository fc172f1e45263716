-- `elimination::Elimination::solvable` meets its contract.
-- Assumes nothing.
use Rattle.std.proofs.Common.{rules}
use Rattle.elimination.proofs.Pivots.{searched_row}
use Rattle.elimination.proofs.Elimination.solvable.Goals as goal

pub returns : goal.returns
returns c = let s = c.args.self.now in
    searched_row s.matrix s.owners c.args.column c.row.result.now (search rules) c.row.ensures.long c.row.ensures.entries c.pivot.result c.pivot.ensures.searched _
    (search rules)
