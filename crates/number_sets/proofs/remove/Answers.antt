-- `number_sets::remove` meets its contract.
-- Assumes nothing.
use mathlib.Core.Path.{sym}
use Rattle.number_sets.proofs.Words.{removed_above, removed_by_mask}
use borrow.Author.Rules.{rules}
use Rattle.number_sets.proofs.remove.Goals as goal

pub returns-then-k-lt256 : goal.returns-then-k-lt256
returns-then-k-lt256 c = removed_by_mask c.args.k c.args.set

pub returns-else-k-lt256 : goal.returns-else-k-lt256
returns-else-k-lt256 c = let a = c.args in sym (removed_above a.k a.set (search rules) c.if-k-lt256.false)
