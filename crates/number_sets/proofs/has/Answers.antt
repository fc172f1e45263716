-- `number_sets::has` meets its contract.
-- Assumes nothing.
use mathlib.Core.Path.{sym, ◌∙◌}
use Rattle.std.proofs.lemmas.Bool.{le-ltb}
use Rattle.number_sets.proofs.Words.{member_above, member_bit}
use borrow.Author.Rules.{rules}
use Rattle.number_sets.proofs.has.Goals as goal

pub returns-then-k-lt256 : goal.returns-then-k-lt256
returns-then-k-lt256 c = member_bit c.args.set c.args.k

pub returns-else-k-lt256 : goal.returns-else-k-lt256
returns-else-k-lt256 c = let a = c.args in le-ltb a.k 256 c.if-k-lt256.false ∙ sym (member_above a.set a.k (search rules) c.if-k-lt256.false)
