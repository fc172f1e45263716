-- `md5_blocks::rounds::word` meets its contract.
-- Assumes nothing.
use Rattle.std.proofs.Common.{◌≡◌, ◌/◌, arith, rules}
use Rattle.md5_blocks.proofs.Rows.{word_is}
use Rattle.md5_blocks.proofs.rounds.word.Goals as goal

pub returns-in-0 : goal.returns-in-0
returns-in-0 c = (search rules, rw c.in-0.is at (word_is _ c.requires))

pub returns-in-1 : goal.returns-in-1
returns-in-1 c = (search rules, rw c.in-1.is at (word_is _ c.requires))

pub returns-in-2 : goal.returns-in-2
returns-in-2 c = (search rules, rw c.in-2.is at (word_is _ c.requires))

pub returns-in_default : goal.returns-in_default
returns-in_default c = let last : c.args.j / 16 ≡ 3 = omega arith in (search rules, rw last at (word_is _ c.requires))
