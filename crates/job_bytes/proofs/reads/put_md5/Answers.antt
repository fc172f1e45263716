-- `job_bytes::reads::put_md5` meets its contract.
-- Assumes nothing.
use mathlib.Core.Path.{◌≡◌}
use native.Mathlib.Omega.{arith}
use lib.ListN.{length}
use Rattle.job_bytes.proofs.ReadLaws.{md5_stored}
use borrow.Author.Rules.{rules}
use Rattle.job_bytes.proofs.reads.put_md5.Goals as goal

pub overflow_add-at : goal.overflow_add-at
overflow_add-at c = omega (arith, c.requires)

pub overflow_add-at-2 : goal.overflow_add-at-2
overflow_add-at-2 c = omega (arith, c.requires)

pub returns : goal.returns
returns c = md5_stored _ c.args.at c.args.hash (let h : length c.args.hash.tail ≡ 64 = search rules in h) c.put_words.ensures c.put.ensures c.write64.ensures
