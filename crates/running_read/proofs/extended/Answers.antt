-- `running_read::extended` meets its contract.
-- Assumes nothing.
use mathlib.Core.Path.{ap}
use native.Mathlib.Omega.{arith}
use lib.ListN.{length, length-take}
use Rattle.running_read.specs.Running.{cap}
use Rattle.running_read.proofs.PushLaws.{push_by}
use Rattle.running_read.proofs.extended.Goals as goal

pub overflow_add-result : goal.overflow_add-result
unfolding cap
overflow_add-result c = let taken = length-take c.saturating_sub.result c.args.bytes.now in
    omega (arith, ap length c.part-taken.ensures, taken, c.saturating_sub.ensures, c.requires)

pub returns : goal.returns
unfolding cap
returns c = push_by c.args.job c.args.bytes.now c.saturating_sub.ensures c.part-taken.ensures c.put.ensures
    c.read64-list_size.ensures c.hashed_in.ensures c.push.ensures c.listed_in.ensures
    c.push-2.ensures
