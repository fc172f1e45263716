-- `little_endian::store` meets its contract.
-- Assumes nothing.
use Rattle.std.proofs.Common.{◌≡◌, ap, ◌∙◌, arith, length}
use lib.Seq.{sets, length-sets, take_all}
use Rattle.little_endian.proofs.Stores.{sets_more}
use Rattle.little_endian.proofs.store.Goals as goal

pub bounds-out-at : goal.bounds-out-at
bounds-out-at c = let kept : length c.loop-k.out ≡ length c.args.out.now = simp length-sets at (ap length c.loop-k.invariant) in omega arith

pub loop-k-preserved : goal.loop-k-preserved
loop-k-preserved c = let a = c.args in sets_more a.out.now a.bytes.now a.at c.loop-k.k (omega arith) c.loop-k.invariant

pub returns : goal.returns
returns c = let a = c.args in c.loop-k.invariant ∙ ap (sets a.out.now a.at) (take_all c.loop-k.k a.bytes.now (omega arith))
