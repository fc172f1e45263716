-- `catalog::planning::Place::remove_row` meets its contract.
-- Assumes nothing.
use mathlib.Core.Path.{◌≡◌, ap, ◌∙◌}
use Prim.Native.Nat.{ℕ, ◌-◌, ◌+◌}
use native.Mathlib.Omega.{arith}
use lib.ListN.{take, drop}
use lib.Seq.{sets}
use Rattle.catalog.proofs.MoveLaws.{down_more, down_closed}
use Rattle.catalog.proofs.planning.Place.remove_row.Goals as goal

pub loop-i-preserved : goal.loop-i-preserved
loop-i-preserved c = down_more c.args.bytes.now c.args.self.at c.loop-i.i (omega arith) (omega arith) c.loop-i.invariant

pub returns : goal.returns
returns c = let a = c.args in let p = a.self in let i : c.loop-i.i ≡ p.to - 28 = omega arith in
    down_closed a.bytes.now p.at p.to (omega arith) (omega arith)
    (c.loop-i.invariant ∙ ap (λ (k : ℕ). sets a.bytes.now p.at (take (k - p.at) (drop (p.at + 28) a.bytes.now))) i)
