-- `catalog::moving::move_up` meets its contract.
-- Assumes nothing.
use mathlib.Core.Path.{◌≡◌, ap, ◌∙◌}
use Prim.Native.Nat.{ℕ, ◌-◌, ◌+◌}
use native.Mathlib.Omega.{arith}
use lib.ListN.{take, drop}
use lib.Seq.{sets}
use Rattle.catalog.proofs.MoveLaws.{up_more}
use Rattle.catalog.proofs.moving.move_up.Goals as goal

pub loop-i-preserved : goal.loop-i-preserved
loop-i-preserved c = let a = c.args in let i : c.loop-i.i ≡ c.loop-i.i - 1 + 1 = omega arith in
    let was = c.loop-i.invariant.1 ∙ ap (λ (k : ℕ). sets a.bytes.now (k + 28) (take (a.to - k) (drop k a.bytes.now))) i in
    (omega arith, up_more a.bytes.now a.to (c.loop-i.i - 1) (omega arith) (omega arith) was)

pub returns : goal.returns
returns c = let a = c.args in let i : c.loop-i.i ≡ a.at = omega (arith, c.loop-i.invariant.0) in
    c.loop-i.invariant.1 ∙ ap (λ (k : ℕ). sets a.bytes.now (k + 28) (take (a.to - k) (drop k a.bytes.now))) i
