-- `comparing::scan::difference_from` meets its contract. The loop's invariant: the places passed agree.
-- Assumes nothing.
use mathlib.Core.Path.{◌≡◌}
use Prim.Native.Nat.{◌≤◌}
use native.Mathlib.Omega.{arith}
use Rattle.comparing.specs.Runs.{differs}
use mathlib.Core.Bool.{false}
use Rattle.comparing.proofs.ScanLaws.{same_byte, other_byte, one_side}
use borrow.Author.Count.{below_more}
use Rattle.comparing.proofs.scan.difference_from.Goals as goal

pub loop-p-init : goal.loop-p-init
loop-p-init c = (c.equal_blocks-start.ensures.0, omega arith, c.equal_blocks-start.ensures.1)

pub returns-then-a-p : goal.returns-then-a-p
returns-then-a-p c = let l = c.loop-p in let common = c.min-common.ensures in let other = other_byte c.args.a.now c.args.b.now l.p (omega arith) (omega arith) c.if-a-p.true in
    record { low = l.invariant.0; none_before = l.invariant.2; found = λ h. other }

pub loop-p-preserved : goal.loop-p-preserved
loop-p-preserved c = let l = c.loop-p in let a = c.args.a.now in let b = c.args.b.now in let common = c.min-common.ensures in let same = same_byte a b l.p (omega arith) (omega arith) c.if-a-p.false in
    (omega arith, omega arith, below_more (λ q. c.args.from ≤ q → differs a b q ≡ false) l.p l.invariant.2 (λ low. same))

pub returns : goal.returns
returns c = let l = c.loop-p in let common = c.min-common.ensures in let end : c.max.result ≡ l.p = omega (arith, c.max.ensures, l.invariant.1) in rw end record {
  low = l.invariant.0;
  none_before = l.invariant.2;
  found = λ h. one_side c.args.a.now c.args.b.now l.p (omega arith);
}
