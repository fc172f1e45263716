-- `comparing::scan::agreement_from` meets its contract. The loop's invariant: the places passed differ.
-- Assumes nothing.
use mathlib.Core.Path.{◌≡◌, ap}
use mathlib.Core.Logic.{⊎_elim}
use Prim.Native.Nat.{ℕ, ◌≤◌}
use native.Mathlib.Omega.{arith}
use Rattle.comparing.specs.Runs.{differs}
use mathlib.Core.Bool.{true, not}
use Rattle.comparing.proofs.ScanLaws.{order, same_byte, other_byte, one_side}
use borrow.Author.Count.{below_more}
use Rattle.comparing.proofs.scan.agreement_from.Goals as goal

pub loop-p-init : goal.loop-p-init
loop-p-init c = (c.requires, omega arith, λ q high low. absurd (omega arith))

pub returns-then-a-p : goal.returns-then-a-p
returns-then-a-p c = let l = c.loop-p in let common = c.min-common.ensures in let same = same_byte c.args.a.now c.args.b.now l.p (omega arith) (omega arith) c.if-a-p.true in
    (l.invariant.0, record { low = l.invariant.1; none_before = λ q high low. ap not (l.invariant.2 q high low); found = λ h. ap not same })

pub loop-p-preserved : goal.loop-p-preserved
loop-p-preserved c = let l = c.loop-p in let a = c.args.a.now in let b = c.args.b.now in let common = c.min-common.ensures in let other = other_byte a b l.p (omega arith) (omega arith) c.if-a-p.false in
    (omega arith, omega arith, below_more (λ q. c.args.from ≤ q → differs a b q ≡ true) l.p l.invariant.2 (λ low. other))

pub returns : goal.returns
returns c = let l = c.loop-p in let a = c.args.a.now in let b = c.args.b.now in let common = c.min-common.ensures in let end = c.max.ensures in let all : (q : ℕ) → c.args.from ≤ q → differs a b q ≡ true =
    λ q low. ⊎_elim (λ h. l.invariant.2 q h low) (λ h. one_side a b q (omega arith)) (order q l.p) in
    (omega arith, record { low = omega arith; none_before = λ q high low. ap not (all q low); found = λ h. absurd (omega arith) })
