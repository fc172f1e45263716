-- `comparing::scan::equal_blocks` meets its contract. The loop's invariant: the blocks passed agree.
-- Assumes nothing.
use mathlib.Core.Logic.{⊎_elim}
use native.Mathlib.Omega.{arith}
use Rattle.comparing.proofs.ScanLaws.{order, same_byte}
use Rattle.comparing.proofs.scan.equal_blocks.Goals as goal

pub loop-at-init : goal.loop-at-init
loop-at-init c = (omega arith, λ p high low. absurd (omega arith))

pub returns-then-common-at-lt-BLOCK : goal.returns-then-common-at-lt-BLOCK
returns-then-common-at-lt-BLOCK c = c.loop-at.invariant

pub returns-then-block_differs-ne0 : goal.returns-then-block_differs-ne0
returns-then-block_differs-ne0 c = c.loop-at.invariant

pub loop-at-preserved : goal.loop-at-preserved
loop-at-preserved c = let l = c.loop-at in let a = c.args.a.now in let b = c.args.b.now in let common = c.min-common.ensures in let block = c.block_differs.ensures (omega arith) in
    (omega arith, λ p high low. ⊎_elim (λ h. l.invariant.1 p h low) (λ h. same_byte a b p (omega arith) (omega arith) (block p (omega arith) h)) (order p l.at))

pub returns : goal.returns
returns c = c.loop-at.invariant
