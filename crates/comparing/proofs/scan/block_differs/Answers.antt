-- `comparing::scan::block_differs` meets its contract. The loop's invariant: while nothing was found, the bytes passed agree.
-- Assumes nothing.
use native.Mathlib.Omega.{arith}
use Rattle.comparing.proofs.scan.block_differs.Goals as goal

pub loop-i-init : goal.loop-i-init
loop-i-init c = λ z p high low. absurd (omega arith)

pub returns : goal.returns
returns c = let l = c.loop-i in λ z p high low. l.invariant z p (omega arith) low
