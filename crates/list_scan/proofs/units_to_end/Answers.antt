-- `list_scan::units_to_end` meets its contract: the end is past, or not within the bytes, or within them.
-- Assumes nothing.
use Rattle.std.proofs.Common.{inl, inr, arith}
use Rattle.list_scan.proofs.units_to_end.Goals as goal

pub returns-then-size-at : goal.returns-then-size-at
returns-then-size-at c = (omega arith, omega arith, omega arith, inl c.if-size-at.true)

pub returns-then-whole-to_end : goal.returns-then-whole-to_end
returns-then-whole-to_end c = (omega arith, omega arith, omega arith, inr (omega arith))

pub returns : goal.returns
returns c = (omega arith, omega arith, omega arith, inr (omega arith))
