-- `list_scan::after` meets its contract. The loop's invariant: the scan so far ends, over the bytes that remain, as the scan before them all,
-- and its counts have room for them.
-- Assumes nothing.
use Rattle.std.proofs.Common.{◌-◌, length}
use Rattle.list_scan.proofs.RunLaws.{Kept}
use Rattle.list_scan.proofs.after.Given as goal

abbrev pub invariant-loop-i : goal.invariant-loop-i
invariant-loop-i l =
    Kept l.initial.scan l.scan l.bytes l.i

abbrev pub decreases-loop-i : goal.decreases-loop-i
decreases-loop-i l = length l.bytes - l.i
