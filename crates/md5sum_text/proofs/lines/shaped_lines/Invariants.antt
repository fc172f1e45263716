-- `md5sum_text::lines::shaped_lines` meets its contract. The loop's invariant: the lines so far and those that remain are all of them, and the rest
-- is that of what remains.
-- Assumes nothing.
use mathlib.Core.Path.{◌≡◌}
use Prim.Native.Nat.{◌+◌, ◌-◌, ◌≤◌}
use lib.ListN.{length, drop}
use Rattle.md5sum_text.specs.Lines.{lines_of}
use Rattle.md5sum_text.proofs.lines.shaped_lines.Given as goal

abbrev pub invariant-loop-count : goal.invariant-loop-count
invariant-loop-count l =
    (l.end ≤ length l.text) × (l.count + length (lines_of (drop l.end l.text)).pieces ≡ length (lines_of l.text).pieces)
    × ((lines_of (drop l.end l.text)).rest ≡ (lines_of l.text).rest)

abbrev pub decreases-loop-count : goal.decreases-loop-count
decreases-loop-count l = length l.text - l.end
