-- `md5sum_text::lines::seek` meets its contract. The loop's invariant: no line so far has the name and another sum, and the next one stands at
-- its place.
-- Assumes nothing.
use mathlib.Core.Path.{◌≡◌}
use mathlib.Core.Bool.{false}
use mathlib.Core.List.{[]}
use Prim.Native.Nat.{ℕ, ◌-◌, ◌≤◌, ◌<◌}
use lib.ListN.{get_or}
use Rattle.md5sum_text.specs.Lines.{lines_of}
use Rattle.md5sum_text.specs.Walks.{Stands, is_other}
use Rattle.md5sum_text.proofs.LineLaws.{place}
use Rattle.md5sum_text.proofs.lines.seek.Given as goal

abbrev pub invariant-loop-number : goal.invariant-loop-number
invariant-loop-number l =
    (l.initial.number ≤ l.number) × (l.number ≤ l.count) × Stands l.text (place l.number l.at)
    × ((j : ℕ) → j < l.number → l.initial.number ≤ j → is_other l.name l.sum (get_or (lines_of l.text).pieces j []) ≡ false)

abbrev pub decreases-loop-number : goal.decreases-loop-number
decreases-loop-number l = l.count - l.number
