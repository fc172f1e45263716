-- `md5sum_text::sums::again_in` meets its contract. The loop's invariant: the entries that remain, held against the lines before the first one
-- found, give the first of all.
-- Assumes nothing.
use mathlib.Core.Path.{◌≡◌}
use Prim.Native.Nat.{◌≤◌}
use lib.ListN.{length}
use Rattle.computed_tests.specs.Lists.{first_below}
use Rattle.entries.specs.Walk.{entries_of}
use Rattle.md5sum_text.specs.Lines.{lines_of}
use Rattle.md5sum_text.specs.Import.{is_again, again_in}
use Rattle.md5sum_text.proofs.sums.again_in.Given as goal

abbrev pub invariant-loop-entry : goal.invariant-loop-entry
invariant-loop-entry l =
    (l.first ≤ length (lines_of l.text).pieces)
    × (first_below l.first (is_again l.entry-iterator (lines_of l.text).pieces) ≡ again_in (entries_of l.list).pieces (lines_of l.text).pieces)
