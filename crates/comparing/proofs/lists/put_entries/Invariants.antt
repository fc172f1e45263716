-- `comparing::lists::put_entries` meets its contract. The loops' invariants: the lines on the entries that remain are to be put, of both lists
-- and, where the first is over, of the second.
-- Assumes nothing.
use Prim.Native.Nat.{◌≤◌, ◌+◌}
use lib.ListN.{length}
use Rattle.text.proofs.WriterLaws.{Remains}
use Rattle.entries.specs.Walk.{entries_of}
use Rattle.comparing.specs.Lines.{text_of}
use Rattle.comparing.specs.Differences.{all_lines, entry_lines}
use Rattle.comparing.proofs.lists.put_entries.Given as goal

abbrev pub invariant-loop-a : goal.invariant-loop-a
invariant-loop-a l =
    Remains l.initial.writer l.writer (text_of (entry_lines l.place l.a-iterator l.twos))
    (text_of (entry_lines 1 (entries_of l.fn.one).pieces (entries_of l.fn.two).pieces))
    × (l.place + length l.a-iterator + length l.twos ≤ length (entries_of l.fn.one).pieces + length (entries_of l.fn.two).pieces + 1)

abbrev pub invariant-loop : goal.invariant-loop
invariant-loop l =
    Remains l.fn.writer l.writer (text_of (all_lines l.place l.iterator'))
    (text_of (entry_lines 1 (entries_of l.fn.one).pieces (entries_of l.fn.two).pieces))
    × (l.place + length l.iterator' ≤ length (entries_of l.fn.one).pieces + length (entries_of l.fn.two).pieces + 1)
