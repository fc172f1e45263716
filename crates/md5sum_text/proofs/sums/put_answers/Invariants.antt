-- `md5sum_text::sums::put_answers` meets its contract. The loop's invariant: the bytes of the entries that remain are to be put.
-- Assumes nothing.
use mathlib.Core.List.{List, map}
use Prim.Native.Nat.{ℕ}
use Rattle.entries.specs.Walk.{entries_of}
use Rattle.text.proofs.WriterLaws.{Remains}
use Rattle.md5sum_text.specs.Lines.{lines_of}
use Rattle.md5sum_text.specs.Import.{answer_for}
use Rattle.md5sum_text.proofs.sums.put_answers.Given as goal

abbrev pub invariant-loop-entry : goal.invariant-loop-entry
invariant-loop-entry l = let answer : List ℕ → ℕ = answer_for (lines_of l.text).pieces in
    Remains l.initial.writer l.writer (map answer l.entry-iterator) (map answer (entries_of l.list).pieces)
