-- `md5sum_text::sums::put_answers` meets its contract. The loop's invariant: the bytes of the entries that remain are to be put.
-- Assumes nothing.
use mathlib.Core.Path.{◌≡◌, ap}
use mathlib.Core.List.{List, map}
use Prim.Native.Nat.{ℕ}
use native.Mathlib.Omega.{arith}
use Rattle.entries.specs.Walk.{entries_of}
use Rattle.text.proofs.WriterLaws.{remains_all, remains_less, remains_none}
use Rattle.md5sum_text.specs.Lines.{lines_of}
use Rattle.md5sum_text.specs.Import.{answer_for}
use Rattle.md5sum_text.proofs.sums.put_answers.Goals as goal

pub loop-entry-init : goal.loop-entry-init
loop-entry-init c = let all : c.into_iter-entry-iterator.result ≡ (entries_of c.args.list.now).pieces = cc in
    rw all (remains_all _ _ (omega arith))

pub answer_for-requires : goal.answer_for-requires
answer_for-requires c = c.requires

pub loop-entry-preserved : goal.loop-entry-preserved
loop-entry-preserved c = let answer : List ℕ → ℕ = answer_for (lines_of c.args.text.now).pieces in
    remains_less c.loop-entry.invariant (ap (map answer) c.in-Some.ensures.steps) (rw c.answer_for.ensures at c.put.ensures)

pub returns : goal.returns
returns c = remains_none c.loop-entry.invariant (ap (map (answer_for (lines_of c.args.text.now).pieces)) c.in-None.ensures.steps.0)
