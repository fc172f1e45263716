-- `comparing::lists::put_entries` meets its contract. The loops' invariants: the lines on the entries that remain are to be put, of both lists
-- and, where the first is over, of the second.
-- Assumes nothing.
use mathlib.Core.Path.{ap}
use mathlib.Core.List.{List}
use Prim.Native.Nat.{ℕ}
use native.Mathlib.Omega.{arith}
use lib.ListN.{length}
use Rattle.entries.proofs.WalkLaws.{entries_most}
use Rattle.text.specs.Writer.{Puts}
use Rattle.text.proofs.WriterLaws.{remains_all, remains_less, remains_none}
use Rattle.comparing.proofs.ListLaws.{Next, next_of_both, next_left, lines_left, more_lacking, none_lacking}
use Rattle.comparing.proofs.lists.put_entries.Goals as goal
use Rattle.comparing.proofs.lists.put_entries.Goals.{in-Some-next, in-None-next}

-- what comes next of both lists, or of the first
next : (c : goal.Joined-next-2)
    → (t : List ℕ) × Next c.loop-a.place c.loop-a.a-iterator c.loop-a.twos c.next.new.self c.next-in-loop-a.new.self t
    × Puts c.loop-a.writer c.match-next-2.writer t
next c = elim c.match-next-2.branch [
  | in-Some-next w ↦
      (_, next_of_both c.loop-a.place c.in-Some.ensures.steps w.in-Some-next.ensures.steps, rw w.writer-is w.put_fields.ensures)
  | in-None-next w ↦
      (_, next_left c.loop-a.place c.in-Some.ensures.steps w.in-None-next.ensures.steps, rw w.writer-is w.put_entry.ensures)
]

pub loop-a-init : goal.loop-a-init
loop-a-init c =
    rw (c.into_iter-a-iterator.ensures.into_iter_gives, c.of-a-items.ensures, c.of-twos.ensures) (remains_all _ _ (omega arith), omega arith)

pub overflow_add-place : goal.overflow_add-place
overflow_add-place c = omega (arith, (next c).1.shorter, entries_most c.args.one.now, entries_most c.args.two.now)

pub loop-a-preserved : goal.loop-a-preserved
loop-a-preserved c = let n = next c in (remains_less c.loop-a.invariant.0 n.1.text_is n.2, omega (arith, n.1.shorter))

pub loop-init : goal.loop-init
loop-init c = let l = c.loop-a in
    rw c.into_iter-iterator.ensures.into_iter_gives (rw (lines_left l.place l.twos c.in-None.ensures.steps.0) at l.invariant.0, omega arith)

pub overflow_add-place-in-loop : goal.overflow_add-place-in-loop
overflow_add-place-in-loop c =
    omega (arith, ap length c.in-Some-2.ensures.steps, c.loop.invariant.1, entries_most c.args.one.now, entries_most c.args.two.now)

pub loop-preserved : goal.loop-preserved
loop-preserved c = let l = c.loop in
    (remains_less l.invariant.0 (more_lacking l.place c.in-Some-2.ensures.steps) c.put_entry-in-loop.ensures, omega (arith, ap length c.in-Some-2.ensures.steps))

pub returns : goal.returns
returns c = remains_none c.loop.invariant.0 (none_lacking c.loop.place c.in-None-2.ensures.steps.0)
