-- `replay::put_replay` meets its contract. The invariant: the lines that remain are to be put.
-- Assumes nothing.
use mathlib.Core.Path.{sym, subst}
use native.Mathlib.Omega.{arith}
use Rattle.replay.proofs.Remains.{start-refused, Remains, remains_start, remains_more, remains_end}
use Rattle.replay.proofs.put_replay.Goals as goal

pub returns-in-Err : goal.returns-in-Err
returns-in-Err c = start-refused _ c.in-Err.ensures c.put_line-in-Err.ensures.0

pub loop-event-init : goal.loop-event-init
loop-event-init c = subst (Remains _ _ _) (sym c.into_iter-event-iterator.ensures.into_iter_gives) (remains_start _ _ (omega arith) c.in-Ok.ensures)

pub loop-event-preserved : goal.loop-event-preserved
loop-event-preserved c = remains_more _ _ c.loop-event.invariant c.in-Some.ensures.steps c.put_line.ensures.0

pub returns-in-None : goal.returns-in-None
returns-in-None c = remains_end _ _ c.loop-event.invariant c.in-None.ensures.steps
