-- `replay::put_replay` meets its contract. The invariant: the lines that remain are to be put.
-- Assumes nothing.
use Rattle.replay.proofs.Remains.{Remains}
use Rattle.replay.proofs.put_replay.Given as goal

abbrev pub invariant-loop-event : goal.invariant-loop-event
invariant-loop-event l = Remains l.fn.log l.initial.writer l.writer l.event-iterator
