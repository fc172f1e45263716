-- `replay::first_line::read_numbers` meets its contract. The invariant: the words so far are numbers, which are read.
-- Assumes nothing.
use mathlib.Core.List.{map}
use Rattle.replay.proofs.FirstLineLaws.{Reads}
use Rattle.replay.proofs.first_line.read_numbers.Given as goal

abbrev pub invariant-loop-word : goal.invariant-loop-word
invariant-loop-word l = Reads (map (λ w. w.now) l.yielded) l.count l.values
