-- `replay::lines::put_files` meets its contract. The invariant: the files among the first `k` are put, with spaces between.
-- Assumes nothing.
use Rattle.number_sets.specs.Sets.{member}
use Rattle.replay.proofs.LineLaws.{Listed}
use Rattle.replay.proofs.lines.put_files.Given as goal

abbrev pub invariant-loop-k : goal.invariant-loop-k
invariant-loop-k l = Listed (member l.set) l.k l.initial.writer l.writer l.any
