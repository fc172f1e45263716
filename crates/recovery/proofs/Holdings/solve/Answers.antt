-- `recovery::Holdings::solve` meets its contract.
-- Assumes nothing.
use mathlib.Core.Path.{refl}
use native.Mathlib.Numerals.{add-one}
use Rattle.elimination.proofs.Reductions.{zeros_at}
use Rattle.recovery.specs.Answers.{empty}
use Rattle.recovery.proofs.Holdings.solve.Goals as goal

pub returns-then-not-has : goal.returns-then-not-has
returns-then-not-has c = empty (cc (add-one c.args.column)) refl (zeros_at 256)
