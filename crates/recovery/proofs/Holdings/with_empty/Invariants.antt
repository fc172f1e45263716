-- `recovery::Holdings::with_empty` meets its contract. The invariant: the missing empty ones of the first `i` files are in the set.
-- Assumes nothing.
use mathlib.Core.Path.{◌≡◌}
use Prim.Native.Nat.{suc}
use Rattle.number_sets.specs.Sets.{gathered}
use Rattle.recovery.specs.Answers.{is_empty}
use Rattle.recovery.proofs.Holdings.with_empty.Given as goal

abbrev pub invariant-loop-i : goal.invariant-loop-i
invariant-loop-i l = l.set ≡ gathered l.initial.set suc (is_empty l.self.files l.self.nonempty) l.i
