-- `mul_add::add_multiples`: the buffer has the first `p` bytes of the fragment.
-- Assumes nothing.
use Rattle.std.proofs.Common.{◌≡◌, take}
use Rattle.mul_add.specs.MulAdd.{add_multiples}
use Rattle.mul_add.proofs.add_multiples.Given as goal

abbrev pub invariant-loop-p : goal.invariant-loop-p
invariant-loop-p l = l.buffer ≡ add_multiples l.multiples (take l.p l.fragment) l.initial.buffer
