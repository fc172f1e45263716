-- `job_bytes::marks::name_mark` meets its contract: a mark is 1 at most.
-- Assumes nothing.
use mathlib.Core.Bool.{Bool, true, false}
use Prim.Native.Nat.{◌≤◌}
use native.Mathlib.Omega.{arith}
use Rattle.job_bytes.specs.Marks.{mark_of}
use Rattle.job_bytes.proofs.marks.name_mark.Goals as goal

mark-most : (t : Bool) → mark_of t ≤ 1
mark-most true = omega arith
mark-most false = omega arith

pub overflow_mul-result : goal.overflow_mul-result
overflow_mul-result c = omega (arith, c.mark-2.ensures, mark-most c.args.named.dots)

pub overflow_add-result : goal.overflow_add-result
overflow_add-result c = let n = c.args.named in omega (arith, c.mark-2.ensures, c.mark.ensures, mark-most n.allowed, mark-most n.dots)
