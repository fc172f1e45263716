-- `md5sum_text::lines::length_at` meets its contract.
-- Assumes nothing.
use mathlib.Core.Path.{ap, ◌∙◌}
use Prim.Native.Nat.{ℕ, ◌+◌}
use native.Mathlib.Omega.{arith}
use lib.ListN.{drop, length-drop}
use Rattle.md5sum_text.proofs.LineLaws.{past_sum, has_line}
use Rattle.md5sum_text.proofs.lines.length_at.Goals as goal

pub overflow_add-at : goal.overflow_add-at
overflow_add-at c = omega (arith, (past_sum c.args.text.now c.args.at c.requires).0)

pub overflow_add-result : goal.overflow_add-result
overflow_add-result c = let has = has_line (drop c.args.at c.args.text.now) c.requires in
    omega
    (arith, c.line_length.ensures, (past_sum c.args.text.now c.args.at c.requires).1, has.high, length-drop c.args.at c.args.text.now)

pub returns : goal.returns
returns c = ap (λ (n : ℕ). 34 + n) c.line_length.ensures ∙ (past_sum c.args.text.now c.args.at c.requires).1
