-- `text::scan::line_length` meets its contract: a line that has its byte 10, and one that has not.
-- Assumes nothing.
use mathlib.Core.Path.{sym, ap, ◌∙◌}
use mathlib.Core.List.{List}
use Prim.Native.Nat.{ℕ, ◌+◌}
use native.Mathlib.Omega.{arith}
use lib.ListN.{drop, length-drop}
use Rattle.text.proofs.ScanLaws.{to_most, line_ended, line_unended}
use Rattle.text.proofs.scan.line_length.Goals as goal

pub overflow_add-at : goal.overflow_add-at
overflow_add-at c = let a = c.args in let s : List ℕ = drop a.at a.text.now in
    let n = c.length_to-n.ensures in omega (arith, to_most 10 s, length-drop a.at a.text.now)

pub returns-then-at-n : goal.returns-then-at-n
returns-then-at-n c = let a = c.args in let s : List ℕ = drop a.at a.text.now in
    let n = c.length_to-n.ensures in ap (λ (k : ℕ). k + 1) n ∙ sym (line_ended s (omega (arith, length-drop a.at a.text.now)))

pub returns-else-at-n : goal.returns-else-at-n
returns-else-at-n c = let a = c.args in let s : List ℕ = drop a.at a.text.now in
    let n = c.length_to-n.ensures in sym (line_unended s (omega (arith, length-drop a.at a.text.now)))
