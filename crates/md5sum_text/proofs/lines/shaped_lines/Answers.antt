-- `md5sum_text::lines::shaped_lines` meets its contract. The loop's invariant: the lines so far and those that remain are all of them, and the rest
-- is that of what remains.
-- Assumes nothing.
use mathlib.Core.Path.{◌≡◌, sym, ap, ap₂, ◌∙◌}
use mathlib.Core.List.{List}
use Prim.Native.Nat.{ℕ, ◌+◌, ◌≤◌}
use native.Mathlib.Omega.{arith}
use lib.ListN.{length, drop, length-drop}
use Rattle.cut_lists.specs.Pieces.{Cut}
use Rattle.cut_lists.proofs.CutLaws.{cut-count}
use Rattle.md5sum_text.specs.Lines.{shaped_length}
use Rattle.md5sum_text.specs.declared.lines.Shapes.{Shapes}
use Rattle.md5sum_text.proofs.LineLaws.{has_line, lines_stop, lines_more}
use Rattle.md5sum_text.proofs.lines.shaped_lines.Goals as goal

abbrev shapes : ℕ → ℕ → Shapes
shapes count end = record { count = count; end = end }

pub returns-then-length-eq0 : goal.returns-then-length-eq0
returns-then-length-eq0 c = let s = c.args.text.now in let stop = lines_stop s c.loop-count.end (sym c.shaped_length-length.ensures ∙ c.if-length-eq0.true) in
    let count = ap (λ (x : Cut). length x.pieces) stop in
    let rest = ap (λ (x : Cut). length x.rest) stop in
    ap₂ shapes (omega arith) (omega (arith, ap length c.loop-count.invariant.2, length-drop c.loop-count.end s))

-- a line of n bytes, not 0, ends within the text
fits : (s : List ℕ) (at : ℕ) {n : ℕ} → n ≡ shaped_length (drop at s) → (n ≡ 0 → ⊥) → at + n ≤ length s
fits s at size some = omega (arith, (has_line (drop at s) (omega arith)).high, length-drop at s)

pub overflow_add-count : goal.overflow_add-count
overflow_add-count c = let s = c.args.text.now in let more = lines_more s c.loop-count.end (omega (arith, c.shaped_length-length.ensures)) in
    omega (arith, cut-count shaped_length s, ap (λ (x : Cut). length x.pieces) more)

pub overflow_add-end : goal.overflow_add-end
overflow_add-end c = omega (arith, fits c.args.text.now c.loop-count.end c.shaped_length-length.ensures c.if-length-eq0.false)

pub loop-count-smaller : goal.loop-count-smaller
loop-count-smaller c = omega (arith, fits c.args.text.now c.loop-count.end c.shaped_length-length.ensures c.if-length-eq0.false)

pub loop-count-preserved : goal.loop-count-preserved
loop-count-preserved c = let s = c.args.text.now in let size = c.shaped_length-length.ensures in let more = lines_more s c.loop-count.end (omega arith) in
    let count = ap (λ (x : Cut). length x.pieces) more in
    (fits s c.loop-count.end size c.if-length-eq0.false, rw size (omega arith), rw size (sym (ap (λ (x : Cut). x.rest) more) ∙ c.loop-count.invariant.2))
