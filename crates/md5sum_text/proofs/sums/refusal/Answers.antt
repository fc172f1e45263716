-- `md5sum_text::sums::refusal` meets its contract.
-- Assumes nothing.
use mathlib.Core.Path.{◌≡◌, sym, ap, ◌∙◌}
use Prim.Native.Nat.{ℕ, ◌+◌}
use native.Mathlib.Omega.{arith}
use lib.ListN.{length}
use Rattle.cut_lists.proofs.CutLaws.{cut-count, cut-length}
use Rattle.entries.specs.Walk.{entries_of}
use Rattle.md5sum_text.specs.Lines.{shaped_length, lines_of}
use Rattle.md5sum_text.specs.declared.lines.Shapes.{Shapes}
use Rattle.md5sum_text.proofs.CallLaws.{text_again, text_rest, shape_some, shape_none}
use Rattle.md5sum_text.proofs.sums.refusal.Goals as goal

pub again_in-again-requires : goal.again_in-again-requires
again_in-again-requires c = (let h : c.args.shapes.count ≡ length (lines_of c.args.text.now).pieces = ap (λ (x : Shapes). x.count) c.requires in h)

pub returns-then-again-shapes : goal.returns-then-again-shapes
returns-then-again-shapes c = let again = c.again_in-again in sym
    (text_again (entries_of c.args.list.now).pieces (lines_of c.args.text.now) again.ensures (omega (arith, (let h : c.args.shapes.count ≡ length (lines_of c.args.text.now).pieces = ap (λ (x : Shapes). x.count) c.requires in h), c.if-again-shapes.true)))

pub overflow_add-result-then-shapes-text : goal.overflow_add-result-then-shapes-text
overflow_add-result-then-shapes-text c = omega (arith, (let h : c.args.shapes.count ≡ length (lines_of c.args.text.now).pieces = ap (λ (x : Shapes). x.count) c.requires in h), cut-count shaped_length c.args.text.now, c.well_formed.1.0.1)

pub returns-then-shapes-text : goal.returns-then-shapes-text
returns-then-shapes-text c = let again = c.again_in-again in let t = lines_of c.args.text.now in
    sym
    (text_rest (entries_of c.args.list.now).pieces t again.ensures (omega (arith, (let h : c.args.shapes.count ≡ length (lines_of c.args.text.now).pieces = ap (λ (x : Shapes). x.count) c.requires in h), c.if-again-shapes.false))
    ∙ shape_some (length t.pieces) t.rest (omega (arith, (let h : c.args.shapes.end + length (lines_of c.args.text.now).rest ≡ length c.args.text.now = omega (arith, ap (λ (x : Shapes). x.end) c.requires, cut-length shaped_length c.args.text.now) in h), c.if-shapes-text.true))
    ∙ ap (λ (n : ℕ). record { number = 22; place = n + 1 }) (sym (let h : c.args.shapes.count ≡ length (lines_of c.args.text.now).pieces = ap (λ (x : Shapes). x.count) c.requires in h)))

pub returns : goal.returns
returns c = let again = c.again_in-again in let t = lines_of c.args.text.now in
    c.bare.ensures
    ∙ sym
    (text_rest (entries_of c.args.list.now).pieces t again.ensures (omega (arith, (let h : c.args.shapes.count ≡ length (lines_of c.args.text.now).pieces = ap (λ (x : Shapes). x.count) c.requires in h), c.if-again-shapes.false))
    ∙ shape_none (length t.pieces) t.rest (omega (arith, (let h : c.args.shapes.end + length (lines_of c.args.text.now).rest ≡ length c.args.text.now = omega (arith, ap (λ (x : Shapes). x.end) c.requires, cut-length shaped_length c.args.text.now) in h), c.if-shapes-text.false)))
