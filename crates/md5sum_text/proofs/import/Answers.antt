-- `md5sum_text::import` meets its contract.
-- Assumes nothing.
use mathlib.Core.Path.{◌≡◌, sym, ap, ◌∙◌}
use mathlib.Core.List.{List, map}
use Prim.Native.Nat.{ℕ, ◌≤◌}
use native.Mathlib.Omega.{arith}
use lib.ListN.{length, length-map}
use Rattle.refusals.specs.declared.Refusal.{Refusal}
use Rattle.lent_bytes.specs.Writing.{refused}
use Rattle.par1_read.specs.Reading.{entries_in, reading_refusal}
use Rattle.md5sum_text.specs.Lines.{lines_of}
use Rattle.md5sum_text.specs.Import.{answer_for}
use Rattle.md5sum_text.specs.declared.lines.Shapes.{Shapes}
use Rattle.text.proofs.FitLaws.{fit_whole}
use Rattle.lent_bytes.proofs.WritingLaws.{written_short}
use Rattle.par1_read.proofs.ReadingLaws.{read_count}
use Rattle.md5sum_text.proofs.CallLaws.{read_entries, import_unread, import_faulty, import_right}
use Rattle.md5sum_text.proofs.import.Goals as goal

pub returns-in_default : goal.returns-in_default
returns-in_default c = let told = c.in_default.is in let a = c.args in ap (λ (r : Refusal). refused r a.out.now) (c.refusal_of.ensures ∙ ap reading_refusal told)
    ∙ import_unread a.file.now a.text.now a.out.now (sym c.read-reading.ensures ∙ told)

pub refusal-refusal-requires : goal.refusal-refusal-requires
refusal-refusal-requires c = c.shaped_lines-shapes.ensures

pub returns-then-refusal-ne0 : goal.returns-then-refusal-ne0
returns-then-refusal-ne0 c = let a = c.args in let read = sym c.read-reading.ensures ∙ c.in-Ok.is in
    import_faulty a.file.now a.text.now a.out.now read (rw (read_entries a.file.now read c.part-list.ensures) at c.refusal-refusal.ensures) c.if-refusal-ne0.true

pub returns-then-out-parts : goal.returns-then-out-parts
returns-then-out-parts c = let a = c.args in let bytes : List ℕ = map (answer_for (lines_of a.text.now).pieces) (entries_in a.file.now) in
    let read = sym c.read-reading.ensures ∙ c.in-Ok.is in
    let size : length bytes ≡ length (entries_in a.file.now) = simp length-map in
    rw c.bare.ensures
    (import_right a.file.now a.text.now a.out.now read (rw (read_entries a.file.now read c.part-list.ensures) at c.refusal-refusal.ensures) c.if-refusal-ne0.false
    (written_short bytes a.out.now (omega (arith, c.if-out-parts.true, read_count a.file.now read))))

pub put_answers-requires : goal.put_answers-requires
put_answers-requires c = ap (λ (x : Shapes). x.count) c.shaped_lines-shapes.ensures

pub returns : goal.returns
returns c = let a = c.args in let bytes : List ℕ = map (answer_for (lines_of a.text.now).pieces) (entries_in a.file.now) in
    let read = sym c.read-reading.ensures ∙ c.in-Ok.is in
    let entries = read_entries a.file.now read c.part-list.ensures in
    let size : length bytes ≡ length (entries_in a.file.now) = simp length-map in
    let fits : length bytes ≤ length a.out.now = omega (arith, c.if-out-parts.false, read_count a.file.now read) in
    import_right a.file.now a.text.now a.out.now read (rw entries at c.refusal-refusal.ensures) c.if-refusal-ne0.false
    (fit_whole a.out.now c.new-writer.ensures.starts (rw entries at c.put_answers.ensures) fits (omega arith) c.position.ensures (grind arith))
