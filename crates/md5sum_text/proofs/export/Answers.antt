-- `md5sum_text::export` meets its contract.
-- Assumes nothing.
use mathlib.Core.Path.{sym, ap, ◌∙◌}
use Rattle.lent_bytes.specs.Writing.{refused}
use Rattle.refusals.specs.declared.Refusal.{Refusal}
use Rattle.par1_read.specs.Reading.{reading_refusal}
use Rattle.md5sum_text.proofs.CallLaws.{read_entries, export_unread, export_unfit, export_fit}
use Rattle.md5sum_text.proofs.export.Goals as goal

pub returns-in_default : goal.returns-in_default
returns-in_default c = let told = c.in_default.is in let a = c.args in ap (λ (r : Refusal). refused r a.out.now) (c.refusal_of.ensures ∙ ap reading_refusal told)
    ∙ export_unread a.file.now a.out.now (sym c.read-reading.ensures ∙ told)

pub returns-then-not-all_fitting : goal.returns-then-not-all_fitting
returns-then-not-all_fitting c = let a = c.args in let read = sym c.read-reading.ensures ∙ c.in-Ok.is in
    let fitting = rw (read_entries a.file.now read c.part-list.ensures) at c.all_fitting.ensures in
    rw c.bare.ensures (export_unfit a.file.now a.out.now read (sym fitting ∙ c.if-not-all_fitting.true))

pub export_list-requires : goal.export_list-requires
export_list-requires c = sym c.all_fitting.ensures ∙ c.if-not-all_fitting.false

pub returns : goal.returns
returns c = let a = c.args in let read = sym c.read-reading.ensures ∙ c.in-Ok.is in
    let entries = read_entries a.file.now read c.part-list.ensures in
    export_fit a.file.now a.out.now read (sym (rw entries at c.all_fitting.ensures) ∙ c.if-not-all_fitting.false) (rw entries at c.export_list.ensures)
