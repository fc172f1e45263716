-- `comparing::fields::put_fields` meets its contract.
-- Assumes nothing.
use native.Mathlib.Omega.{arith}
use lib.Seq.{take_all}
use lib.ListN.{drop, length-drop}
use mathlib.Core.List.{flatten}
use Rattle.text.proofs.WriterLaws.{puts_then, puts_last}
use Rattle.comparing.specs.Lines.{entry}
use Rattle.comparing.specs.Differences.{entry_table}
use Rattle.comparing.proofs.FieldLaws.{differing_text}
use Rattle.comparing.proofs.fields.put_fields.Goals as goal

pub returns : goal.returns
unfolding flatten
returns c = let one = c.args.one.now in let two = c.args.two.now in let longer = c.max-longer in
    let whole-one = take_all longer.result (drop 56 one) (omega (arith, length-drop 56 one, longer.ensures)) in
    let whole-two = take_all longer.result (drop 56 two) (omega (arith, length-drop 56 two, longer.ensures)) in
    let name = rw (whole-one, whole-two) at c.put_entry_field-6.ensures in
    rw (differing_text (entry c.args.place) one two entry_table)
    (puts_then c.put_entry_field.ensures
    (puts_then c.put_entry_field-2.ensures
    (puts_then c.put_entry_field-3.ensures
    (puts_then c.put_entry_field-4.ensures
    (puts_then c.put_entry_field-5.ensures
    (puts_last name))))))
