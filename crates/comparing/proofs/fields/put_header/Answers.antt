-- `comparing::fields::put_header` meets its contract.
-- Assumes nothing.
use mathlib.Core.List.{flatten}
use Rattle.text.proofs.WriterLaws.{puts_then, puts_last}
use Rattle.comparing.specs.Lines.{head}
use Rattle.comparing.specs.Differences.{head_table, head_lines}
use Rattle.comparing.proofs.FieldLaws.{differing_text}
use Rattle.comparing.proofs.fields.put_header.Goals as goal

pub returns : goal.returns
unfolding head_lines flatten
returns c = rw (differing_text head c.args.one.now c.args.two.now head_table)
    (puts_then c.put_head_field.ensures
    (puts_then c.put_head_field-2.ensures
    (puts_then c.put_head_field-3.ensures
    (puts_then c.put_head_field-4.ensures
    (puts_then c.put_head_field-5.ensures
    (puts_then c.put_head_field-6.ensures
    (puts_then c.put_head_field-7.ensures
    (puts_then c.put_head_field-8.ensures
    (puts_last c.put_head_field-9.ensures)))))))))
