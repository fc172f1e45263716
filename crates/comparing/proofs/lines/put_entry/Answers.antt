-- `comparing::lines::put_entry` meets its contract.
-- Assumes nothing.
use mathlib.Core.List.{flatten}
use Rattle.text.proofs.WriterLaws.{puts_then, puts_last}
use Rattle.comparing.specs.Lines.{entry_text}
use Rattle.comparing.proofs.lines.put_entry.Goals as goal

pub returns : goal.returns
unfolding entry_text flatten
returns c = puts_then c.put_field.ensures (puts_then c.put.ensures (puts_then c.put_bytes.ensures (puts_last c.put-2.ensures)))
