-- `comparing::lines::put_run` meets its contract.
-- Assumes nothing.
use mathlib.Core.List.{flatten}
use Rattle.text.proofs.WriterLaws.{puts_then, puts_last}
use Rattle.comparing.specs.Lines.{run_text}
use Rattle.comparing.proofs.lines.put_run.Goals as goal

pub returns : goal.returns
unfolding run_text flatten
returns c = puts_then c.put_field.ensures (puts_then c.put_field-2.ensures (puts_last c.put.ensures))
