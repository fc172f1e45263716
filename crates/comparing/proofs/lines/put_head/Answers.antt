-- `comparing::lines::put_head` meets its contract.
-- Assumes nothing.
use mathlib.Core.List.{flatten}
use Rattle.text.proofs.WriterLaws.{puts_then, puts_last}
use Rattle.comparing.specs.Lines.{head_text}
use Rattle.comparing.proofs.lines.put_head.Goals as goal

pub returns : goal.returns
unfolding head_text flatten
returns c = puts_then c.put_bytes.ensures (puts_then c.put_bytes-2.ensures (puts_last c.put.ensures))
