-- `listing::lines::put_head` meets its contract.
-- Assumes nothing.
use mathlib.Core.List.{flatten}
use Rattle.text.proofs.WriterLaws.{puts_then, puts_last}
use Rattle.listing.specs.Lines.{head_line}
use Rattle.listing.proofs.lines.put_head.Goals as goal

pub returns : goal.returns
unfolding head_line flatten
returns c = puts_then c.put_field.ensures (puts_then c.put_field-2.ensures (puts_then c.put_field-3.ensures (puts_last c.put.ensures)))
