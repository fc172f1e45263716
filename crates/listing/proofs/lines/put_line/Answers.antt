-- `listing::lines::put_line` meets its contract.
-- Assumes nothing.
use mathlib.Core.List.{flatten}
use Rattle.text.proofs.WriterLaws.{puts_then, puts_last}
use Rattle.listing.specs.Lines.{line_of}
use Rattle.listing.proofs.lines.put_line.Goals as goal

pub returns : goal.returns
unfolding line_of flatten
returns c =
    puts_then c.put_label.ensures
    (puts_then c.put_field.ensures (puts_then c.put.ensures (puts_then c.put_name.ensures (puts_last c.put-2.ensures))))
