-- `listing::lines::put_refused` meets its contract.
-- Assumes nothing.
use mathlib.Core.List.{flatten}
use Rattle.text.proofs.WriterLaws.{puts_then, puts_last}
use Rattle.listing.specs.Lines.{refused_line}
use Rattle.listing.proofs.lines.put_refused.Goals as goal

pub returns : goal.returns
unfolding refused_line flatten
returns c = puts_then (rw c.from.ensures at c.put_field.ensures) (puts_then c.put_place.ensures (puts_last c.put.ensures))
