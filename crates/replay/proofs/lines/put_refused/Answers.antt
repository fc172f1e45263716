-- `replay::lines::put_refused` meets its contract.
-- Assumes nothing.
use Rattle.text.proofs.WriterLaws.{puts_then}
use Rattle.replay.specs.Lines.{refused_line}
use Rattle.replay.proofs.lines.put_refused.Goals as goal

pub returns : goal.returns
unfolding refused_line
returns c = puts_then (rw c.from.ensures at c.put_field.ensures) c.put.ensures
