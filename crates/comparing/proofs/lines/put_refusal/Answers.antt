-- `comparing::lines::put_refusal` meets its contract.
-- Assumes nothing.
use native.Mathlib.Omega.{arith}
use Rattle.text.proofs.WriterLaws.{puts_nil, puts_then, puts_last}
use mathlib.Core.List.{flatten}
use Rattle.comparing.specs.Lines.{refused_text}
use Rattle.comparing.proofs.lines.put_refusal.Goals as goal

pub returns-in_default : goal.returns-in_default
unfolding flatten
returns-in_default c = rw c.in_default.is (puts_nil _ (omega arith))

pub returns : goal.returns
unfolding refused_text flatten
returns c = rw c.in-Err.is
    (puts_last (puts_then c.put_field.ensures (puts_then (rw c.from.ensures at c.put_field-2.ensures) (puts_last c.put.ensures))))
