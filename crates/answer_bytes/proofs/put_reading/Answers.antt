-- `answer_bytes::put_reading` meets its contract.
-- Assumes nothing.
use mathlib.Core.Path.{ap, ◌∙◌}
use Prim.Native.Nat.{ℕ}
use mathlib.Core.List.{List}
use Rattle.lent_bytes.specs.Writing.{written, with_number}
use Rattle.lent_bytes.proofs.WritingLaws.{written_refusal}
use Rattle.answer_bytes.specs.Results.{read_into}
use Rattle.answer_bytes.proofs.put_reading.Goals as goal

pub returns-in-Err : goal.returns-in-Err
unfolding read_into
returns-in-Err c = rw c.in-Err.is

pub returns-in-Ok : goal.returns-in-Ok
unfolding read_into
returns-in-Ok c = let out = c.args.out.now in rw (c.bare.ensures, c.in-Ok.is)
    (written_refusal _ out (c.write.ensures ∙ ap (λ (l : List ℕ). with_number (written l out)) c.bytes_of_parts-bytes.ensures))
