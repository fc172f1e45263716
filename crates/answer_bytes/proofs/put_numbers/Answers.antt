-- `answer_bytes::put_numbers` meets its contract.
-- Assumes nothing.
use mathlib.Core.Path.{ap, ◌∙◌}
use Prim.Native.Nat.{ℕ}
use mathlib.Core.List.{List}
use Rattle.lent_bytes.specs.Writing.{written, with_number}
use Rattle.little_endian.specs.Bytes.{numbers, to_le}
use Rattle.answer_bytes.specs.Results.{entry_numbers}
use Rattle.answer_bytes.proofs.put_numbers.Goals as goal

pub returns : goal.returns
unfolding entry_numbers numbers to_le
returns c = let out = c.args.out.now in c.write.ensures ∙ ap (λ (l : List ℕ). with_number (written l out)) c.write_numbers.ensures
