-- `answer_bytes::bytes_of_parts` meets its contract.
-- Assumes nothing.
use mathlib.Core.Path.{ap, ◌∙◌}
use mathlib.Core.List.{[], ◌∷◌}
use Prim.Native.Nat.{ℕ}
use Rattle.little_endian.specs.Bytes.{numbers, to_le}
use Rattle.answer_bytes.specs.Results.{parts_bytes}
use Rattle.answer_bytes.proofs.bytes_of_parts.Goals as goal

pub returns : goal.returns
unfolding parts_bytes numbers to_le
returns c = let p = c.args.parts in c.write_numbers.ensures
    ∙ ap
    (λ (code : ℕ). numbers (p.program ∷ p.number ∷ p.entries ∷ p.saved ∷ p.list_size ∷ p.data_start ∷ p.data_size ∷ code ∷ []))
    c.from.ensures
