-- `running_hash::end` meets its contract.
-- Assumes nothing.
use mathlib.Core.Path.{sym, ap, ◌∙◌}
use Prim.Native.Nat.{ℕ}
use mathlib.Core.List.{List}
use Rattle.lent_bytes.specs.Writing.{written, with_number}
use Rattle.running_hash.specs.Hash.{ended_by}
use Rattle.running_hash.proofs.HashLaws.{end_open, end_over}
use Rattle.running_hash.proofs.end.Goals as goal

pub returns-then-hash-ne0 : goal.returns-then-hash-ne0
returns-then-hash-ne0 c = let a = c.args in sym (end_over a.hash a.out.now c.if-hash-ne0.true)

pub returns : goal.returns
returns c = let a = c.args in ap (ended_by a.hash.hash) (c.write-number.ensures ∙ ap (λ (d : List ℕ). with_number (written d a.out.now)) c.finish-found.ensures)
    ∙ sym (end_open a.hash a.out.now c.if-hash-ne0.false)
