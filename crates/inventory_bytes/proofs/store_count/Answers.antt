-- `inventory_bytes::store_count` meets its contract.
-- Assumes nothing.
use mathlib.Core.Path.{ap, ◌∙◌}
use Prim.Native.Nat.{ℕ}
use mathlib.Core.List.{List}
use Rattle.inventory.specs.Steps.{count_reply}
use Rattle.inventory_bytes.proofs.CountLaws.{count-refused, count-written}
use Rattle.lent_bytes.specs.Writing.{written, with_number}
use Rattle.inventory_bytes.proofs.store_count.Goals as goal

pub returns-in-Ok : goal.returns-in-Ok
unfolding count_reply
returns-in-Ok c = let out = c.args.out.now in rw c.in-Ok.is
    (count-written out _ _ _ (c.write.ensures ∙ ap (λ (l : List ℕ). with_number (written l out)) c.bytes_of_count-bytes.ensures))

pub returns-in-Err : goal.returns-in-Err
unfolding count_reply
returns-in-Err c = rw c.in-Err.is (count-refused _ _)
