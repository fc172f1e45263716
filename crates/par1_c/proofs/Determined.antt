-- What a query in lent bytes promises determines its number and those bytes afterwards.
--
--   query_into_one    two replies to one query are the same
-- Assumes nothing.
use mathlib.Core.Path.{sym, ap, ◌∙◌}
use Rattle.inventory.specs.Steps.{answer_number}
use Rattle.inventory.proofs.Determined.{one_answer}
use Rattle.inventory_bytes.specs.Inventories.{inventory_of}
use Rattle.par1_c.specs.Claim.{QueryDetermined}

pub query_into_one : QueryDetermined
query_into_one b f out r r' o o' p q = let same = one_answer (inventory_of b) f out p.answer q.answer o o' p.queried q.queried in
    (p.number_is ∙ ap answer_number same.0 ∙ sym q.number_is, same.1)
