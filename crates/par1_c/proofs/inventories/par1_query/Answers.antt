-- `par1_c::inventories::par1_query` meets its contract.
-- Assumes nothing.
use mathlib.Core.Path.{subst}
use Rattle.parity.specs.Coefficient.{rule_of}
use Rattle.inventory.specs.Query.{Queried}
use Rattle.inventory.specs.declared.Inventory.{Inventory}
use Rattle.par1_c.proofs.inventories.par1_query.Goals as goal

pub returns : goal.returns
returns c = let a = c.args in record {
  answer = c.query.result;
  queried = subst (λ (s : Inventory). Queried rule_of s a.file a.out.now c.query.result c.query.new.out)
      c.loaded.ensures c.query.ensures;
  number_is = c.answer_number.ensures;
}
