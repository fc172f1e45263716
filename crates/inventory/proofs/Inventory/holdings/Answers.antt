-- `inventory::Inventory::holdings` meets its contract.
-- Assumes nothing.
use native.Mathlib.Omega.{arith}
use Rattle.inventory.proofs.ValidInventories.{few_files}
use Rattle.inventory.proofs.Inventory.holdings.Goals as goal

pub overflow_cast-result : goal.overflow_cast-result
overflow_cast-result c = let l = few_files c.args.self c.requires in omega arith
