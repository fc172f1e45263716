-- `inventory_bytes::bytes_of` meets its contract.
-- Assumes nothing.
use mathlib.Core.Path.{refl, ap, ◌∙◌}
use mathlib.Core.List.{[], ◌∷◌, ◌++◌}
use Prim.Native.Nat.{ℕ}
use Rattle.little_endian.specs.Bytes.{numbers}
use Rattle.inventory_bytes.specs.Inventories.{inventory_bytes}
use Rattle.inventory_bytes.proofs.InventoryLaws.{inventory_whole}
use borrow.Author.Rules.{rules}
use Rattle.inventory_bytes.proofs.bytes_of.Goals as goal

pub returns : goal.returns
unfolding inventory_bytes
returns c = let i = c.args.inventory in inventory_whole _ i.n i.files i.volumes i.nonempty i.quarantined _ refl (search rules) (search rules)
    (search rules) (search rules) c.write_numbers.ensures c.write_numbers-2.ensures
    c.write_numbers-3.ensures c.write_numbers-4.ensures c.write_numbers-5.ensures c.write_numbers-6.ensures
    ∙ ap (λ (k : ℕ). numbers (i.n ∷ i.files ++ i.volumes ++ i.nonempty ++ i.quarantined ++ (k ∷ []))) c.from.ensures
