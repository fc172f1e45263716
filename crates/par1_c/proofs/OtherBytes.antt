-- Bytes of another length than an inventory's, or of no code, are refused by every call on one.
--
--   others_refused    with 10, and nothing changes
-- Assumes nothing.
use mathlib.Core.Path.{◌≡◌, refl, ap, ◌∙◌}
use mathlib.Core.Bool.{Bool, true, false}
use Prim.Native.Nat.{ℕ}
use Rattle.codes.specs.Codes.{is_code, code_of}
use Rattle.inventory.specs.Model.{Change, add_volume, Reply}
use Rattle.inventory.specs.Steps.{is_inventory, zeros, change_step, count_step}
use Rattle.inventory.specs.declared.Inventory.{Inventory}
use Rattle.inventory.specs.Outcome.{Outcome}
use Rattle.inventory.proofs.RefusedCalls.{change_refused, count-refused, zeros-none}
use Rattle.inventory_bytes.specs.Inventories.{inventory_of, stored_by, counted_into}
use Rattle.inventory_bytes.proofs.BackLaws.{other_bytes}
use Rattle.lent_bytes.specs.Writing.{written_unless}
use Rattle.par1_c.specs.Claim.{OthersRefused}
use Rattle.par1_c.specs.Codes.{by_code}
use Rattle.par1_c.specs.Inventories.{changed_by, added_by}

pub others_refused : OthersRefused
unfolding stored_by counted_into written_unless by_code
others_refused b other = (
  changed,
  λ k v. by k v (is_code k) refl,
  λ out. ap (λ (s : Inventory). counted_into (count_step s) out) none ∙ ap (λ (r : Reply). counted_into r out) (count-refused _ zeros-none),
  λ f out r out' q. let refused = q.queried.first (ap is_inventory none ∙ zeros-none) in let number = q.number_is in (cc, cc),
)
  where
    none : inventory_of b ≡ zeros
    none = other_bytes b other

    changed : (c : Change) (k : ℕ) → changed_by (change_step c) k b ≡ (10, b)
    changed c k =
        ap (λ (s : Inventory). stored_by (change_step c s k) b) none
        ∙ ap (λ (o : Outcome). stored_by o b) (change_refused _ zeros-none c k)

    by : (k v : ℕ) (is : Bool) → is_code k ≡ is → added_by k v b ≡ (10, b)
    by k v true e = simp e (changed (add_volume (code_of k)) v)
    by k v false e = simp e
