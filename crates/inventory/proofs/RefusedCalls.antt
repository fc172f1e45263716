-- Every call refuses an inventory that no calls give.
--
--   change_refused, count-refused     a change, a count
--   refused_by         every call, over any rules
--   others_refused     so at those of the two codes
--   zeros-none, zeros-refused     the inventory of zeros is such a one
-- Assumes nothing.
use mathlib.Core.Path.{◌≡◌, refl, ap, ◌∙◌}
use mathlib.Core.Bool.{false}
use Prim.Native.Nat.{ℕ}
use Rattle.codes.specs.declared.Code.{Code}
use Rattle.parity.specs.Coefficient.{rule_of}
use Rattle.inventory.specs.Model.{Change, Call, change, count, query, Reply, reply, numbered}
use Rattle.inventory.specs.Steps.{is_inventory, if_inventory, zeros, outcome, change_step, count_step}
use Rattle.inventory.specs.Claim.{room_of, Step, OthersRefused, ZerosRefused}
use Rattle.inventory.specs.declared.Inventory.{Inventory}
use Rattle.inventory.specs.Outcome.{Outcome}

module _ (s : Inventory) (e : is_inventory s ≡ false) where
  pub change_refused : (c : Change) (k : ℕ) → change_step c s k ≡ outcome s 10
  unfolding change_step if_inventory
  change_refused c k = simp e

  pub count-refused : count_step s ≡ numbered 10
  unfolding count_step
  count-refused = simp e

  pub refused_by : (rules : Code → ℕ → ℕ → ℕ) (c : Call) (r : Reply) (s₁ : Inventory) → Step rules s c r s₁ → (r ≡ reply 10 (room_of c)) × (s₁ ≡ s)
  unfolding Step
  refused_by rules (change c k) r s₁ (p, q) = (
    p ∙ ap (λ (o : Outcome). numbered o.number) (change_refused c k),
    q ∙ ap (λ (o : Outcome). o.next) (change_refused c k),
  )
  refused_by rules count r s₁ (p, q) = (p ∙ count-refused, q)
  refused_by rules (query f room) r s₁ (a, room', Q, p, q) = (p ∙ Q.first e, q)

pub others_refused : OthersRefused
others_refused s e = refused_by s e rule_of

pub zeros-none : is_inventory zeros ≡ false
unfolding is_inventory
zeros-none = refl

pub zeros-refused : ZerosRefused
zeros-refused = others_refused zeros zeros-none
