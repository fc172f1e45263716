-- Every list of calls is answered: what condition 3 speaks of is there.
--
--   any-answered       every query has a reply
--   answered_for       every list of calls has its replies, over any rules for the coefficients that give bytes
--   answered           so at those of the two codes
-- Assumes nothing.
use mathlib.Core.Path.{◌≡◌, refl}
use mathlib.Core.Bool.{Bool, true, false}
use mathlib.Core.List.{List, [], ◌∷◌}
use Prim.Native.Nat.{ℕ, ◌<◌, ◌-◌}
use native.Mathlib.Omega.{arith}
use Rattle.computed_tests.proofs.Tests.{one_to_inside}
use Rattle.codes.specs.declared.Code.{Code}
use Rattle.parity.specs.Coefficient.{rule_of}
use Rattle.parity.specs.Parity.{is_file}
use Rattle.parity.proofs.Coefficients.{rule_byte}
use Rattle.recovery.specs.declared.Answer.{Answer}
use Rattle.recovery.specs.declared.Answer.TheVariants as answer
use Rattle.recovery.proofs.AnswerLaws.{answers_there}
use Rattle.inventory.specs.Model.{Call, change, count, query, Reply}
use Rattle.inventory.specs.Steps.{is_inventory}
use Rattle.inventory.specs.Query.{Queried}
use Rattle.inventory.specs.Claim.{Step, Run, AnsweredFor, Answered}
use Rattle.inventory.specs.declared.Inventory.{Inventory}
use Rattle.inventory.proofs.ValidInventories.{few_files}
use Rattle.inventory.proofs.Queries.{query_no_inventory, query_out_of_range, query_answered}

-- ---- a query

module _ (rules : Code → ℕ → ℕ → ℕ) (small : (c : Code) (f v : ℕ) → f < 256 → rules c f v < 256) where
  abbrev QueryAnswered : Inventory → ℕ → List ℕ → Type 0
  QueryAnswered s f room = (a : Answer) × (room' : List ℕ) × Queried rules s f room a room'

  valid_answered : (s : Inventory) → is_inventory s ≡ true → (f : ℕ) (room : List ℕ) → QueryAnswered s f room
  valid_answered s valid f room = go (is_file s.n f) refl
    where
      go : (b : Bool) → is_file s.n f ≡ b → QueryAnswered s f room
      go false e = (answer.Refused 10, room, query_out_of_range rules s valid f room e)
      go true e = let l = one_to_inside s.n f e in
          let b = few_files s valid in
          let (r, room', a) = answers_there (rules s.code) s.n s.files s.volumes s.nonempty (f - 1) (omega arith) room in
          (r, room', query_answered rules small s valid room f e r room' a)

  any-answered : (s : Inventory) (f : ℕ) (room : List ℕ) → QueryAnswered s f room
  any-answered s f room = go (is_inventory s) refl
    where
      go : (b : Bool) → is_inventory s ≡ b → QueryAnswered s f room
      go false e = (answer.Refused 10, room, query_no_inventory rules s f room e)
      go true e = valid_answered s e f room

  -- ---- a call, and a list of calls

  call_answered : (s : Inventory) (c : Call) → (r : Reply) × (s₁ : Inventory) × Step rules s c r s₁
  unfolding Step
  call_answered s (change c k) = (_, _, (refl, refl))
  call_answered s count = (_, _, (refl, refl))
  call_answered s (query f room) = let (a, room', Q) = any-answered s f room in
      (_, _, (a, room', Q, refl, refl))

  pub answered_for : AnsweredFor rules
  unfolding Run
  answered_for s [] = ([], s, refl)
  answered_for s (c ∷ cs) = let (r, s₁, D) = call_answered s c in
      let (rs, e, R) = answered_for s₁ cs in
      (r ∷ rs, e, (s₁, D, R))

pub answered : Answered
answered = answered_for rule_of rule_byte
