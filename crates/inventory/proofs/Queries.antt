-- The reply to a query is the model's, whatever the sizes are, over any rules for the coefficients of the codes that give bytes.
--
--   query_no_inventory, query_out_of_range     the queries that are refused with 10
--   query_answered     any other: the answer on the sets of the inventory
-- Assumes nothing.
use mathlib.Core.Path.{◌≡◌, refl, sym, ap, ◌∙◌, subst}
use mathlib.Core.Logic.{◌⊎◌, inl, inr}
use mathlib.Core.Bool.{Bool, true, false, true≢false}
use mathlib.Core.List.{List, ◌++◌}
use Prim.Native.Nat.{ℕ, suc, ◌<◌, ◌≤◌, ◌-◌}
use native.Mathlib.Omega.{arith}
use lib.ListN.{length, take, drop}
use Rattle.computed_tests.proofs.Tests.{one_to_inside}
use Rattle.codes.specs.declared.Code.{Code}
use Rattle.parity.specs.Parity.{is_file}
use Rattle.number_sets.specs.Sets.{member}
use Rattle.recovery.specs.Recoverable.{Recoverable, IsWeights}
use Rattle.recovery.specs.Answers as A
use Rattle.recovery.specs.Answers.{Found, Written, Answers}
use Rattle.recovery.specs.declared.Answer.{Answer}
use Rattle.recovery.specs.declared.Answer.TheVariants as answer
use Rattle.recovery.proofs.Written.{written-rest}
use Rattle.recovery.proofs.AnswerLaws.{recovered, unrecovered, written_weights}
use Rattle.inventory.specs.Model.{Reply, queried, query, Gives, GivesQuery, undetermined, no_room, recoverable}
use Rattle.inventory.specs.Steps.{is_inventory, answer_number}
use Rattle.inventory.specs.Query.{state_of, Matches, Queried}
use Rattle.inventory.specs.declared.Inventory.{Inventory}
use Rattle.number_sets.proofs.Ranges.{within_bits}
use Rattle.inventory.proofs.ValidInventories.{few_files, nonempty_valid}

-- ---- an answer and its number

abbrev Refusal : Answer → Type 0
Refusal r = (k : ℕ) → r ≡ answer.Refused k → (k ≡ 10) ⊎ (k ≡ 14)

refused_out_of_range : Refusal (answer.Refused 10)
refused_out_of_range k e = let is : k ≡ 10 = cc in inl is

refused_no_room : Refusal (answer.Refused 14)
refused_no_room k e = let is : k ≡ 14 = cc in inr is

not-refused-present : Refusal answer.Present
not-refused-present k e = let z : ◌≡◌ {A = ℕ} 0 1 = cc in absurd (omega arith)

not-refused_undetermined : Refusal answer.Undetermined
not-refused_undetermined k e = let z : ◌≡◌ {A = ℕ} 0 1 = cc in absurd (omega arith)

not-refused_recoverable : Refusal answer.Recoverable
not-refused_recoverable k e = let z : ◌≡◌ {A = ℕ} 0 1 = cc in absurd (omega arith)

-- ---- no inventory, out of range, present

module _ (rules : Code → ℕ → ℕ → ℕ) where
  pub query_no_inventory : (s : Inventory) (f : ℕ) (room : List ℕ) → is_inventory s ≡ false → Queried rules s f room (answer.Refused 10) room
  unfolding answer_number
  query_no_inventory s f room e = record { first = λ _. refl; as_model = λ v. absurd (true≢false (sym v ∙ e)); refusal = refused_out_of_range }

  answered : {s : Inventory} {f : ℕ} {room : List ℕ} {r : Answer} {room' : List ℕ} → is_inventory s ≡ true → Refusal r
      → ((size : ℕ → ℕ) → Matches s size → Gives rules (state_of s size) (query f room) (queried (answer_number r) room'))
      → Queried rules s f room r room'
  answered valid refusal gives = record { first = λ e. absurd (true≢false (sym valid ∙ e)); as_model = λ _. gives; refusal = refusal }

  module _ (s : Inventory) (valid : is_inventory s ≡ true) (f : ℕ) (room : List ℕ) where
    as_model : (size : ℕ → ℕ) (in_range has : Bool) (r : Reply) → is_file s.n f ≡ in_range → member s.files f ≡ has
        → GivesQuery (rules s.code) (state_of s size) f room in_range has r → Gives rules (state_of s size) (query f room) r
    unfolding Gives
    as_model size in_range has r p q g =
        subst (λ (b : Bool). GivesQuery (rules s.code) (state_of s size) f room b (member s.files f) r) (sym p)
        (subst (λ (b : Bool). GivesQuery (rules s.code) (state_of s size) f room in_range b r) (sym q) g)

    pub query_out_of_range : is_file s.n f ≡ false → Queried rules s f room (answer.Refused 10) room
    unfolding answer_number
    query_out_of_range e = answered valid refused_out_of_range (λ size matches. as_model size false (member s.files f) (queried 10 room) e refl refl)

-- ---- any other

module _ (rules : Code → ℕ → ℕ → ℕ) (bytes : (c : Code) (f v : ℕ) → f < 256 → rules c f v < 256) (s : Inventory) (valid : is_inventory s ≡ true)
    (room : List ℕ) where
  abbrev AnswerTo : ℕ → Answer → List ℕ → Type 0
  AnswerTo i r room' = Answers (rules s.code) s.n s.files s.volumes s.nonempty i room r room'

  module _ (i : ℕ) (in_range : is_file s.n (suc i) ≡ true) where
    missing_model : (size : ℕ → ℕ) (r : Reply) → member s.files (suc i) ≡ false
        → GivesQuery (rules s.code) (state_of s size) (suc i) room true false r → Gives rules (state_of s size) (query (suc i) room) r
    missing_model size r m g = as_model rules s valid (suc i) room size true false r in_range m g

    module _ (size : ℕ → ℕ) (matches : Matches s size) (missing : member s.files (suc i) ≡ false) (ws : List ℕ) where
      abbrev found : Bool → Type 0
      found b = Found (rules s.code) s.n s.files s.volumes s.nonempty i b ws

      below : i < s.n
      below = (one_to_inside s.n (suc i) in_range).1

      recovers : found true → Recoverable (rules s.code) (state_of s size) (suc i)
      recovers F =
          recovered (rules s.code) (bytes s.code) s.n (few_files s valid) s.files s.volumes s.nonempty
          (within_bits s.n s.nonempty (nonempty_valid s valid)) (member s.quarantined) s.code size matches i below missing ws F

      recovers_not : found false → ¬ Recoverable (rules s.code) (state_of s size) (suc i)
      recovers_not F =
          unrecovered (rules s.code) (bytes s.code) s.n (few_files s valid) s.files s.volumes s.nonempty
          (within_bits s.n s.nonempty (nonempty_valid s valid)) (member s.quarantined) s.code size matches i below missing ws F

      weighs : found true → 255 ≤ length room → (room' : List ℕ) → Written (rules s.code) s.n s.files ws room room' 255
          → IsWeights (rules s.code) (state_of s size) (suc i) (take 255 room')
      weighs F l room' W =
          written_weights (rules s.code) (bytes s.code) s.n (few_files s valid) s.files s.volumes s.nonempty
          (within_bits s.n s.nonempty (nonempty_valid s valid)) (member s.quarantined) s.code size matches i below missing room ws room' l W F

    at_file : (r : Answer) (room' : List ℕ) → AnswerTo i r room' → Queried rules s (suc i) room r room'
    unfolding answer_number
    at_file r room' (A.present m) =
        answered rules valid not-refused-present (λ size matches. as_model rules s valid (suc i) room size true true (queried 13 room) in_range m refl)
    at_file r room' (A.undetermined m ws F) =
        answered rules valid not-refused_undetermined
        (λ size matches. missing_model size (queried 12 room) m (undetermined (recovers_not size matches m ws F)))
    at_file r room' (A.no_room m ws F l) =
        answered rules valid refused_no_room (λ size matches. missing_model size (queried 14 room) m (no_room (recovers size matches m ws F) l))
    at_file r room' (A.recoverable m ws F l _ W) =
        answered rules valid not-refused_recoverable
        (λ size matches.
        subst (λ (l : List ℕ). Gives rules (state_of s size) (query (suc i) room) (queried 0 l))
        (sym (written-rest (rules s.code) s.n s.files ws room room' W))
        (missing_model size (queried 0 (take 255 room' ++ drop 255 room)) m
        (recoverable (recovers size matches m ws F) l (take 255 room') (weighs size matches m ws F l room' W))))

  pub query_answered : (f : ℕ) → is_file s.n f ≡ true → (r : Answer) (room' : List ℕ) → AnswerTo (f - 1) r room' → Queried rules s f room r room'
  query_answered f in_range r room' a = let l = one_to_inside s.n f in_range in
      let z : suc (f - 1) ≡ f = omega arith in
      subst (λ (k : ℕ). Queried rules s k room r room') z (at_file (f - 1) (ap (is_file s.n) z ∙ in_range) r room' a)
