-- What is promised of the set of the recoverable files: it determines the set, and is what the model and a query say.
--
--   one_set                 two sets that meet the promise are the same
--   represented_set         the set of an inventory that stands for a state of the model
--   recoverable_after       the set after any list of calls
--   as_queried              a file is in it exactly where a query calls it recoverable
-- Assumes nothing.
use mathlib.Core.Path.{◌≡◌, refl, sym, ap, ap₂, ◌∙◌, subst}
use mathlib.Core.Logic.{◌↔◌}
use mathlib.Core.Bool.{Bool, true, false, true≢false, false≢true}
use mathlib.Core.List.{List}
use Prim.Native.Nat.{ℕ, ◌<◌, ◌≤◌}
use native.Mathlib.Omega.{arith}
use lib.ListN.{length}
use Rattle.codes.specs.declared.Code.{Code}
use Rattle.parity.specs.Coefficient.{rule_of}
use Rattle.parity.specs.Parity.{is_file}
use Rattle.parity.proofs.Coefficients.{rule_byte}
use Rattle.number_sets.specs.Sets.{member}
use Rattle.number_sets.proofs.Words.{member-none, words_same}
use Rattle.recovery.specs.Recoverable.{State, RecoverableNow}
use Rattle.inventory.specs.Model.{queried, opened, after, Gives, GivesQuery}
use Rattle.inventory.specs.Steps.{is_inventory, answer_number}
use Rattle.inventory.specs.Query.{state_of, Queried}
use Rattle.inventory.specs.RecoverableFiles.{RecoverableFiles, RecoverableSet}
use Rattle.inventory.specs.Claim.{OneSet, RecoverableAfter, RecoverableAsQueried, size_in}
use Rattle.inventory.specs.declared.Inventory.{Inventory}
use Rattle.recovery.specs.declared.Answer.{Answer}
use Rattle.inventory.proofs.ModelSets.{tests_same}
use Rattle.inventory.proofs.Representation.{Represents}
use Rattle.inventory.proofs.Determined.{some_size, some_matches}
use Rattle.inventory.proofs.Calls.{after_same}
use Rattle.inventory.proofs.Condition.{missing_exactly, calls_sound}

-- ---- the set is determined

set_one : (rules : Code → ℕ → ℕ → ℕ) (s : Inventory) (r r' : RecoverableFiles) → RecoverableSet rules s r → RecoverableSet rules s r' → r ≡ r'
set_one rules s r r' R R' = go (is_inventory s) refl
  where
    go : (v : Bool) → is_inventory s ≡ v → r ≡ r'
    go true e = let m = some_size s in
        let exactly = R.exactly e m (some_matches s) in
        let exactly' = R'.exactly e m (some_matches s) in
        ap₂ (λ (ws : List ℕ) (k : ℕ). record { files = ws; number = k })
        (words_same r.files r'.files R.words R'.words
        (λ k l. tests_same _ _ (λ h. (exactly' k).1 ((exactly k).0 h)) (λ h. (exactly k).1 ((exactly' k).0 h))))
        (R.accepted e ∙ sym (R'.accepted e))
    go false e = R.first e ∙ sym (R'.first e)

pub one_set : OneSet
one_set = set_one rule_of

-- ---- what the model says

pub represented_set : (rules : Code → ℕ → ℕ → ℕ) (size : ℕ → ℕ) (t : State) (s : Inventory) → Represents size t s
    → (r : RecoverableFiles) → RecoverableSet rules s r → (f : ℕ) → (member r.files f ≡ true) ↔ RecoverableNow (rules t.code) t f
represented_set rules size t s P r R f =
    subst (λ (t : State). (member r.files f ≡ true) ↔ RecoverableNow (rules t.code) t f) (sym P.state) (R.exactly P.valid size P.matches f)

pub recoverable_after : RecoverableAfter
recoverable_after d n sizes cs s reached r R f = let t : State = after (opened d n (size_in sizes)) cs in
    subst (λ (k : Code). (member r.files f ≡ true) ↔ RecoverableNow (rule_of k) t f) (after_same (opened d n (size_in sizes)) cs).same_code
    (represented_set rule_of (size_in sizes) t s (calls_sound rule_of d n sizes reached.accepted cs reached.replies s reached.run).1 r R f)

-- ---- what a query says

module _ (rule : ℕ → ℕ → ℕ) (small : (f v : ℕ) → f < 256 → rule f v < 256) where
  query_exactly : (t : State) (f : ℕ) (room : List ℕ) → 255 ≤ length room → (number : ℕ) (room' : List ℕ) (in_range has : Bool)
      → is_file t.n f ≡ in_range → t.files f ≡ has → GivesQuery rule t f room in_range has (queried number room')
      → RecoverableNow rule t f ↔ (number ≡ 0)
  query_exactly t f room l number room' false has i h g =
      let n : number ≡ 10 = cc in (λ now. absurd (false≢true (sym i ∙ now.0)), λ z. absurd (omega arith))
  query_exactly t f room l number room' true true i h g =
      let n : number ≡ 13 = cc in (λ now. absurd (true≢false (sym h ∙ now.1)), λ z. absurd (omega arith))
  query_exactly t f room l number room' true false i h g = let exactly = missing_exactly rule small t f room l number room' _ refl g in
      (λ now. exactly.1 now.2, λ z. (i, h, exactly.0 z))

module _ (rules : Code → ℕ → ℕ → ℕ) (small : (c : Code) (f v : ℕ) → f < 256 → rules c f v < 256) where
  set-queried : (s : Inventory) (r : RecoverableFiles) → RecoverableSet rules s r → (f : ℕ) (room : List ℕ) → 255 ≤ length room
      → (a : Answer) (room' : List ℕ) → Queried rules s f room a room' → (member r.files f ≡ true) ↔ (answer_number a ≡ 0)
  unfolding Gives
  set-queried s r R f room l a room' Q = go (is_inventory s) refl
    where
      go : (v : Bool) → is_inventory s ≡ v → (member r.files f ≡ true) ↔ (answer_number a ≡ 0)
      go true e = let size = some_size s in
          let in_set = R.exactly e size (some_matches s) f in
          let asked =
          query_exactly (rules s.code) (small s.code) (state_of s size) f room l (answer_number a) room' _ _ refl refl
          (Q.as_model e size (some_matches s)) in
          (λ h. asked.0 (in_set.0 h), λ z. in_set.1 (asked.1 z))
      go false e = let q = Q.first e in
          let n : answer_number a ≡ 10 = cc in (
            λ h. absurd (false≢true (sym (member-none f) ∙ sym (ap (λ (x : RecoverableFiles). member x.files f) (R.first e)) ∙ h)),
            λ z. absurd (omega arith),
          )

pub as_queried : RecoverableAsQueried
as_queried = set-queried rule_of rule_byte
