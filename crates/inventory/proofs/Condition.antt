-- Condition 3: the claim about a whole list of calls.
--
--   sound        the replies are the model's, and the inventory stands for the model's state
--   missing_exactly      what the model's reply to a query of a missing file says
--   calls_fit, calls_file       its number of files is that of the opening
--   calls_sound, asked   the replies to these calls, and that to a query of a missing file then, are the model's
--   condition_for    the claim over any rules of bytes
--   condition    the claim at the rules of the two codes
-- Assumes nothing.
use mathlib.Core.Path.{◌≡◌, refl, sym, ap, ◌∙◌, subst}
use mathlib.Core.Logic.{◌↔◌}
use mathlib.Core.Bool.{Bool, true, false}
use mathlib.Core.List.{List, [], ◌∷◌, ◌++◌}
use Prim.Native.Nat.{ℕ, zero, suc, ◌<◌, ◌≤◌}
use native.Mathlib.Nat.{not-suc-le-zero}
use native.Mathlib.Omega.{arith}
use lib.ListN.{length, take, drop, replicate}
use lib.Seq.{take_at}
use Rattle.computed_tests.proofs.Tests.{one_to_inside}
use Rattle.codes.specs.declared.Code.{Code}
use Rattle.parity.specs.Coefficient.{rule_of}
use Rattle.mul_add.specs.MulAdd.{mul_add_all}
use Rattle.mul_add.specs.Once.{Once}
use Rattle.parity.specs.Parity.{Contents, is_file}
use Rattle.parity.proofs.Coefficients.{rule_byte}
use Rattle.recovery.specs.Recoverable.{State, IsContents, Recoverable, IsWeights, place, present, ComeFrom}
use Rattle.inventory.specs.Model.{Call, query, Reply, queried, opened, next, after}
use Rattle.inventory.specs.Model.{Gives, GivesQuery, GivesMissing, undetermined, no_room, recoverable, GivesAll}
use Rattle.inventory.specs.Steps.{open_step}
use Rattle.inventory.specs.Claim.{Step, Run, size_in, state_after, ConditionOverRules, Condition3}
use Rattle.inventory.specs.declared.Inventory.{Inventory}
use Rattle.recovery.proofs.Following.{follow}
use Rattle.inventory.proofs.Representation.{Represents, meets}
use Rattle.inventory.proofs.Openings.{opened_represents}
use Rattle.inventory.proofs.Told.{after_told}
use Rattle.inventory.proofs.Calls.{after_same, gives_all_one}

pub sound : (rules : Code → ℕ → ℕ → ℕ) (size : ℕ → ℕ) (t : State) (s : Inventory) (cs : List Call) (rs : List Reply) (e : Inventory)
    → Represents size t s → Run rules s cs rs e → GivesAll rules t cs rs × Represents size (after t cs) e
unfolding Run GivesAll after
sound rules size t s [] [] e R q = (tt, subst (Represents size t) q R)
sound rules size t s [] (r ∷ rs) e R q = absurd q
sound rules size t s (c ∷ cs) [] e R q = absurd q
sound rules size t s (c ∷ cs) (r ∷ rs) e R (s₁, d, q) = let m : Gives rules t c r × Represents size (next t c) s₁ = meets rules size t s c r s₁ R d in
    let h : GivesAll rules (next t c) cs rs × Represents size (after (next t c) cs) e =
    sound rules size (next t c) s₁ cs rs e m.1 q in
    ((m.0, h.0), h.1)

module _ (rule : ℕ → ℕ → ℕ) (small : (f v : ℕ) → f < 256 → rule f v < 256) where
  -- what the model's reply to a query about a missing file says
  pub missing_exactly : (t : State) (f : ℕ) (room : List ℕ) → 255 ≤ length room → (number : ℕ) (room' : List ℕ) (r : Reply) → r ≡ queried number room'
      → GivesMissing rule t f room r → (number ≡ 0) ↔ Recoverable rule t f
  missing_exactly t f room l number room' r e (undetermined q) = let n : number ≡ 12 = cc in (λ z. absurd (omega arith), λ y. absurd (q y))
  missing_exactly t f room l number room' r e (no_room y b) = absurd (omega arith)
  missing_exactly t f room l number room' r e (recoverable y b w W) = let n : number ≡ 0 = cc in (λ z. y, λ z. n)

  missing_weights : (t : State) (f : ℕ) (room room' : List ℕ) (r : Reply) → r ≡ queried 0 room'
      → GivesMissing rule t f room r → IsWeights rule t f (take 255 room')
  missing_weights t f room room' r e (undetermined q) = let z : ◌≡◌ {A = ℕ} 0 12 = cc in absurd (omega arith)
  missing_weights t f room room' r e (no_room y b) = let z : ◌≡◌ {A = ℕ} 0 14 = cc in absurd (omega arith)
  missing_weights t f room room' r e (recoverable y b w W) = let z : room' ≡ w ++ drop 255 room = cc in
      subst (IsWeights rule t f) (sym (ap (take 255) z ∙ take_at w (drop 255 room) 255 W.places)) W

  -- following the weights of any file, by its number
  follow_file : (t : State) → t.n ≤ 254 → (X : Contents) → IsContents t X → (f : ℕ) → is_file t.n f ≡ true → t.files f ≡ false
      → (w : List ℕ) → IsWeights rule t f w → (fragment : ℕ → List ℕ) → ComeFrom rule t X fragment
      → (ks : List ℕ) → Once (present t) ks → mul_add_all (place w) fragment ks (replicate (t.size f) 0) ≡ X f
  follow_file t l X h_x zero r m w W fragment from ks once = absurd (not-suc-le-zero (one_to_inside t.n zero r).0)
  follow_file t l X h_x (suc f) r m w W fragment from ks once = follow rule small t l X h_x f (one_to_inside t.n (suc f) r).1 m w W fragment from ks once

-- ---- after an accepted opening and calls

module _ (d : Code) (n : ℕ) (sizes : List ℕ) (cs : List Call) where
  pub calls_fit : (open_step d n sizes).number ≡ 0 → (state_after d n sizes cs).n ≤ 254
  calls_fit accepted = subst (λ (k : ℕ). k ≤ 254) (sym (after_same (opened d n (size_in sizes)) cs).same_n) (opened_represents d n sizes accepted).0

  pub calls_file : (f : ℕ) → is_file n f ≡ true → is_file (state_after d n sizes cs).n f ≡ true
  calls_file f r = subst (λ (k : ℕ). is_file k f ≡ true) (sym (after_same (opened d n (size_in sizes)) cs).same_n) r

module _ (rules : Code → ℕ → ℕ → ℕ) (d : Code) (n : ℕ) (sizes : List ℕ) (accepted : (open_step d n sizes).number ≡ 0) (cs : List Call)
    (rs : List Reply) (s : Inventory) (run : Run rules (open_step d n sizes).next cs rs s) where
  pub calls_sound : GivesAll rules (opened d n (size_in sizes)) cs rs × Represents (size_in sizes) (state_after d n sizes cs) s
  calls_sound = sound rules (size_in sizes) (opened d n (size_in sizes)) (open_step d n sizes).next cs rs s (opened_represents d n sizes accepted).1 run

  pub asked : (f : ℕ) → is_file n f ≡ true → (state_after d n sizes cs).files f ≡ false
      → (room : List ℕ) (r : Reply) (e : Inventory) → Step rules s (query f room) r e → GivesMissing (rules d) (state_after d n sizes cs) f room r
  unfolding Gives
  asked f q m room r e did =
      subst (λ (b : Bool). GivesQuery (rules d) now f room true b r) m
      (subst (λ (b : Bool). GivesQuery (rules d) now f room b (now.files f) r) (calls_file d n sizes cs f q)
      (subst (λ (k : Code). GivesQuery (rules k) now f room (is_file now.n f) (now.files f) r)
      (after_same (opened d n (size_in sizes)) cs).same_code
      (meets rules (size_in sizes) now s (query f room) r e calls_sound.1 did).0))
    where
      now : State
      now = state_after d n sizes cs

-- ---- the claim

pub condition_for : ConditionOverRules
condition_for rules small d n sizes accepted cs rs s run = record {
  replies = whole.0;
  afterwards = λ adds told ra s' run' more r r' e e' ran ran'.
      let R' = subst (λ (t : State). Represents size t s') (after_told d n size cs adds told) (calls_sound rules d n sizes accepted adds ra s' run').1 in
      gives_all_one rules small now fits more r r' (sound rules size now s more r e whole.1 ran).0
      (sound rules size now s' more r' e' R' ran').0;
  exactly = λ f r m room l number room' e did.
      missing_exactly (rules d) (small d) now f room l number room' (queried number room') refl (reply f r m room (queried number room') e did);
  follows = λ f r m room room' e did X h_x fragment from ks once.
      ap (λ (k : ℕ). mul_add_all (place (take 255 room')) fragment ks (replicate k 0))
      (sym (ap (λ (g : ℕ → ℕ). g f) (after_same (opened d n size) cs).same_size))
      ∙ follow_file (rules d) (small d) now fits X h_x f (calls_file d n sizes cs f r) m (take 255 room')
      (missing_weights (rules d) (small d) now f room room' (queried 0 room') refl (reply f r m room (queried 0 room') e did)) fragment from ks once;
}
  where
    size : ℕ → ℕ
    size = size_in sizes

    now : State
    now = state_after d n sizes cs

    whole : GivesAll rules (opened d n size) cs rs × Represents size now s
    whole = calls_sound rules d n sizes accepted cs rs s run

    fits : now.n ≤ 254
    fits = calls_fit d n sizes cs accepted

    reply : (f : ℕ) → is_file n f ≡ true → now.files f ≡ false → (room : List ℕ) (r : Reply) (e : Inventory) → Step rules s (query f room) r e
        → GivesMissing (rules d) now f room r
    reply = asked rules d n sizes accepted cs rs s run

pub condition : Condition3
condition = condition_for rule_of rule_byte
