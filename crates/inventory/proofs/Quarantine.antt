-- What quarantine and release count as (document 02, 2026-10).
--
--   next-accepted             the state after an accepted change
--   aside_removed_0           removal of a volume in quarantine is accepted
--   quarantine_as_removal_for, quarantine_as_removal     after quarantine of a volume replies to calls elsewhere are those after its removal:
--                             over any rules, and at those of the two codes
--   release_as_adding_for, release_as_adding     after release of a volume all replies are those after its removal and its addition
--   quarantine_refusals_for, quarantine_refusals     what is refused of a volume in quarantine, and of one that is withdrawn; it is released
--                             once, and removed once
-- Assumes nothing.
use mathlib.Core.Path.{◌≡◌, refl, sym, ap, ap₂, ◌∙◌, subst, fun_ext}
use mathlib.Core.Bool.{Bool, true, false, not, cond, ◌&&◌, ◌||◌}
use mathlib.Core.List.{List, [], ◌∷◌, Memᴰ}
use Prim.Native.Nat.{ℕ, suc, ◌<◌, ◌≤◌}
use native.Mathlib.Omega.{arith}
use lib.Dec.{eqb}
use borrow.Author.Tests.{ne_eqb}
use Rattle.codes.specs.declared.Code.{Code}
use Rattle.codes.proofs.CodeLaws.{same_itself}
use Rattle.parity.specs.Coefficient.{rule_of}
use Rattle.parity.proofs.Coefficients.{rule_byte}
use Rattle.recovery.specs.Recoverable.{State, is_volume}
use Rattle.inventory.specs.Model.{Change, add_volume, remove_volume, quarantine, release, insert, remove, with_volumes, changed, number_of}
use Rattle.inventory.specs.Model.{Call, change, Reply, numbered, next, Gives, GivesAll}
use Rattle.inventory.specs.Steps.{in_range}
use Rattle.inventory.specs.Query.{state_of}
use Rattle.inventory.specs.Claim.{size_in, Given, Elsewhere, AllAgree}
use Rattle.inventory.specs.Claim.{QuarantineAsRemovalFor, ReleaseAsAddingFor, QuarantineRefusalsFor}
use Rattle.inventory.specs.Claim.{QuarantineAsRemoval, ReleaseAsAdding, QuarantineRefusals}
use Rattle.inventory.specs.declared.Inventory.{Inventory}
use Rattle.inventory.proofs.ModelSets.{insert_here, remove_here}
use Rattle.inventory.proofs.ChangeNumbers.{accepted_tests}
use Rattle.inventory.proofs.ValidInventories.{few_files}
use Rattle.inventory.proofs.Calls.{gives_all_one}
use Rattle.inventory.proofs.Representation.{Represents}
use Rattle.inventory.proofs.Condition.{sound, calls_sound}
use Rattle.inventory.proofs.Beside.{Off, all_agree}

-- ---- the model

number_is : (j k : ℕ) → numbered j ≡ numbered k → j ≡ k
number_is j k e = cc

module _ (t : State) (v : ℕ) where
  pub next-accepted : (c : Change) → number_of t c v ≡ 0 → next t (change c v) ≡ changed c t v
  unfolding next
  next-accepted c e = ap (λ (k : ℕ). cond (eqb k 0) (changed c t v) t) e

  -- where quarantine is accepted the volume is present, and removal is accepted
  quarantine_accepted : number_of t quarantine v ≡ 0 → number_of t remove_volume v ≡ 0
  unfolding number_of
  quarantine_accepted = go (is_volume t.n v) (t.volumes v)
    where
      go : (ranged has : Bool) → ◌≡◌ {A = ℕ} (cond ranged (cond has 0 11) 10) 0
          → ◌≡◌ {A = ℕ} (cond ranged (cond (has || t.quarantined v) 0 11) 10) 0
      go true true e = refl
      go true false e = absurd (omega arith)
      go false has e = absurd (omega arith)

  -- where release is accepted the volume is quarantined, and removal is accepted, and addition after it
  release_accepted : number_of t release v ≡ 0 → (number_of t remove_volume v ≡ 0) × (number_of (changed remove_volume t v) (add_volume t.code) v ≡ 0)
  unfolding number_of changed
  release_accepted e =
      let (removed, added) = go (is_volume t.n v) (t.volumes v) (t.quarantined v) e in (
        removed,
        ap (λ (own : Bool). cond (is_volume t.n v) (cond own (cond (remove v t.quarantined v) 27 (cond (remove v t.volumes v) 11 0)) 29) 10)
            (same_itself t.code)
            ∙ ap₂ (λ (aside has : Bool). cond (is_volume t.n v) (cond aside 27 (cond has 11 0)) 10) (remove_here t.quarantined v)
            (remove_here t.volumes v)
            ∙ added,
      )
    where
      go : (ranged has aside : Bool) → ◌≡◌ {A = ℕ} (cond ranged (cond aside 0 11) 10) 0
          → ◌≡◌ {A = ℕ} (cond ranged (cond (has || aside) 0 11) 10) 0 × ◌≡◌ {A = ℕ} (cond ranged 0 10) 0
      go true true true e = (refl, refl)
      go true false true e = (refl, refl)
      go true has false e = absurd (omega arith)
      go false has aside e = absurd (omega arith)

  -- elsewhere the same is quarantined after both
  quarantine_off : Off v (insert v t.quarantined) (changed remove_volume t v)
  unfolding changed
  quarantine_off u n = ap (λ (b : Bool). b || t.quarantined u) (ne_eqb u v n) ∙ sym (ap (λ (b : Bool). not b && t.quarantined u) (ne_eqb u v n))

  -- after removal and addition all is as after release
  release_same : changed (add_volume t.code) (changed remove_volume t v) v ≡ changed release t v
  unfolding changed
  release_same = ap (λ (s : ℕ → Bool). with_volumes t s (remove v t.quarantined)) (fun_ext (λ u. go (eqb u v) (t.volumes u)))
    where
      go : (same has : Bool) → (same || (not same && has)) ≡ (same || has)
      go true has = refl
      go false has = refl

module _ (rules : Code → ℕ → ℕ → ℕ) (small : (c : Code) (f v : ℕ) → f < 256 → rules c f v < 256) (t : State) (fits : t.n ≤ 254) (v : ℕ) where
  removal_agrees : (more : List Call) → ((c : Call) → Memᴰ c more → Elsewhere v c) → (k : ℕ) (r r' : List Reply)
      → GivesAll rules t (change quarantine v ∷ more) (numbered 0 ∷ r) → GivesAll rules t (change remove_volume v ∷ more) (numbered k ∷ r')
      → (k ≡ 0) × AllAgree more r r'
  unfolding Gives GivesAll changed
  removal_agrees more away k r r' (a, g) (b, h) = let accepted = sym (number_is 0 (number_of t quarantine v) a) in
      let removed = quarantine_accepted t v accepted in (
        number_is k (number_of t remove_volume v) b ∙ removed,
        all_agree rules small v more away (changed remove_volume t v) (insert v t.quarantined) (quarantine_off t v) fits r r'
            (subst (λ (u : State). GivesAll rules u more r) (next-accepted t v quarantine accepted) g)
            (subst (λ (u : State). GivesAll rules u more r') (next-accepted t v remove_volume removed) h),
      )

  adding_same : (more : List Call) (j k : ℕ) (r r' : List Reply) → GivesAll rules t (change release v ∷ more) (numbered 0 ∷ r)
      → GivesAll rules t (change remove_volume v ∷ change (add_volume t.code) v ∷ more) (numbered j ∷ numbered k ∷ r')
      → (j ≡ 0) × (k ≡ 0) × (r ≡ r')
  unfolding Gives GivesAll changed
  adding_same more j k r r' (a, g) (b, rest) = let accepted = sym (number_is 0 (number_of t release v) a) in
      let (removed, added) = release_accepted t v accepted in
      let u : State = changed remove_volume t v in
      let (d, h) = subst (λ (x : State). GivesAll rules x (change (add_volume t.code) v ∷ more) (numbered k ∷ r')) (next-accepted t v remove_volume removed) rest in (
        number_is j (number_of t remove_volume v) b ∙ removed,
        number_is k (number_of u (add_volume t.code) v) d ∙ added,
        gives_all_one rules small (changed release t v) fits more r r'
            (subst (λ (x : State). GivesAll rules x more r) (next-accepted t v release accepted) g)
            (subst (λ (x : State). GivesAll rules x more r') (next-accepted u v (add_volume t.code) added ∙ release_same t v) h),
      )

-- ---- what the model refuses

module _ (t : State) (v : ℕ) (ranged : is_volume t.n v ≡ true) where
  quarantined_27 : t.quarantined v ≡ true → number_of t (add_volume t.code) v ≡ 27
  unfolding number_of
  quarantined_27 q = simp (ranged, same_itself t.code, q)

  not-present_11 : t.volumes v ≡ false → number_of t quarantine v ≡ 11
  unfolding number_of
  not-present_11 q = simp (ranged, q)

  not_quarantined_11 : t.quarantined v ≡ false → number_of t release v ≡ 11
  unfolding number_of
  not_quarantined_11 q = simp (ranged, q)

  quarantined_0 : t.quarantined v ≡ true → number_of t release v ≡ 0
  unfolding number_of
  quarantined_0 q = simp (ranged, q)

  pub aside_removed_0 : t.volumes v ≡ false → t.quarantined v ≡ true → number_of t remove_volume v ≡ 0
  unfolding number_of
  aside_removed_0 p q = simp (ranged, p, q)

  neither_11 : t.volumes v ≡ false → t.quarantined v ≡ false → number_of t remove_volume v ≡ 11
  unfolding number_of
  neither_11 p q = simp (ranged, p, q)

next-refused : (t : State) (v : ℕ) (c : Change) (k : ℕ) → number_of t c v ≡ suc k → next t (change c v) ≡ t
unfolding next
next-refused t v c k e = ap (λ (b : Bool). cond b (changed c t v) t) (ne_eqb (number_of t c v) 0 (λ z. omega arith))

-- three changes, one after another, the first of which is accepted
two_replies : (rules : Code → ℕ → ℕ → ℕ) (t u w : State) (v j k : ℕ) (a b c : Change) (r r' : Reply) → next t (change a v) ≡ u
    → next u (change b v) ≡ w → number_of u b v ≡ j → number_of w c v ≡ k
    → GivesAll rules t (change a v ∷ change b v ∷ change c v ∷ []) (numbered 0 ∷ r ∷ r' ∷ [])
    → (r ≡ numbered j) × (r' ≡ numbered k)
unfolding Gives GivesAll
two_replies rules t u w v j k a b c r r' to on p q g = (
  g.1.0 ∙ ap numbered (ap (λ (x : State). number_of x b v) to ∙ p),
  g.1.1.0 ∙ ap numbered (ap (λ (x : State). number_of x c v) (ap (λ (x : State). next x (change b v)) to ∙ on) ∙ q),
)

module _ (rules : Code → ℕ → ℕ → ℕ) (t : State) (v : ℕ) (r r' : Reply) where
  -- a change whose reply is 0 is accepted
  first_accepted : (c : Change) (cs : List Call) (rs : List Reply) → GivesAll rules t (change c v ∷ cs) (numbered 0 ∷ rs) → number_of t c v ≡ 0
  unfolding Gives GivesAll
  first_accepted c cs rs g = sym (number_is 0 (number_of t c v) g.0)

  quarantine_refuses : GivesAll rules t (change quarantine v ∷ change (add_volume t.code) v ∷ change quarantine v ∷ []) (numbered 0 ∷ r ∷ r' ∷ [])
      → (r ≡ numbered 27) × (r' ≡ numbered 11)
  unfolding changed in_range
  quarantine_refuses g = let accepted = first_accepted quarantine _ _ g in
      let ranged = (accepted_tests t quarantine v accepted).0 in
      let u : State = changed quarantine t v in
      let noted = quarantined_27 u v ranged (insert_here t.quarantined v) in
      two_replies rules t u u v 27 11 quarantine (add_volume t.code) quarantine r r' (next-accepted t v quarantine accepted)
      (next-refused u v (add_volume t.code) 26 noted) noted (not-present_11 u v ranged (remove_here t.volumes v)) g

  removal_refuses : GivesAll rules t (change remove_volume v ∷ change quarantine v ∷ change release v ∷ []) (numbered 0 ∷ r ∷ r' ∷ [])
      → (r ≡ numbered 11) × (r' ≡ numbered 11)
  unfolding changed in_range
  removal_refuses g = let accepted = first_accepted remove_volume _ _ g in
      let ranged = (accepted_tests t remove_volume v accepted).0 in
      let u : State = changed remove_volume t v in
      let aside = not-present_11 u v ranged (remove_here t.volumes v) in
      two_replies rules t u u v 11 11 remove_volume quarantine release r r' (next-accepted t v remove_volume accepted)
      (next-refused u v quarantine 10 aside) aside (not_quarantined_11 u v ranged (remove_here t.quarantined v)) g

  release_once : GivesAll rules t (change quarantine v ∷ change release v ∷ change release v ∷ []) (numbered 0 ∷ r ∷ r' ∷ [])
      → (r ≡ numbered 0) × (r' ≡ numbered 11)
  unfolding changed in_range
  release_once g = let accepted = first_accepted quarantine _ _ g in
      let ranged = (accepted_tests t quarantine v accepted).0 in
      let u : State = changed quarantine t v in
      let back = quarantined_0 u v ranged (insert_here t.quarantined v) in
      two_replies rules t u (changed release u v) v 0 11 quarantine release release r r' (next-accepted t v quarantine accepted)
      (next-accepted u v release back) back
      (not_quarantined_11 (changed release u v) v ranged (remove_here u.quarantined v)) g

  removal_once : GivesAll rules t (change quarantine v ∷ change remove_volume v ∷ change remove_volume v ∷ []) (numbered 0 ∷ r ∷ r' ∷ [])
      → (r ≡ numbered 0) × (r' ≡ numbered 11)
  unfolding changed in_range
  removal_once g = let accepted = first_accepted quarantine _ _ g in
      let ranged = (accepted_tests t quarantine v accepted).0 in
      let u : State = changed quarantine t v in
      let w : State = changed remove_volume u v in
      let gone = aside_removed_0 u v ranged (remove_here t.volumes v) (insert_here t.quarantined v) in
      two_replies rules t u w v 0 11 quarantine remove_volume remove_volume r r' (next-accepted t v quarantine accepted)
      (next-accepted u v remove_volume gone) gone
      (neither_11 w v ranged (remove_here u.volumes v) (remove_here u.quarantined v)) g

-- ---- inventories that calls give

module _ (rules : Code → ℕ → ℕ → ℕ) (s : Inventory) (given : Given rules s) where
  -- the state that the inventory stands for, of files of some sizes
  stands : (size : ℕ → ℕ) × Represents size (state_of s size) s
  stands = let (d, n, sizes, cs, reached) = given in
      let size : ℕ → ℕ = size_in sizes in
      let R = (calls_sound rules d n sizes reached.accepted cs reached.replies s reached.run).1 in
      (size, subst (λ (t : State). Represents size t s) R.state R)

pub quarantine_as_removal_for : (rules : Code → ℕ → ℕ → ℕ) → ((c : Code) (f v : ℕ) → f < 256 → rules c f v < 256) → QuarantineAsRemovalFor rules
quarantine_as_removal_for rules small s given v more away k r r' e e' run run' = let (size, R) = stands rules s given in
    removal_agrees rules small (state_of s size) (few_files s R.valid) v more away k r r' (sound rules size (state_of s size) s _ _ e R run).0
    (sound rules size (state_of s size) s _ _ e' R run').0

pub release_as_adding_for : (rules : Code → ℕ → ℕ → ℕ) → ((c : Code) (f v : ℕ) → f < 256 → rules c f v < 256) → ReleaseAsAddingFor rules
release_as_adding_for rules small s given v more j k r r' e e' run run' = let (size, R) = stands rules s given in
    adding_same rules small (state_of s size) (few_files s R.valid) v more j k r r' (sound rules size (state_of s size) s _ _ e R run).0
    (sound rules size (state_of s size) s _ _ e' R run').0

pub quarantine_refusals_for : (rules : Code → ℕ → ℕ → ℕ) → QuarantineRefusalsFor rules
quarantine_refusals_for rules s given v r r' e = let (size, R) = stands rules s given in
    let t : State = state_of s size in (
      λ run. quarantine_refuses rules t v r r' (sound rules size t s _ _ e R run).0,
      λ run. removal_refuses rules t v r r' (sound rules size t s _ _ e R run).0,
      λ run. release_once rules t v r r' (sound rules size t s _ _ e R run).0,
      λ run. removal_once rules t v r r' (sound rules size t s _ _ e R run).0,
    )

pub quarantine_as_removal : QuarantineAsRemoval
quarantine_as_removal = quarantine_as_removal_for rule_of rule_byte

pub release_as_adding : ReleaseAsAdding
release_as_adding = release_as_adding_for rule_of rule_byte

pub quarantine_refusals : QuarantineRefusals
quarantine_refusals = quarantine_refusals_for rule_of
