-- The line after an event, by the event.
--
--   line_refused, line_end      that of a refusal, and of the end of the log
--   line_none, line_files       that of an inventory which no calls give, and of any other
--   set-none, set_files         the same by the set that `recoverable_files` promises
--   set_denied, set_kept        and by what it returns
--   told-none, told_number      the end of the log, and a refusal, by what is told
--   line_kept, line_denied, line_told     the line of an event, by what is told
--   line_there                  so each event has one
-- Assumes nothing.
use mathlib.Core.Path.{◌≡◌, refl, sym, ap, ◌∙◌, subst}
use mathlib.Core.Logic.{◌≢◌}
use mathlib.Core.Bool.{Bool, true, false, cond, true≢false, false≢true}
use mathlib.Core.List.{List, []}
use Prim.Native.Nat.{ℕ}
use native.Mathlib.Omega.{arith}
use native.Mathlib.Decide.{ℕ_discrete}
use lib.Dec.{eqb}
use borrow.Author.Tests.{eqb-true, eq-eqb, ne_eqb}
use Rattle.std.specs.Prelude.{None, Some, Ok, Err}
use Rattle.number_sets.specs.Sets.{member}
use Rattle.parity.specs.Coefficient.{rule_of}
use Rattle.parity.proofs.Coefficients.{rule_byte}
use Rattle.inventory.specs.Steps.{is_inventory, or_refusal}
use Rattle.inventory.specs.RecoverableFiles.{RecoverableFiles, RecoverableSet}
use Rattle.inventory.specs.declared.Inventory.{Inventory}
use Rattle.inventory.proofs.RecoverableSets.{set_there}
use Rattle.inventory.proofs.RecoverableAnswers.{one_set}
use Rattle.replay.specs.Lines.{refused_line, files_of, numbers_line}
use Rattle.replay.specs.Events.{told, EventLine, at_end, refused, no_inventory, files}
use Rattle.replay.specs.declared.events.Event.{Event}

module _ (e : Event) where
  pub line_refused : (line : List ℕ) → EventLine rule_of e line → e.number ≢ 0 → line ≡ refused_line e.number
  line_refused line (at_end z o) q = absurd (q z)
  line_refused line (refused p) q = refl
  line_refused line (no_inventory z o v) q = absurd (q z)
  line_refused line (files z o v r F) q = absurd (q z)

  pub line_end : (line : List ℕ) → EventLine rule_of e line → e.number ≡ 0 → e.over ≡ true → line ≡ []
  line_end line (at_end z o) n y = refl
  line_end line (refused p) n y = absurd (p n)
  line_end line (no_inventory z o v) n y = absurd (false≢true (sym o ∙ y))
  line_end line (files z o v r F) n y = absurd (false≢true (sym o ∙ y))

  pub line_none : (line : List ℕ) → EventLine rule_of e line → e.number ≡ 0 → e.over ≡ false → is_inventory e.inventory ≡ false → line ≡ refused_line 10
  line_none line (at_end z o) n y i = absurd (true≢false (sym o ∙ y))
  line_none line (refused p) n y i = absurd (p n)
  line_none line (no_inventory z o v) n y i = refl
  line_none line (files z o v r F) n y i = absurd (true≢false (sym v ∙ i))

  pub line_files : (line : List ℕ) → EventLine rule_of e line → e.number ≡ 0 → e.over ≡ false → is_inventory e.inventory ≡ true
      → (r : RecoverableFiles) → RecoverableSet rule_of e.inventory r → line ≡ numbers_line (files_of e.inventory.n (member r.files))
  line_files line (at_end z o) n y i r R = absurd (true≢false (sym o ∙ y))
  line_files line (refused p) n y i r R = absurd (p n)
  line_files line (no_inventory z o v) n y i r R = absurd (true≢false (sym i ∙ v))
  line_files line (files z o v s S) n y i r R =
      ap (λ (x : RecoverableFiles). numbers_line (files_of e.inventory.n (member x.files))) (one_set e.inventory s r S R)

module _ (e : Event) (z : e.number ≡ 0) (o : e.over ≡ false) (r : RecoverableFiles) (R : RecoverableSet rule_of e.inventory r) where
  pub set-none : r.number ≢ 0 → EventLine rule_of e (refused_line r.number)
  set-none q = go (is_inventory e.inventory) refl
    where
      go : (b : Bool) → is_inventory e.inventory ≡ b → EventLine rule_of e (refused_line r.number)
      go true v = absurd (q (R.accepted v))
      go false v = subst (λ (k : ℕ). EventLine rule_of e (refused_line k)) (sym (ap (λ (x : RecoverableFiles). x.number) (R.first v))) (no_inventory z o v)

  pub set_files : r.number ≡ 0 → EventLine rule_of e (numbers_line (files_of e.inventory.n (member r.files)))
  set_files n = go (is_inventory e.inventory) refl
    where
      go : (b : Bool) → is_inventory e.inventory ≡ b → EventLine rule_of e (numbers_line (files_of e.inventory.n (member r.files)))
      go true v = files z o v r R
      go false v = absurd (let k : r.number ≡ 10 = ap (λ (x : RecoverableFiles). x.number) (R.first v) in omega arith)

-- what the call for the set hands back
module _ (e : Event) (z : e.number ≡ 0) (o : e.over ≡ false) where
  pub set_kept : {ws : List ℕ} → (r : RecoverableFiles) × RecoverableSet rule_of e.inventory r × (Ok ws ≡ or_refusal r.files r.number)
      → EventLine rule_of e (numbers_line (files_of e.inventory.n (member ws)))
  set_kept {ws} (r, R, is) = go (eqb r.number 0) refl is
    where
      go : (b : Bool) → eqb r.number 0 ≡ b → Ok ws ≡ cond b (Ok r.files) (Err r.number)
          → EventLine rule_of e (numbers_line (files_of e.inventory.n (member ws)))
      go true n is = let same : ws ≡ r.files = cc in rw same (set_files e z o r R (eqb-true r.number 0 n))
      go false n is = absurd (cc)

  pub set_denied : {k : ℕ} → (r : RecoverableFiles) × RecoverableSet rule_of e.inventory r × (Err k ≡ or_refusal r.files r.number)
      → EventLine rule_of e (refused_line k)
  set_denied {k} (r, R, is) = go (eqb r.number 0) refl is
    where
      go : (b : Bool) → eqb r.number 0 ≡ b → Err k ≡ cond b (Ok r.files) (Err r.number) → EventLine rule_of e (refused_line k)
      go true n is = absurd (cc)
      go false n is = let same : k ≡ r.number = cc in rw same (set-none e z o r R (λ m. true≢false (sym (eq-eqb r.number 0 m) ∙ n)))

-- ---- what is told of an event

told_present : (e : Event) {s : Inventory} → told e ≡ Some (Ok s) → (e.number ≡ 0) × (e.over ≡ false) × (e.inventory ≡ s)
told_present e {s} h = go (eqb e.number 0) e.over refl refl h
  where
    go : (b c : Bool) → eqb e.number 0 ≡ b → e.over ≡ c → cond b (cond c None (Some (Ok e.inventory))) (Some (Err e.number)) ≡ Some (Ok s)
        → (e.number ≡ 0) × (e.over ≡ false) × (e.inventory ≡ s)
    go true true z o h = absurd (cc)
    go true false z o h = (eqb-true e.number 0 z, o, cc)
    go false c z o h = absurd (cc)

told_refusal : (e : Event) {k : ℕ} → told e ≡ Some (Err k) → (e.number ≢ 0) × (e.number ≡ k)
told_refusal e {k} h = go (eqb e.number 0) e.over refl h
  where
    go : (b c : Bool) → eqb e.number 0 ≡ b → cond b (cond c None (Some (Ok e.inventory))) (Some (Err e.number)) ≡ Some (Err k)
        → (e.number ≢ 0) × (e.number ≡ k)
    go true true z h = absurd (cc)
    go true false z h = absurd (cc)
    go false c z h = (λ m. true≢false (sym (eq-eqb e.number 0 m) ∙ z), cc)

pub told-none : (e : Event) → None ≡ told e → (e.number ≡ 0) × (e.over ≡ true)
told-none e h = go (eqb e.number 0) e.over refl refl h
  where
    go : (b c : Bool) → eqb e.number 0 ≡ b → e.over ≡ c → None ≡ cond b (cond c None (Some (Ok e.inventory))) (Some (Err e.number))
        → (e.number ≡ 0) × (e.over ≡ true)
    go true true z o h = (eqb-true e.number 0 z, o)
    go true false z o h = absurd (cc)
    go false c z o h = absurd (cc)

pub told_number : (e : Event) → e.number ≢ 0 → told e ≡ Some (Err e.number)
told_number e q = ap (λ (b : Bool). cond b (cond e.over None (Some (Ok e.inventory))) (Some (Err e.number))) (ne_eqb e.number 0 q)

module _ (e : Event) where
  pub line_kept : {s : Inventory} {ws : List ℕ} → told e ≡ Some (Ok s)
      → (r : RecoverableFiles) × RecoverableSet rule_of s r × (Ok ws ≡ or_refusal r.files r.number)
      → EventLine rule_of e (numbers_line (files_of s.n (member ws)))
  line_kept {s} {ws} h = let (z, o, i) = told_present e h in
      subst
      (λ (s : Inventory). (r : RecoverableFiles) × RecoverableSet rule_of s r × (Ok ws ≡ or_refusal r.files r.number)
      → EventLine rule_of e (numbers_line (files_of s.n (member ws))))
      i (set_kept e z o)

  pub line_denied : {s : Inventory} {k : ℕ} → told e ≡ Some (Ok s)
      → (r : RecoverableFiles) × RecoverableSet rule_of s r × (Err k ≡ or_refusal r.files r.number) → EventLine rule_of e (refused_line k)
  line_denied {s} {k} h = let (z, o, i) = told_present e h in
      subst
      (λ (s : Inventory). (r : RecoverableFiles) × RecoverableSet rule_of s r × (Err k ≡ or_refusal r.files r.number) → EventLine rule_of e (refused_line k))
      i (set_denied e z o)

  pub line_told : {k : ℕ} → told e ≡ Some (Err k) → EventLine rule_of e (refused_line k)
  line_told h = let (q, n) = told_refusal e h in subst (λ (k : ℕ). EventLine rule_of e (refused_line k)) n (refused q)

pub line_there : (e : Event) → (line : List ℕ) × EventLine rule_of e line
line_there e =
    elim (ℕ_discrete e.number 0) [
      | yes z ↦ by z e.over refl (set_there rule_of rule_byte e.inventory)
      | no q ↦ (_, refused q)
    ]
  where
    by : e.number ≡ 0 → (b : Bool) → e.over ≡ b → (r : RecoverableFiles) × RecoverableSet rule_of e.inventory r
        → (line : List ℕ) × EventLine rule_of e line
    by z true o (r, R) = (_, at_end z o)
    by z false o (r, R) =
        elim (ℕ_discrete r.number 0) [
          | yes n ↦ (_, set_files e z o r R n)
          | no q ↦ (_, set-none e z o r R q)
        ]
