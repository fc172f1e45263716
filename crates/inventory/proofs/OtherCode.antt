-- Which calls are refused with 29 (document 02, 2026-13).
--
--   other_29                  the model's number of a change is 29 exactly where it adds a volume in range of another code
--   query_not_29              no query's is
--   other_code_refused_for, other_code_refused     the claim over any rules, and at those of the two codes
-- Assumes nothing.
use mathlib.Core.Path.{◌≡◌, refl, sym, ap, ◌∙◌, subst}
use mathlib.Core.Logic.{◌↔◌}
use mathlib.Core.Bool.{Bool, true, false, cond, ◌||◌, true≢false}
use mathlib.Core.List.{List}
use Prim.Native.Nat.{ℕ}
use native.Mathlib.Omega.{arith}
use Rattle.codes.specs.Codes.{same}
use Rattle.codes.specs.declared.Code.{Code}
use Rattle.codes.proofs.CodeLaws.{same_itself, same_only}
use Rattle.parity.specs.Coefficient.{rule_of}
use Rattle.parity.specs.Parity.{is_file}
use Rattle.recovery.specs.Recoverable.{State, is_volume}
use Rattle.inventory.specs.Model.{add_file, remove_file, add_volume, remove_volume, quarantine, release, number_of}
use Rattle.inventory.specs.Model.{Call, change, count, query, reply, numbered, opened, after, Gives, GivesQuery}
use Rattle.inventory.specs.Claim.{size_in, AddsOther, OtherCodeRefusedFor, OtherCodeRefused}
use Rattle.inventory.proofs.Representation.{meets}
use Rattle.inventory.proofs.Calls.{after_same, missing_not}
use Rattle.inventory.proofs.Condition.{calls_sound}

-- ---- changes

-- other numbers than 29, by one test and by two
not_29 : (a b : Bool) → ◌≡◌ {A = ℕ} (cond a (cond b 0 11) 10) 29 → ⊥
not_29 true true e = omega arith
not_29 true false e = omega arith
not_29 false b e = omega arith

added_not_29 : (a b : Bool) → ◌≡◌ {A = ℕ} (cond a (cond b 11 0) 10) 29 → ⊥
added_not_29 true true e = omega arith
added_not_29 true false e = omega arith
added_not_29 false b e = omega arith

module _ (t : State) (c : Code) (v : ℕ) where
  other_29 : (number_of t (add_volume c) v ≡ 29) ↔ ((is_volume t.n v ≡ true) × (¬ (c ≡ t.code)))
  unfolding number_of
  other_29 = (to (is_volume t.n v) (same c t.code) (t.quarantined v) (t.volumes v) refl, λ h. back h.0 (same c t.code) refl h.1)
    where
      to : (a s q b : Bool) → same c t.code ≡ s → ◌≡◌ {A = ℕ} (cond a (cond s (cond q 27 (cond b 11 0)) 29) 10) 29
          → (a ≡ true) × (¬ (c ≡ t.code))
      to true false q b e h = (refl, λ z. true≢false (sym (same_itself c) ∙ ap (same c) z ∙ e))
      to true true true b e h = absurd (omega arith)
      to true true false true e h = absurd (omega arith)
      to true true false false e h = absurd (omega arith)
      to false s q b e h = absurd (omega arith)

      back : is_volume t.n v ≡ true → (s : Bool) → same c t.code ≡ s → ¬ (c ≡ t.code)
          → ◌≡◌ {A = ℕ} (cond (is_volume t.n v) (cond (same c t.code) (cond (t.quarantined v) 27 (cond (t.volumes v) 11 0)) 29) 10) 29
      back r true e n = absurd (n (same_only c t.code e))
      back r false e n = simp (r, e)

-- ---- queries

module _ (rule : ℕ → ℕ → ℕ) (t : State) (f : ℕ) (room : List ℕ) (values : List ℕ) where
  query_not_29 : (in_range has : Bool) → GivesQuery rule t f room in_range has (reply 29 values) → ⊥
  query_not_29 false has g = let z : ◌≡◌ {A = ℕ} 10 29 = cc in omega arith
  query_not_29 true true g = let z : ◌≡◌ {A = ℕ} 13 29 = cc in omega arith
  query_not_29 true false g = missing_not rule t f room 29 values (λ z. omega arith) (λ z. omega arith) (λ z. omega arith) (reply 29 values) refl g

-- ---- every call

module _ (rules : Code → ℕ → ℕ → ℕ) (t : State) where
  number_is : (k j : ℕ) (values : List ℕ) → reply k values ≡ numbered j → k ≡ j
  number_is k j values e = cc

  gives_29 : (c : Call) (k : ℕ) (values : List ℕ) → Gives rules t c (reply k values) → (k ≡ 29) ↔ AddsOther t.code t.n c
  unfolding Gives AddsOther number_of
  gives_29 (change add_file f) k values g = (λ e. added_not_29 (is_file t.n f) (t.files f) (sym (number_is k _ values g) ∙ e), λ z. absurd z)
  gives_29 (change remove_file f) k values g = (λ e. not_29 (is_file t.n f) (t.files f) (sym (number_is k _ values g) ∙ e), λ z. absurd z)
  gives_29 (change (add_volume c) v) k values g = let same = number_is k (number_of t (add_volume c) v) values g in
      (λ e. (other_29 t c v).0 (sym same ∙ e), λ h. same ∙ (other_29 t c v).1 h)
  gives_29 (change remove_volume v) k values g =
      (λ e. not_29 (is_volume t.n v) (t.volumes v || t.quarantined v) (sym (number_is k _ values g) ∙ e), λ z. absurd z)
  gives_29 (change quarantine v) k values g = (λ e. not_29 (is_volume t.n v) (t.volumes v) (sym (number_is k _ values g) ∙ e), λ z. absurd z)
  gives_29 (change release v) k values g = (λ e. not_29 (is_volume t.n v) (t.quarantined v) (sym (number_is k _ values g) ∙ e), λ z. absurd z)
  gives_29 count k values g = (λ e. let z : ◌≡◌ {A = ℕ} 0 29 = cc in absurd (omega arith), λ z. absurd z)
  gives_29 (query f room) k values g = (
    λ e. query_not_29 (rules t.code) t f room values (is_file t.n f) (t.files f)
        (subst (λ (j : ℕ). GivesQuery (rules t.code) t f room (is_file t.n f) (t.files f) (reply j values)) e g),
    λ z. absurd z,
  )

pub other_code_refused_for : (rules : Code → ℕ → ℕ → ℕ) → OtherCodeRefusedFor rules
other_code_refused_for rules d n sizes cs s reached c k values e step = let size : ℕ → ℕ = size_in sizes in
    let start : State = opened d n size in
    let R = (calls_sound rules d n sizes reached.accepted cs reached.replies s reached.run).1 in
    subst (λ (m : ℕ). (k ≡ 29) ↔ AddsOther d m c) (after_same start cs).same_n
    (subst (λ (x : Code). (k ≡ 29) ↔ AddsOther x (after start cs).n c) (after_same start cs).same_code
    (gives_29 rules (after start cs) c k values (meets rules size (after start cs) s c (reply k values) e R step).0))

pub other_code_refused : OtherCodeRefused
other_code_refused = other_code_refused_for rule_of
