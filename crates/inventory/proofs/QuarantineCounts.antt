-- How quarantine, release and removal change the counts (document 02, 2026-10).
--
--   counts_of t                the model's count in the state t
--   between_counts            what the model replies to counts before and after a change
--   quarantine_counts, release_counts, removal_counts     so of quarantine, release, and removal of a volume in quarantine
--   quarantine_counted_for, quarantine_counted     the claim over any rules, and at those of the two codes
-- Assumes nothing.
use mathlib.Core.Path.{◌≡◌, refl, sym, ap, ◌∙◌}
use mathlib.Core.Bool.{Bool, true, false, cond, true≢false}
use mathlib.Core.List.{[], ◌∷◌}
use Prim.Native.Nat.{ℕ, ◌<◌, ◌-◌}
use native.Mathlib.Omega.{arith}
use Rattle.computed_tests.proofs.Tests.{one_to_inside}
use Rattle.codes.specs.declared.Code.{Code}
use Rattle.number_sets.specs.Sets.{size_below}
use Rattle.parity.specs.Coefficient.{rule_of}
use Rattle.recovery.specs.Recoverable.{State, is_volume}
use Rattle.inventory.specs.Model.{Change, remove_volume, quarantine, release, remove, changed, number_of}
use Rattle.inventory.specs.Model.{change, count, Reply, numbered, counts, opened, next, after, Gives, GivesAll}
use Rattle.inventory.specs.Claim.{size_in, OneAside, OneGone, QuarantineCountedFor, QuarantineCounted}
use Rattle.inventory.proofs.Sizes.{size_remove, size_insert, size_kept}
use Rattle.inventory.proofs.Calls.{Ranged, opened_ranged, after_ranged}
use Rattle.inventory.proofs.Condition.{sound, calls_sound}
use Rattle.inventory.proofs.Quarantine.{next-accepted, aside_removed_0}

abbrev counts_of : State → Reply
counts_of t = counts (size_below 256 t.files) (size_below 256 t.volumes) (size_below 256 t.quarantined)

-- a change that is refused with 10 or 11, and accepted
tests_passed : (ranged has : Bool) → ◌≡◌ {A = ℕ} (cond ranged (cond has 0 11) 10) 0 → (ranged ≡ true) × (has ≡ true)
tests_passed true true e = (refl, refl)
tests_passed true false e = absurd (omega arith)
tests_passed false has e = absurd (omega arith)

volume_byte : (n v : ℕ) → is_volume n v ≡ true → v < 256
volume_byte n v ranged = let inside = one_to_inside (255 - n) v ranged in omega arith

module _ (rules : Code → ℕ → ℕ → ℕ) (t : State) (v : ℕ) (r r' : Reply) where
  reply_between : (c : Change) (a : Reply) → GivesAll rules t (count ∷ change c v ∷ count ∷ []) (r ∷ a ∷ r' ∷ []) → a ≡ numbered (number_of t c v)
  unfolding Gives GivesAll next
  reply_between c a g = g.1.0

  between_accepted : (c : Change) → GivesAll rules t (count ∷ change c v ∷ count ∷ []) (r ∷ numbered 0 ∷ r' ∷ []) → number_of t c v ≡ 0
  between_accepted c g = number_is (number_of t c v) (reply_between c (numbered 0) g)
    where
      number_is : (k : ℕ) → numbered 0 ≡ numbered k → k ≡ 0
      number_is k e = cc

  between_counts : (c : Change) (a : Reply) → number_of t c v ≡ 0 → GivesAll rules t (count ∷ change c v ∷ count ∷ []) (r ∷ a ∷ r' ∷ [])
      → (r ≡ counts_of t) × (r' ≡ counts_of (changed c t v))
  unfolding Gives GivesAll next
  between_counts c a accepted g = (g.0, g.1.1.0 ∙ ap counts_of (next-accepted t v c accepted))

  module _ (h : Ranged t) where
    -- what is quarantined is not present
    aside_only : t.quarantined v ≡ true → t.volumes v ≡ false
    aside_only q = go (t.volumes v) refl
      where
        go : (b : Bool) → t.volumes v ≡ b → b ≡ false
        go true e = absurd (true≢false (sym q ∙ h.apart v e))
        go false e = refl

    quarantine_counts : GivesAll rules t (count ∷ change quarantine v ∷ count ∷ []) (r ∷ numbered 0 ∷ r' ∷ []) → OneAside r r'
    unfolding number_of changed
    quarantine_counts g = let accepted = between_accepted quarantine g in
        let (ranged, has) = tests_passed (is_volume t.n v) (t.volumes v) accepted in
        let l = volume_byte t.n v ranged in
        let (before, behind) = between_counts quarantine (numbered 0) accepted g in (
          size_below 256 t.files,
          size_below 256 (remove v t.volumes),
          size_below 256 t.quarantined,
          before ∙ ap (λ (k : ℕ). counts (size_below 256 t.files) k (size_below 256 t.quarantined)) (size_remove 256 t.volumes v l has),
          behind
              ∙ ap (λ (k : ℕ). counts (size_below 256 t.files) (size_below 256 (remove v t.volumes)) k)
              (size_insert 256 t.quarantined v (h.apart v has) l),
        )

    release_counts : GivesAll rules t (count ∷ change release v ∷ count ∷ []) (r ∷ numbered 0 ∷ r' ∷ []) → OneAside r' r
    unfolding number_of changed
    release_counts g = let accepted = between_accepted release g in
        let (ranged, has) = tests_passed (is_volume t.n v) (t.quarantined v) accepted in
        let l = volume_byte t.n v ranged in
        let (before, behind) = between_counts release (numbered 0) accepted g in (
          size_below 256 t.files,
          size_below 256 t.volumes,
          size_below 256 (remove v t.quarantined),
          behind
              ∙ ap (λ (k : ℕ). counts (size_below 256 t.files) k (size_below 256 (remove v t.quarantined)))
              (size_insert 256 t.volumes v (aside_only has) l),
          before ∙ ap (λ (k : ℕ). counts (size_below 256 t.files) (size_below 256 t.volumes) k) (size_remove 256 t.quarantined v l has),
        )

    removal_counts : t.quarantined v ≡ true → (a : Reply)
        → GivesAll rules t (count ∷ change remove_volume v ∷ count ∷ []) (r ∷ a ∷ r' ∷ []) → (a ≡ numbered 0) × OneGone r r'
    unfolding changed
    removal_counts q a g = let ranged = h.quarantined v q in
        let l = volume_byte t.n v ranged in
        let gone = aside_only q in
        let accepted = aside_removed_0 t v ranged gone q in
        let (before, behind) = between_counts remove_volume a accepted g in (
          reply_between remove_volume a g ∙ ap numbered accepted,
          (
            size_below 256 t.files,
            size_below 256 t.volumes,
            size_below 256 (remove v t.quarantined),
            before ∙ ap (λ (k : ℕ). counts (size_below 256 t.files) (size_below 256 t.volumes) k) (size_remove 256 t.quarantined v l q),
            behind
                ∙ ap (λ (k : ℕ). counts (size_below 256 t.files) k (size_below 256 (remove v t.quarantined))) (size_kept 256 t.volumes v gone),
          ),
        )

-- ---- the claim

pub quarantine_counted_for : (rules : Code → ℕ → ℕ → ℕ) → QuarantineCountedFor rules
quarantine_counted_for rules d n sizes cs s reached v r r' e = let size : ℕ → ℕ = size_in sizes in
    let t : State = after (opened d n size) cs in
    let R = (calls_sound rules d n sizes reached.accepted cs reached.replies s reached.run).1 in
    let h = after_ranged (opened d n size) cs (opened_ranged d n size) in (
      λ told. quarantine_counts rules t v r r' h (sound rules size t s _ _ e R told).0,
      λ told. release_counts rules t v r r' h (sound rules size t s _ _ e R told).0,
      λ q a told. removal_counts rules t v r r' h q a (sound rules size t s _ _ e R told).0,
    )

pub quarantine_counted : QuarantineCounted
quarantine_counted = quarantine_counted_for rule_of
