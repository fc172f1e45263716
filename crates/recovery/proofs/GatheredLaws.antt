-- The files whose columns are solved, with the missing empty ones, are those that are recoverable, over any rule for the coefficients.
--
--   gathered_exactly     the set has exactly these, whatever the sizes are
--   set_words            it is four words of 64 bits
--   gathered_there       there is such a set
--   as_recoverable       the claim on both calls
-- Assumes nothing.
use mathlib.Core.Path.{◌≡◌, refl, sym, ap, ap₂, ◌∙◌, subst}
use mathlib.Core.Logic.{◌↔◌, ◌⊎◌, inl, inr}
use mathlib.Core.Bool.{Bool, true, false, not, ◌&&◌}
use mathlib.Core.List.{List}
use Prim.Native.Nat.{ℕ, suc, ◌<◌, ◌≤◌, ◌-◌}
use native.Mathlib.Omega.{arith}
use lib.Dec.{leb}
use lib.ListN.{replicate, take}
use borrow.Author.Tests.{leb-true, not-true}
use Rattle.computed_tests.proofs.Tests.{and_both, one_to_in, one_to_inside}
use Rattle.codes.specs.declared.Code.{Code}
use Rattle.parity.specs.Coefficient.{rule_of}
use Rattle.parity.proofs.Coefficients.{rule_byte}
use Rattle.elimination.proofs.Reductions.{zeros_at}
use Rattle.number_sets.specs.Sets.{member, Words}
use Rattle.number_sets.proofs.Gathering.{gathered_words, gathered_from, gathered_in}
use Rattle.volume_weights.specs.Weights.{Solved}
use Rattle.volume_weights.proofs.Determined.{columns_there}
use Rattle.recovery.specs.Recoverable.{State, Recoverable, RecoverableNow, IsWeights}
use Rattle.recovery.specs.Answers.{state_of, InRange, Matches, Found, empty, not_empty, Answers, undetermined, recoverable, is_empty, Gathered}
use Rattle.recovery.specs.Claim.{AsRecoverable}
use Rattle.recovery.specs.declared.Answer.TheVariants as answer
use Rattle.recovery.proofs.AnswerLaws.{recovered, unrecovered, written_weights}

module _ (rule : ℕ → ℕ → ℕ) (small : (f v : ℕ) → f < 256 → rule f v < 256) (n : ℕ) (few : n ≤ 254) (files volumes nonempty r : List ℕ)
    (G : Gathered rule n files volumes nonempty r) where
  abbrev solved : List ℕ
  solved = G.solved

  bytes : (i : ℕ) → i < n → suc i < 256
  bytes i l = omega arith

  module _ (in_range : InRange n nonempty) (aside : ℕ → Bool) (d : Code) (size : ℕ → ℕ) (matches : Matches n nonempty size) (f : ℕ) where
    abbrev Now : Type 0
    Now = RecoverableNow rule (state_of n files volumes aside d size) f

    -- f is of the solved columns, or a missing empty file
    abbrev Listed : Type 0
    Listed = (member solved f ≡ true) ⊎ ((i : ℕ) × (i < n) × (is_empty files nonempty i ≡ true) × (suc i ≡ f))

    -- what weights say of a missing file
    by_weights : (i : ℕ) → i < n → suc i ≡ f → member files (suc i) ≡ false → (ws : List ℕ) → Found rule n files volumes nonempty i true ws → Now
    by_weights i l z m ws F =
        subst (RecoverableNow rule (state_of n files volumes aside d size)) z
        (one_to_in n (suc i) (omega arith) l, m, recovered rule small n few files volumes nonempty in_range aside d size matches i l m ws F)

    solved_now : member solved f ≡ true → Now
    solved_now h = let (l, c) = G.columns.columns f h in
        let (b, u) = and_both (leb f 255) _ c in
        let (e, m) = and_both (member nonempty f) _ u in
        let k = leb-true f 255 b in
        let j = one_to_inside n f (in_range f (omega arith) e) in
        let (ws, W) = G.columns.each (f - 1) (omega arith) in
        let z : suc (f - 1) ≡ f = omega arith in
        by_weights (f - 1) (omega arith) z (ap (member files) z ∙ not-true (member files f) m) ws
        (not_empty (ap (member nonempty) z ∙ e)
        (subst (Solved rule nonempty files volumes (255 - n) (f - 1) ws) (ap (member solved) z ∙ h) W))

    empty_now : (i : ℕ) → i < n → is_empty files nonempty i ≡ true → suc i ≡ f → Now
    empty_now i l t z = let (m, e) = and_both (not (member files (suc i))) _ t in
        by_weights i l z (not-true _ m) (replicate 256 0) (empty (not-true _ e) refl (zeros_at 256))

    from : Listed → Now
    from (inl h) = solved_now h
    from (inr (i, l, t, z)) = empty_now i l t z

    to : Now → (b : Bool) → member nonempty f ≡ b → Listed
    to (file, missing, u) b e = let l = one_to_inside n f file in
        let z : suc (f - 1) ≡ f = omega arith in
        go (f - 1) (omega arith) z b e (member solved f) refl
      where
        go : (i : ℕ) → i < n → suc i ≡ f → (b : Bool) → member nonempty f ≡ b → (c : Bool) → member solved f ≡ c → Listed
        go i l z false e c h =
            inr (i, l, ap₂ (λ (a b : Bool). not a && not b) (ap (member files) z ∙ missing) (ap (member nonempty) z ∙ e), z)
        go i l z true e true h = inl h
        go i l z true e false h =
            let (ws, W) = G.columns.each i (omega arith) in
            absurd
            (unrecovered rule small n few files volumes nonempty in_range aside d size matches i l (ap (member files) z ∙ missing) ws
            (not_empty (ap (member nonempty) z ∙ e)
            (subst (Solved rule nonempty files volumes (255 - n) i ws) (ap (member solved) z ∙ h) W))
            (subst (λ (k : ℕ). RecoverableNow rule (state_of n files volumes aside d size) k) (sym z) (file, missing, u)).2)

    pub gathered_exactly : (member r f ≡ true) ↔ RecoverableNow rule (state_of n files volumes aside d size) f
    gathered_exactly = (
      λ h.
          from
          (gathered_from solved suc (is_empty files nonempty) G.columns.words n f bytes
          (ap (λ (ws : List ℕ). member ws f) (sym G.with_empty) ∙ h)),
      λ u.
          ap (λ (ws : List ℕ). member ws f) G.with_empty
          ∙ gathered_in solved suc (is_empty files nonempty) G.columns.words n f bytes (to u (member nonempty f) refl),
    )

module _ (rule : ℕ → ℕ → ℕ) (n : ℕ) (files volumes nonempty : List ℕ) where
  pub set_words : (r : List ℕ) → Gathered rule n files volumes nonempty r → Words r
  set_words r G = subst Words (sym G.with_empty) (gathered_words G.solved suc (is_empty files nonempty) G.columns.words n)

  pub gathered_there : (r : List ℕ) × Gathered rule n files volumes nonempty r
  gathered_there = let (solved, S) = columns_there rule nonempty files volumes (255 - n) in
      (_, record { solved = solved; columns = S; with_empty = refl })

pub as_recoverable : AsRecoverable
as_recoverable c n files volumes nonempty aside size few in_range matches = (
  λ i below room room'. (by i below room room', not_by i below room room'),
  λ r G f. gathered_exactly (rule_of c) (rule_byte c) n few files volumes nonempty r G in_range aside c size matches f,
)
  where
    t : State
    t = state_of n files volumes aside c size

    by : (i : ℕ) → i < n → (room room' : List ℕ) → Answers (rule_of c) n files volumes nonempty i room answer.Recoverable room'
        → Recoverable (rule_of c) t (suc i) × IsWeights (rule_of c) t (suc i) (take 255 room')
    by i below room room' (recoverable missing ws F long _ W) = (
      recovered (rule_of c) (rule_byte c) n few files volumes nonempty in_range aside c size matches i below missing ws F,
      written_weights (rule_of c) (rule_byte c) n few files volumes nonempty in_range aside c size matches i below missing room ws room' long W F,
    )

    not_by : (i : ℕ) → i < n → (room room' : List ℕ) → Answers (rule_of c) n files volumes nonempty i room answer.Undetermined room'
        → ¬ Recoverable (rule_of c) t (suc i)
    not_by i below room room' (undetermined missing ws F) =
        unrecovered (rule_of c) (rule_byte c) n few files volumes nonempty in_range aside c size matches i below missing ws F
