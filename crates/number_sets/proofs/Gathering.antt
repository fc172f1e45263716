-- A set with the numbers more that pass a test.
--
--   gathered_none, gathered_more, gathered-same     by no number, by one that passes, by one that does not
--   gathered_words              it is four words of 64 bits
--   Gathers, gathered_from, gathered_in     its members are those of the set, and the numbers that pass
-- Assumes nothing.
use mathlib.Core.Path.{◌≡◌, refl, sym, ap, ◌∙◌}
use mathlib.Core.Logic.{◌⊎◌, inl, inr}
use mathlib.Core.Bool.{Bool, true, false, cond, ◌||◌, false≢true}
use mathlib.Core.List.{List}
use Prim.Native.Nat.{ℕ, zero, suc, ◌<◌, ◌+◌}
use native.Mathlib.Nat.{not-suc-le-zero}
use native.Mathlib.Numerals.{add-one}
use native.Mathlib.Omega.{arith}
use native.Mathlib.Decide.{ℕ_discrete}
use lib.Dec.{eqb}
use borrow.Author.Tests.{eq-eqb, eqb-true}
use Rattle.number_sets.specs.Sets.{member, inserted, gathered, Words}
use Rattle.number_sets.proofs.Words.{member-inserted, words_inserted}

module _ (ws : List ℕ) (number : ℕ → ℕ) (test : ℕ → Bool) where
  step : Bool → ℕ → List ℕ
  step b i = cond b (inserted (number i) (gathered ws number test i)) (gathered ws number test i)

  gathered_next : (i : ℕ) (b : Bool) → test i ≡ b → step b i ≡ gathered ws number test (i + 1)
  unfolding step gathered
  gathered_next i b e = sym (ap (λ (t : Bool). step t i) e) ∙ ap (gathered ws number test) (sym (add-one i))

  pub gathered_none : ws ≡ gathered ws number test 0
  unfolding gathered
  gathered_none = refl

  pub gathered_more : (i : ℕ) (set : List ℕ) → set ≡ gathered ws number test i → test i ≡ true
      → inserted (number i) set ≡ gathered ws number test (i + 1)
  unfolding step
  gathered_more i set e t = ap (inserted (number i)) e ∙ gathered_next i true t

  pub gathered-same : (i : ℕ) (set : List ℕ) → set ≡ gathered ws number test i → test i ≡ false → set ≡ gathered ws number test (i + 1)
  unfolding step
  gathered-same i set e t = e ∙ gathered_next i false t

  module _ (W : Words ws) where
    pub gathered_words : (m : ℕ) → Words (gathered ws number test m)
    unfolding gathered
    gathered_words zero = W
    gathered_words (suc i) = go (test i) (gathered_words i)
      where
        go : (b : Bool) → Words (gathered ws number test i)
            → Words (cond b (inserted (number i) (gathered ws number test i)) (gathered ws number test i))
        go true G = words_inserted (number i) (gathered ws number test i) G
        go false G = G

    abbrev pub Gathers : ℕ → ℕ → Type 0
    Gathers m k = (member ws k ≡ true) ⊎ ((i : ℕ) × (i < m) × (test i ≡ true) × (number i ≡ k))

    member-step : (i k : ℕ) → number i < 256
        → member (inserted (number i) (gathered ws number test i)) k ≡ (eqb k (number i) || member (gathered ws number test i) k)
    member-step i k l = member-inserted (gathered ws number test i) (number i) (gathered_words i).four l k

    pub gathered_from : (m k : ℕ) → ((i : ℕ) → i < m → number i < 256) → member (gathered ws number test m) k ≡ true → Gathers m k
    unfolding gathered
    gathered_from zero k bytes e = inl e
    gathered_from (suc m) k bytes e = go (test m) refl e (gathered_from m k (λ i l. bytes i (omega arith)))
      where
        later : Gathers m k → Gathers (suc m) k
        later (inl h) = inl h
        later (inr (i, l, t, z)) = inr (i, omega arith, t, z)

        new : (b : Bool) → eqb k (number m) ≡ b → test m ≡ true → (b || member (gathered ws number test m) k) ≡ true
            → (member (gathered ws number test m) k ≡ true → Gathers m k) → Gathers (suc m) k
        new true h t e rest = inr (m, omega arith, t, sym (eqb-true k (number m) h))
        new false h t e rest = later (rest e)

        go : (b : Bool) → test m ≡ b
            → member (cond b (inserted (number m) (gathered ws number test m)) (gathered ws number test m)) k ≡ true
            → (member (gathered ws number test m) k ≡ true → Gathers m k) → Gathers (suc m) k
        go true t e rest = new (eqb k (number m)) refl t (sym (member-step m k (bytes m (omega arith))) ∙ e) rest
        go false t e rest = later (rest e)

    pub gathered_in : (m k : ℕ) → ((i : ℕ) → i < m → number i < 256) → Gathers m k → member (gathered ws number test m) k ≡ true
    unfolding gathered
    gathered_in zero k bytes (inl e) = e
    gathered_in zero k bytes (inr (i, l, t, z)) = absurd (not-suc-le-zero l)
    gathered_in (suc m) k bytes G = go (test m) refl (gathered_in m k (λ i l. bytes i (omega arith))) G
      where
        or-true : (b : Bool) → (b || true) ≡ true
        or-true true = refl
        or-true false = refl

        Next : Bool → Type 0
        Next b = member (cond b (inserted (number m) (gathered ws number test m)) (gathered ws number test m)) k ≡ true

        kept : (b : Bool) → member (gathered ws number test m) k ≡ true → Next b
        kept true e = member-step m k (bytes m (omega arith)) ∙ ap (λ (b : Bool). eqb k (number m) || b) e ∙ or-true (eqb k (number m))
        kept false e = e

        here : (b : Bool) → b ≡ true → number m ≡ k → Next b
        here true y z =
            member-step m k (bytes m (omega arith))
            ∙ ap (λ (b : Bool). b || member (gathered ws number test m) k) (eq-eqb k (number m) (sym z))
        here false y z = absurd (false≢true y)

        go : (b : Bool) → test m ≡ b → (Gathers m k → member (gathered ws number test m) k ≡ true) → Gathers (suc m) k → Next b
        go b t rest (inl e) = kept b (rest (inl e))
        go b t rest (inr (i, l, ti, z)) = elim (ℕ_discrete i m) [
          | yes p ↦ here b (sym t ∙ ap test (sym p) ∙ ti) (ap number (sym p) ∙ z)
          | no q ↦ kept b (rest (inr (i, omega arith, ti, z)))
        ]
