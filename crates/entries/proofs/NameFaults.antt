-- Which names are refused (document 02, 2026-14).
--
--   unit_bad, bad_unit_refused     a unit is not allowed exactly where it is 0, 47, 58 or 92
--   each_fails, fails_each         a test on each unit fails exactly where it fails at one
--   units_bad, bad_units           the rule on units, one or more, fails exactly where they are unstorable
--   name_rule, names_refused       the claims
-- Assumes nothing.
use mathlib.Core.Path.{◌≡◌, refl, sym, ap, ◌∙◌}
use mathlib.Core.Bool.{Bool, true, false, not, ◌&&◌, ◌||◌, true≢false, and-false}
use mathlib.Core.List.{List, [], ◌∷◌}
use mathlib.Core.Logic.{inl, inr}
use Prim.Native.Nat.{ℕ, zero, suc, ◌%◌, ◌<◌}
use native.Mathlib.Decide.{ℕ_discrete}
use native.Mathlib.Omega.{arith}
use lib.ListN.{length, take, get_or, length-drop}
use lib.Seq.{length-take-le}
use borrow.Author.Tests.{ne_eqb, lt-leb}
use Rattle.lent_bytes.specs.Each.{each}
use Rattle.lent_bytes.specs.Equal.{equal}
use Rattle.lent_bytes.proofs.EqualLaws.{equal_true}
use Rattle.entries.specs.Claim.{Breaks, breaks_name, BadUnit, Unstorable, bad_unit, one_dot, two_dots}
use Rattle.entries.specs.Claim.{BadName, empty, odd, unstorable, NameRule, NamesRefused}
use Rattle.entries.specs.Entry.{entry_size, name_of, units_of, unit_allowed, units_allowed, is_dots, name_allowed}
use Rattle.entries.proofs.EntryLaws.{sized}
use Rattle.entries.proofs.NameLaws.{unit_last, name_units_lem, length_units}

-- ---- a unit

unit_bad : (u : ℕ) → unit_allowed u ≡ false → BadUnit u
unit_bad u e = elim (ℕ_discrete u 0) [
  | yes a ↦ inl a
  | no a ↦ elim (ℕ_discrete u 47) [
    | yes b ↦ inr (inl b)
    | no b ↦ elim (ℕ_discrete u 58) [
      | yes c ↦ inr (inr (inl c))
      | no c ↦ elim (ℕ_discrete u 92) [
        | yes d ↦ inr (inr (inr d))
        | no d ↦ absurd (true≢false (sym (unit_last u a b c ∙ ap not (ne_eqb u 92 d)) ∙ e))
      ]
    ]
  ]
]

bad_unit_refused : (u : ℕ) → BadUnit u → unit_allowed u ≡ false
unfolding unit_allowed
bad_unit_refused u (inl a) = ap unit_allowed a
bad_unit_refused u (inr (inl b)) = ap unit_allowed b
bad_unit_refused u (inr (inr (inl c))) = ap unit_allowed c
bad_unit_refused u (inr (inr (inr d))) = ap unit_allowed d

-- ---- the units of a name

module _ (f : ℕ → Bool) where
  -- a unit that fails
  record FailsAt (us : List ℕ) : Type 0 where
    place : ℕ
    within : place < length us
    fails : f (get_or us place 0) ≡ false

  each_fails : (us : List ℕ) → each f us ≡ false → FailsAt us
  each_fails [] e = absurd (true≢false e)
  each_fails (u ∷ us) e = by (f u) refl (λ z. each_fails us z) e
    where
      by : (b : Bool) → f u ≡ b → (each f us ≡ false → FailsAt us) → (b && each f us) ≡ false → FailsAt (u ∷ us)
      by false h later e = record { place = 0; within = omega arith; fails = h }
      by true h later e = let rest = later e in
          record { place = suc rest.place; within = omega (arith, rest.within); fails = rest.fails }

  fails_each : (us : List ℕ) (k : ℕ) → k < length us → f (get_or us k 0) ≡ false → each f us ≡ false
  fails_each [] k h e = absurd (omega arith)
  fails_each (u ∷ us) zero h e = simp e
  fails_each (u ∷ us) (suc k) h e = simp (fails_each us k (omega arith) e, and-false)

units_bad : (us : List ℕ) → (units_allowed us && not (is_dots us)) ≡ false → Unstorable us
unfolding is_dots
units_bad us e = by (units_allowed us) (equal us (46 ∷ [])) (equal us (46 ∷ 46 ∷ [])) refl refl refl e
  where
    by : (a b c : Bool) → units_allowed us ≡ a → equal us (46 ∷ []) ≡ b → equal us (46 ∷ 46 ∷ []) ≡ c → (a && not (b || c)) ≡ false
        → Unstorable us
    by false b c p q r e = let z = each_fails unit_allowed us p in bad_unit z.place z.within (unit_bad _ z.fails)
    by true true c p q r e = one_dot (equal_true us (46 ∷ []) q)
    by true false true p q r e = two_dots (equal_true us (46 ∷ 46 ∷ []) r)
    by true false false p q r e = absurd (true≢false e)

bad_units : (us : List ℕ) → Unstorable us → (units_allowed us && not (is_dots us)) ≡ false
unfolding unit_allowed is_dots equal
bad_units us (bad_unit k h b) = simp (fails_each unit_allowed us k h (bad_unit_refused _ b))
bad_units us (one_dot e) = ap (λ (l : List ℕ). units_allowed l && not (is_dots l)) e
bad_units us (two_dots e) = ap (λ (l : List ℕ). units_allowed l && not (is_dots l)) e

-- ---- the claims

no_name : (name : List ℕ) → length name < 2 → name_allowed name ≡ false
unfolding name_allowed
no_name name h = simp (lt-leb 2 (length name) h)

odd_name : (name : List ℕ) → length name % 2 ≡ 1 → name_allowed name ≡ false
unfolding name_allowed
odd_name name h = simp (ne_eqb (length name % 2) 0 (omega arith), and-false)

refused_name : (name : List ℕ) → name_allowed name ≡ false → BadName name
refused_name name e = elim (ℕ_discrete (length name) 0) [
  | yes none ↦ empty none
  | no some ↦ elim (ℕ_discrete (length name % 2) 1) [
    | yes half ↦ odd half
    | no whole ↦ unstorable (units_bad (units_of name) (sym (name_units_lem name (omega arith) (omega arith)) ∙ e))
  ]
]

-- a name of no unit has none that is bad, and is no dots
units_some : {us : List ℕ} → Unstorable us → 0 < length us
units_some (bad_unit k h b) = omega arith
units_some (one_dot e) = omega (arith, ap length e)
units_some (two_dots e) = omega (arith, ap length e)

bad_refused : (name : List ℕ) → BadName name → name_allowed name ≡ false
bad_refused name (empty e) = no_name name (omega arith)
bad_refused name (odd e) = odd_name name e
bad_refused name (unstorable u) = elim (ℕ_discrete (length name % 2) 1) [
  | yes half ↦ odd_name name half
  | no whole ↦
      name_units_lem name (omega (arith, length_units name, units_some u)) (omega arith) ∙ bad_units (units_of name) u
]

pub name_rule : NameRule
name_rule name = (refused_name name, bad_refused name)

pub names_refused : NamesRefused
names_refused s size file_size = let z = sized (entry_size s) (length s) size in
    let e : List ℕ = take (entry_size s) s in
    let long : length e ≡ entry_size s = length-take-le (entry_size s) s z.high in
    let units = name_units_lem (name_of e) (omega (arith, z.low, length-drop 56 e)) (omega (arith, z.low, z.even, length-drop 56 e)) in
    (λ b. units_bad (units_of (name_of e)) (sym units ∙ told b), λ u. breaks_name size file_size (units ∙ bad_units (units_of (name_of e)) u))
  where
    told : Breaks s 18 → name_allowed (name_of (take (entry_size s) s)) ≡ false
    told (breaks_name p q r) = r
