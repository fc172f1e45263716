-- The name rule, unit by unit, at a position of a name.
--
--   units_none, units_more   the units from a position on: none where less than a unit is left, else the unit there and the others
--   unit_last                the last test on a unit decides, where the others pass
--   length_units             how many units there are
--   dots_short, dots_long    of one or two units, only dots are "." or ".."; of more none are
--   name_units_lem               the rule on a name of whole units, one or more
-- Assumes nothing.
use mathlib.Core.Path.{◌≡◌, refl, ◌∙◌}
use mathlib.Core.Bool.{false, not, ◌&&◌, and-true, and-false, or-false}
use mathlib.Core.List.{List, [], ◌∷◌}
use Prim.Native.Nat.{ℕ, ◌+◌, ◌/◌, ◌%◌, ◌≤◌, ◌<◌}
use native.Mathlib.Nat.{add-zero}
use native.Mathlib.Omega.{arith}
use lib.Dec.{eqb}
use lib.ListN.{length, drop, length-drop}
use lib.Seq.{drop-drop}
use borrow.Author.Tests.{ne_eqb, eq-eqb, le-leb}
use Rattle.little_endian.specs.Bytes.{le_at}
use Rattle.little_endian.proofs.Reading.{le_at-drop}
use Rattle.lent_bytes.specs.Equal.{equal}
use Rattle.entries.specs.Entry.{units_of, unit_allowed, units_allowed, only_dots, is_dots, name_allowed}

pub units_short : (s : List ℕ) → length s < 2 → units_of s ≡ []
unfolding units_of
units_short [] h = refl
units_short (a ∷ []) h = refl
units_short (a ∷ b ∷ s) h = absurd (omega arith)

units_long : (s : List ℕ) → 2 ≤ length s → units_of s ≡ le_at 2 s 0 ∷ units_of (drop 2 s)
unfolding units_of
units_long [] h = absurd (omega arith)
units_long (a ∷ []) h = absurd (omega arith)
units_long (a ∷ b ∷ s) h = refl

pub unit_first : (s : List ℕ) {rest : List ℕ} {u : ℕ} → 2 ≤ length s → u ≡ le_at 2 s 0 → rest ≡ drop 2 s → units_of s ≡ u ∷ units_of rest
unit_first s long unit_is rest_is = cc (units_long s long)

module _ (s : List ℕ) (at : ℕ) where
  pub units_none : length s < at + 2 → units_of (drop at s) ≡ []
  units_none h = units_short (drop at s) (omega (arith, length-drop at s))

  pub units_more : at + 2 ≤ length s → units_of (drop at s) ≡ le_at 2 s at ∷ units_of (drop (at + 2) s)
  units_more h = units_long (drop at s) (omega (arith, length-drop at s)) ∙ rw (le_at-drop, add-zero, drop-drop)

pub unit_last : (u : ℕ) → (u ≡ 0 → ⊥) → (u ≡ 47 → ⊥) → (u ≡ 58 → ⊥) → unit_allowed u ≡ not (eqb u 92)
unfolding unit_allowed
unit_last u a b c = simp (ne_eqb u 0 a, ne_eqb u 47 b, ne_eqb u 58 c)

pub length_units : (s : List ℕ) → length (units_of s) ≡ length s / 2
unfolding units_of
length_units [] = refl
length_units (a ∷ []) = refl
length_units (a ∷ b ∷ s) = omega (arith, length_units s)

-- ---- "." and ".."

pub dots_short : (us : List ℕ) → 0 < length us → length us ≤ 2 → is_dots us ≡ only_dots us
unfolding is_dots equal
dots_short [] some few = absurd (omega arith)
dots_short (u ∷ []) some few = simp (and-true, and-false, or-false)
dots_short (u ∷ v ∷ []) some few = simp (and-true, and-false)
dots_short (u ∷ v ∷ w ∷ us) some few = absurd (omega arith)

pub dots_long : (us : List ℕ) → 2 < length us → is_dots us ≡ false
unfolding is_dots equal
dots_long [] many = absurd (omega arith)
dots_long (u ∷ []) many = absurd (omega arith)
dots_long (u ∷ v ∷ []) many = absurd (omega arith)
dots_long (u ∷ v ∷ w ∷ us) many = simp and-false

-- ---- a name

pub name_units_lem : (n : List ℕ) → 2 ≤ length n → length n % 2 ≡ 0
    → name_allowed n ≡ (units_allowed (units_of n) && not (is_dots (units_of n)))
unfolding name_allowed
name_units_lem n low even = simp (le-leb 2 (length n) low, eq-eqb (length n % 2) 0 even)
