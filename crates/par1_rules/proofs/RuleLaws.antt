-- The rules that reading and writing share: what a test tells where it passed, and when it passes.
--
--   signature_is             the signature, as a number
--   version_passed, code_back, version_back, version_fits     the version of a code
--   code_versions            the claim
--   Between, between, long_enough, too_long     a right length, in numbers
--   number_range             a right volume number, and a right number of saved files
--   Laid, laid, not_laid, laid_out              a right layout, in numbers
-- A test of document 01 is passed where it does not hold.
-- Assumes nothing.
use mathlib.Core.Path.{◌≡◌, refl, sym, ap, ◌∙◌}
use mathlib.Core.Bool.{Bool, true, false, cond, ◌&&◌, ◌||◌}
use mathlib.Core.List.{List}
use mathlib.Core.Logic.{◌⊎◌, inl, inr}
use Prim.Native.Nat.{ℕ, ◌+◌, ◌^◌, ◌≤◌, ◌<◌}
use native.Mathlib.Omega.{arith}
use lib.Dec.{leb, eqb}
use borrow.Author.Tests.{leb-true, eqb-true, eq-eqb, le-leb, lt-leb}
use Rattle.computed_tests.proofs.Tests.{and_both}
use Rattle.codes.specs.declared.Code.{Code}
use Rattle.codes.specs.declared.Code.TheVariants.{Powers, Cauchy}
use Rattle.little_endian.specs.Bytes.{from_le}
use Rattle.refusals.specs.Limits.{max_volume_length, max_files}
use Rattle.par1_rules.specs.Claim.{CodeVersions}
use Rattle.par1_rules.specs.Layout.{signature, version_for, list_start_of, list_size_of, data_start_of, data_size_of}
use Rattle.par1_rules.specs.Rules.{length_allowed, version_allowed, code_in, layout_allowed, number_allowed}

-- ---- the signature

pub signature_is : signature ≡ 0x524150
unfolding signature from_le
signature_is = refl

-- ---- the version

pub version_passed : (c : Code) → version_allowed (version_for c) ≡ true
unfolding version_allowed
version_passed Powers = refl
version_passed Cauchy = refl

pub code_back : (c : Code) → code_in (version_for c) ≡ c
unfolding code_in
code_back Powers = refl
code_back Cauchy = refl

-- a version that is read is that of its code
pub version_back : (v : ℕ) → version_allowed v ≡ true → v ≡ version_for (code_in v)
unfolding version_allowed code_in
version_back v = by (eqb v 65536) refl
  where
    by : (b : Bool) → b ≡ eqb v 65536 → (b || eqb v 131328) ≡ true → v ≡ version_for (cond b Powers Cauchy)
    by true e h = eqb-true _ _ (sym e)
    by false e h = eqb-true _ _ h

pub version_fits : (c : Code) → version_for c < 2 ^ 32
version_fits Powers = omega arith
version_fits Cauchy = omega arith

either_version : (v : ℕ) → version_allowed v ≡ true → (v ≡ 65536) ⊎ (v ≡ 131328)
unfolding version_allowed
either_version v = by (eqb v 65536) refl
  where
    by : (b : Bool) → b ≡ eqb v 65536 → (b || eqb v 131328) ≡ true → (v ≡ 65536) ⊎ (v ≡ 131328)
    by true e h = inl (eqb-true _ _ (sym e))
    by false e h = inr (eqb-true _ _ h)

both_allowed : (v : ℕ) → (v ≡ 65536) ⊎ (v ≡ 131328) → version_allowed v ≡ true
both_allowed v (inl e) = ap version_allowed e ∙ version_passed Powers
both_allowed v (inr e) = ap version_allowed e ∙ version_passed Cauchy

pub code_versions : CodeVersions
code_versions = record {
  powers_version = (refl, code_back Powers);
  cauchy_version = (refl, code_back Cauchy);
  no_others = λ v. (either_version v, both_allowed v);
}

-- ---- the length

pub record Between (n : ℕ) : Type 0 where
  pub low : 96 ≤ n
  pub high : n ≤ max_volume_length

pub between : (n : ℕ) → length_allowed n ≡ true → Between n
unfolding length_allowed
between n e = let both = and_both (leb 96 n) (leb n max_volume_length) e in record { low = leb-true _ _ both.0; high = leb-true _ _ both.1 }

pub long_enough : (n : ℕ) → 96 ≤ n → n ≤ max_volume_length → length_allowed n ≡ true
unfolding length_allowed
long_enough n h k = simp (le-leb 96 n h, le-leb n max_volume_length k)

pub too_long : (n : ℕ) → max_volume_length < n → length_allowed n ≡ false
unfolding length_allowed
too_long n h = simp (le-leb 96 n (omega arith), lt-leb n max_volume_length h)

-- ---- the volume number

pub number_range : (v n : ℕ) → number_allowed v n ≡ true → (v ≤ 255) × (n ≤ max_files)
unfolding number_allowed
number_range v n e = let both = and_both (leb n max_files) (eqb v 0 || leb 1 n && leb (v + n) 255) e in
    (by (eqb v 0) refl both.1, leb-true n max_files both.0)
  where
    by : (b : Bool) → eqb v 0 ≡ b → (b || leb 1 n && leb (v + n) 255) ≡ true → v ≤ 255
    by true z e = omega (arith, eqb-true v 0 z)
    by false z e = omega (arith, leb-true (v + n) 255 (and_both (leb 1 n) (leb (v + n) 255) e).1)

-- ---- the layout

pub record Laid (head : List ℕ) (n : ℕ) : Type 0 where
  pub list_start : list_start_of head ≡ 96
  pub data_start_lem : data_start_of head ≡ 96 + list_size_of head
  pub data_end : data_start_of head + data_size_of head ≡ n

module _ (head : List ℕ) (n : ℕ) where
  pub laid : layout_allowed head n ≡ true → Laid head n
  unfolding layout_allowed
  laid e = let both = and_both (eqb (list_start_of head) 96 && eqb (data_start_of head) (96 + list_size_of head)) _ e in
      let starts = and_both (eqb (list_start_of head) 96) (eqb (data_start_of head) (96 + list_size_of head)) both.0 in
      record { list_start = eqb-true _ _ starts.0; data_start_lem = eqb-true _ _ starts.1; data_end = eqb-true _ _ both.1 }

  by_layout : (b : Bool) → b ≡ layout_allowed head n → (Laid head n → ⊥) → layout_allowed head n ≡ false
  by_layout true e h = absurd (h (laid (sym e)))
  by_layout false e h = sym e

  pub not_laid : (Laid head n → ⊥) → layout_allowed head n ≡ false
  not_laid = by_layout (layout_allowed head n) refl

  pub laid_out : Laid head n → layout_allowed head n ≡ true
  unfolding layout_allowed
  laid_out l = simp (eq-eqb _ _ l.list_start, eq-eqb _ _ l.data_start_lem, eq-eqb _ _ l.data_end)
