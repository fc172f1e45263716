-- The test 21: a stretch of one of the two kinds, and an entry that the file may then have.
--
--   stretch_passes, stretch_tells    the test of the stretch, and what it tells
--   stretch_kind, no_kind            the same over a file's size: what it tells passed, and not passed
--   stretch_place                    the place is in the file as it now is, or at its end
--   ChangeTold, change_told          what test 21, passed, tells
--   change_passes                    and it passes where that holds
--   change_length                    the new entry is as long as the old one
-- Assumes nothing.
use mathlib.Core.Path.{◌≡◌, refl, sym, ap, ◌∙◌}
use mathlib.Core.Bool.{Bool, true, false, ◌&&◌, ◌||◌, or-true, false≢true}
use mathlib.Core.List.{List, [], ◌∷◌}
use Prim.Native.Nat.{ℕ, ◌+◌, ◌-◌, ◌≤◌}
use native.Mathlib.Omega.{arith}
use lib.Dec.{leb, eqb}
use lib.ListN.{length, length-drop}
use borrow.Author.Tests.{leb-true, le-leb, eqb-true, eq-eqb}
use Rattle.computed_tests.proofs.Tests.{and_both}
use Rattle.lent_bytes.specs.Equal.{equal}
use Rattle.lent_bytes.proofs.EqualLaws.{equal-same, equal_true}
use Rattle.entries.specs.Entry.{status_of, file_size_of, name_of}
use Rattle.amending.specs.Amending.{Change, Stretch, inside, on_end}
use Rattle.amending.specs.Call.{stretch_allowed, change_allowed}

-- ---- the stretch

or_tells : (a b : Bool) → (a || b) ≡ true → (P : Type 0) → (a ≡ true → P) → (b ≡ true → P) → P
or_tells true b e P f g = f refl
or_tells false b e P f g = g e

nil_of : (l : List ℕ) → length l ≡ 0 → l ≡ []
nil_of [] e = refl
nil_of (x ∷ l) e = absurd (omega arith)

module _ (m : List ℕ) (c : Change) where
  pub stretch_passes : Stretch m c → stretch_allowed (length m) c.place (length c.old) (length c.new) ≡ true
  stretch_passes (inside e h) = simp (eq-eqb _ _ e, le-leb _ _ h)
  stretch_passes (on_end e h) = simp (eq-eqb (length c.old) 0 (ap length e), eq-eqb _ _ h, or-true)

  pub stretch_tells : stretch_allowed (length m) c.place (length c.old) (length c.new) ≡ true → Stretch m c
  stretch_tells e =
      or_tells (eqb (length c.old) (length c.new) && leb (c.place + length c.old) (length m)) _ e (Stretch m c)
      (λ t. let both = and_both (eqb (length c.old) (length c.new)) _ t in inside (eqb-true _ _ both.0) (leb-true _ _ both.1))
      (λ t. let both = and_both (eqb (length c.old) 0) _ t in on_end (nil_of c.old (eqb-true _ _ both.0)) (eqb-true _ _ both.1))

module _ (size place old new : ℕ) where
  pub stretch_kind : stretch_allowed size place old new ≡ true → (old ≡ new → place + old ≤ size → ⊥) → (old ≡ 0 → place ≡ size → ⊥) → ⊥
  stretch_kind e no-inside no_end =
      or_tells (eqb old new && leb (place + old) size) _ e ⊥
      (λ t. let both = and_both (eqb old new) _ t in no-inside (eqb-true old new both.0) (leb-true (place + old) size both.1))
      (λ t. let both = and_both (eqb old 0) _ t in no_end (eqb-true old 0 both.0) (eqb-true place size both.1))

  pub no_kind : stretch_allowed size place old new ≡ false → (old ≡ new → place + old ≤ size → ⊥) × (old ≡ 0 → place ≡ size → ⊥)
  no_kind f = (
    λ e h. let t : stretch_allowed size place old new ≡ true = simp (eq-eqb old new e, le-leb (place + old) size h) in false≢true (sym f ∙ t),
    λ e h. let t : stretch_allowed size place old new ≡ true = simp (eq-eqb old 0 e, eq-eqb place size h, or-true) in false≢true (sym f ∙ t),
  )

pub stretch_place : (size place old new : ℕ) → stretch_allowed size place old new ≡ true → place ≤ size + (new - old)
stretch_place size place old new e =
    or_tells (eqb old new && leb (place + old) size) _ e (place ≤ size + (new - old))
    (λ t. let h = leb-true (place + old) size (and_both (eqb old new) _ t).1 in omega arith)
    (λ t. let h = eqb-true place size (and_both (eqb old 0) _ t).1 in omega arith)

-- ---- the test

module _ (place old new : ℕ) (e d : List ℕ) where
  pub record ChangeTold : Type 0 where
    pub stretch : stretch_allowed (file_size_of e) place old new ≡ true
    pub name : name_of d ≡ name_of e
    pub status : status_of d ≡ status_of e
    pub size : file_size_of d ≡ file_size_of e + (new - old)

  pub change_told : change_allowed place old new e d ≡ true → ChangeTold
  unfolding change_allowed
  change_told t = let stretch : Bool = stretch_allowed (file_size_of e) place old new in
      let one = and_both (stretch && equal (name_of d) (name_of e) && eqb (status_of d) (status_of e)) _ t in
      let two = and_both (stretch && equal (name_of d) (name_of e)) _ one.0 in
      let three = and_both stretch _ two.0 in
      record { stretch = three.0; name = equal_true _ _ three.1; status = eqb-true _ _ two.1; size = eqb-true _ _ one.1 }

  pub change_passes : ChangeTold → change_allowed place old new e d ≡ true
  unfolding change_allowed
  change_passes t = simp (t.stretch, equal-same t.name, eq-eqb _ _ t.status, eq-eqb _ _ t.size)

  pub change_length : ChangeTold → 56 ≤ length e → 56 ≤ length d → length d ≡ length e
  change_length t h k = omega (arith, ap length t.name, length-drop 56 d, length-drop 56 e)
