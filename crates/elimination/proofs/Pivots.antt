-- The pivot of a row: the first column without an owner in which it is not 0.
--
--   IsPivot w y owners k     k is the first such column below w, or w
--   pivot_is, pivot_only     `pivot_within` is a pivot, and the only one
--   pivot_found              what a search of a row and the owners side by side finds
--   pivot_same               two rows that agree below w
--   pivot_whole              `pivot_of` is that of 256 columns
--   pivot_none, pivot_some   a row that is solvable has none, any other has one
--   searched_row             a search of the row finds none where it is solvable
-- Assumes nothing.
use mathlib.Core.Path.{◌≡◌, refl, sym, ap, ◌∙◌, subst}
use mathlib.Core.Logic.{◌≢◌}
use mathlib.Core.Bool.{Bool, true, false, not, cond, ◌&&◌, true≢false}
use mathlib.Core.List.{List}
use Prim.Native.Nat.{ℕ, ◌<◌, ◌≤◌}
use native.Mathlib.Omega.{arith}
use native.Mathlib.Decide.{ℕ_discrete, dec_lt}
use lib.Dec.{eqb, ltb}
use lib.ListN.{length, get_or}
use borrow.Author.Tests.{eq-eqb, ne_eqb, lt-ltb, le-ltb, eqb-true, eqb-false, not-true}
use Rattle.std.specs.Prelude.{Option, Some, None, MatchOption, is_some}
use Rattle.std.specs.List.{zip, position, position_or_len}
use Rattle.std.proofs.lemmas.List.Sums.{position_or_len_is}
use Rattle.std.proofs.lemmas.Slice.Zip.{length-zip, get_or-zip}
use Rattle.computed_tests.proofs.Tests.{and_both}
use Rattle.computed_tests.proofs.Lists.{IsFirst, first_is, first_below-same}
use Rattle.elimination.specs.Reduction.{entry, pivot_of, pivot_within, is_solvable}

pub record IsPivot (w : ℕ) (y : ℕ → ℕ) (owners : List ℕ) (k : ℕ) : Type 0 where
  pub within : k ≤ w
  pub found : k < w → (get_or owners k 0 ≡ 0) × (y k ≢ 0)
  pub before : (j : ℕ) → j < k → get_or owners j 0 ≡ 0 → y j ≡ 0

-- the test of a column without an owner in which a row is not 0
passed : (o x : ℕ) → (eqb o 0 && not (eqb x 0)) ≡ true → (o ≡ 0) × (x ≢ 0)
passed o x e = let both = and_both (eqb o 0) (not (eqb x 0)) e in
    (eqb-true o 0 both.0, eqb-false x 0 (not-true (eqb x 0) both.1))

failed : (o x : ℕ) → (eqb o 0 && not (eqb x 0)) ≡ false → o ≡ 0 → x ≡ 0
failed o x e p = elim (ℕ_discrete x 0) [
  | yes z ↦ z
  | no q ↦
      absurd (true≢false (sym (ap (λ (b : Bool). eqb o 0 && not b) (ne_eqb x 0 q) ∙ ap (λ (b : Bool). b && true) (eq-eqb o 0 p)) ∙ e))
]

module _ (w : ℕ) (y : ℕ → ℕ) (owners : List ℕ) where
  pub pivot_is : IsPivot w y owners (pivot_within w y owners)
  unfolding pivot_within
  pivot_is =
      let F = first_is w (λ k. eqb (get_or owners k 0) 0 && not (eqb (y k) 0)) in record {
        within = F.within;
        found = λ l. passed _ _ (F.found l);
        before = λ j l o. failed _ _ (F.before j l) o;
      }

  not-before : (k l : ℕ) → IsPivot w y owners k → IsPivot w y owners l → k < l → ⊥
  not-before k l P Q b = let h = Q.within in
      let found = P.found (omega arith) in
      found.1 (Q.before k b found.0)

  pub pivot_only : (k : ℕ) → IsPivot w y owners k → k ≡ pivot_within w y owners
  pivot_only k P = omega (arith, not-before k (pivot_within w y owners) P pivot_is, not-before (pivot_within w y owners) k pivot_is P)

-- the search of two lists side by side
abbrev pub without_owner : ℕ × ℕ → Bool
without_owner p = eqb p.1 0 && not (eqb p.0 0)

pub pivot_found : (row owners : List ℕ) → length row ≤ length owners → (r : Option ℕ) → r ≡ position without_owner (zip row owners)
    → MatchOption r (length row ≤ pivot_within (length row) (λ j. get_or row j 0) owners)
    (λ k. (k < length row) × (k ≡ pivot_within (length row) (λ j. get_or row j 0) owners))
unfolding pivot_within
pivot_found row owners h r e = subst Says (sym (e ∙ ap answer at)) (go (dec_lt first (length row)))
  where
    F : IsFirst (length row) (λ k. eqb (get_or owners k 0) 0 && not (eqb (get_or row k 0) 0)) (pivot_within (length row) (λ j. get_or row j 0) owners)
    F = first_is (length row) (λ k. eqb (get_or owners k 0) 0 && not (eqb (get_or row k 0) 0))

    first : ℕ
    first = pivot_within (length row) (λ j. get_or row j 0) owners

    Says : Option ℕ → Type 0
    Says r = MatchOption r (length row ≤ first) (λ k. (k < length row) × (k ≡ first))

    long : length (zip row owners) ≡ length row
    long = length-zip row owners ∙ omega arith

    pair : (k : ℕ) → k < length row → get_or (zip row owners) k (0, 0) ≡ (get_or row k 0, get_or owners k 0)
    pair k l = get_or-zip row owners k (0, 0) l (omega arith)

    answer : ℕ → Option ℕ
    answer k = cond (ltb k (length (zip row owners))) (Some k) None

    at : position_or_len without_owner (zip row owners) ≡ first
    at = position_or_len_is without_owner (zip row owners) first (0, 0) (omega (arith, long, F.within))
        (λ k l. ap without_owner (pair k (omega (arith, F.within))) ∙ F.before k l)
        (λ l. ap without_owner (pair first (omega (arith, long))) ∙ F.found (omega (arith, long)))

    go : Dec (first < length row) → Says (answer first)
    go (yes l) = subst Says (sym (ap (λ (b : Bool). cond b (Some first) None) (lt-ltb first (length (zip row owners)) (omega (arith, long))))) (l, refl)
    go (no q) = subst Says (sym (ap (λ (b : Bool). cond b (Some first) None) (le-ltb first (length (zip row owners)) (omega (arith, long, q))))) (omega (arith, q))

pub pivot_same : (w : ℕ) (y z : ℕ → ℕ) (owners : List ℕ) → ((j : ℕ) → j < w → y j ≡ z j) → pivot_within w y owners ≡ pivot_within w z owners
unfolding pivot_within
pivot_same w y z owners h = first_below-same w _ _ (λ k l. ap (λ (x : ℕ). eqb (get_or owners k 0) 0 && not (eqb x 0)) (h k l))

pub pivot_whole : (y : ℕ → ℕ) (owners : List ℕ) → pivot_of y owners ≡ pivot_within 256 y owners
unfolding pivot_of pivot_within
pivot_whole y owners = refl

-- ---- of a row of the matrix

module _ (m owners : List ℕ) (f : ℕ) where
  P : IsPivot 256 (entry m f) owners (pivot_of (entry m f) owners)
  P = subst (IsPivot 256 (entry m f) owners) (sym (pivot_whole (entry m f) owners)) (pivot_is 256 (entry m f) owners)

  pub pivot_none : is_solvable m owners f ≡ true → IsPivot 256 (entry m f) owners 256
  unfolding is_solvable
  pivot_none e = subst (IsPivot 256 (entry m f) owners) (eqb-true _ 256 e) P

  pub pivot_some : is_solvable m owners f ≡ false → (k : ℕ) × (k < 256) × IsPivot 256 (entry m f) owners k
  unfolding is_solvable
  pivot_some e = let b = P.within in
      let q : pivot_of (entry m f) owners ≢ 256 = eqb-false _ 256 e in
      (pivot_of (entry m f) owners, omega arith, P)

  -- what `solvable` asks: whether a search of the row finds none
  pub searched_row : (row : List ℕ) → length owners ≡ 256 → length row ≡ 256 → ((j : ℕ) → j < 256 → get_or row j 0 ≡ entry m f j)
      → (r : Option ℕ) → r ≡ position without_owner (zip row owners) → (b : Bool) → is_some r ≡ not b → b ≡ is_solvable m owners f
  unfolding is_solvable
  searched_row row lo lr h r e = go r (subst Says here (pivot_found row owners (omega arith) r e))
    where
      here : pivot_within (length row) (λ j. get_or row j 0) owners ≡ pivot_of (entry m f) owners
      here = ap (λ (n : ℕ). pivot_within n (λ j. get_or row j 0) owners) lr ∙ pivot_same 256 (λ j. get_or row j 0) (entry m f) owners h ∙ sym (pivot_whole (entry m f) owners)

      Says : ℕ → Type 0
      Says p = MatchOption r (length row ≤ p) (λ k. (k < length row) × (k ≡ p))

      go : (r : Option ℕ) → MatchOption r (length row ≤ pivot_of (entry m f) owners) (λ k. (k < length row) × (k ≡ pivot_of (entry m f) owners))
          → (b : Bool) → is_some r ≡ not b → b ≡ eqb (pivot_of (entry m f) owners) 256
      go None p true t = let w = P.within in sym (eq-eqb _ 256 (omega arith))
      go None p false t = cc
      go (Some k) p true t = cc
      go (Some k) p false t = sym (ne_eqb _ 256 (λ z. omega arith))
