-- Sets of numbers of the model.
--
--   tests_same       tests that pass together are the same
--   insert_here, insert_other, insert_inside     a number more
--   remove_here, remove_inside                   a number less
--   Apart a b        no number is in both sets
--   apart-insert, apart-remove, apart_moved, apart_back     it stays so: a number more in a, one less in both, one moved to b, and back
-- Assumes nothing.
use mathlib.Core.Path.{◌≡◌, refl, sym, ap, ◌∙◌}
use mathlib.Core.Bool.{Bool, true, false, not, ◌&&◌, ◌||◌, and-false, false≢true}
use Prim.Native.Nat.{ℕ}
use lib.Dec.{eqb}
use borrow.Author.Tests.{eq-eqb, eqb-true}
use Rattle.computed_tests.proofs.Tests.{and_both}
use Rattle.inventory.specs.Model.{insert, remove}

pub tests_same : (a b : Bool) → (a ≡ true → b ≡ true) → (b ≡ true → a ≡ true) → a ≡ b
tests_same true b h k = sym (h refl)
tests_same false true h k = k refl
tests_same false false h k = refl

-- ---- a number more, a number less

pub insert_here : (s : ℕ → Bool) (f : ℕ) → insert f s f ≡ true
insert_here s f = ap (λ (b : Bool). b || s f) (eq-eqb f f refl)

pub insert_other : (s : ℕ → Bool) (f g : ℕ) → s g ≡ true → insert f s g ≡ true
insert_other s f g e = go (eqb g f)
  where
    go : (b : Bool) → (b || s g) ≡ true
    go true = refl
    go false = e

pub insert_inside : (s s' : ℕ → Bool) (f : ℕ) → s' f ≡ true → ((g : ℕ) → s g ≡ true → s' g ≡ true)
    → (g : ℕ) → insert f s g ≡ true → s' g ≡ true
insert_inside s s' f p h g e = go (eqb g f) refl e
  where
    go : (b : Bool) → eqb g f ≡ b → (b || s g) ≡ true → s' g ≡ true
    go true q r = ap s' (eqb-true g f q) ∙ p
    go false q r = h g r

pub remove_here : (s : ℕ → Bool) (f : ℕ) → remove f s f ≡ false
remove_here s f = ap (λ (b : Bool). not b && s f) (eq-eqb f f refl)

pub remove_inside : (s : ℕ → Bool) (f g : ℕ) → remove f s g ≡ true → s g ≡ true
remove_inside s f g e = (and_both (not (eqb g f)) (s g) e).1

-- ---- sets that share no number

abbrev pub Apart : (ℕ → Bool) → (ℕ → Bool) → Type 0
Apart a b = (k : ℕ) → a k ≡ true → b k ≡ false

module _ (a b : ℕ → Bool) (v : ℕ) (h : Apart a b) where
  pub apart-insert : b v ≡ false → Apart (insert v a) b
  apart-insert e k = go (eqb k v) refl
    where
      go : (t : Bool) → eqb k v ≡ t → (t || a k) ≡ true → b k ≡ false
      go true q r = ap b (eqb-true k v q) ∙ e
      go false q r = h k r

  pub apart-remove : Apart (remove v a) (remove v b)
  apart-remove k e = ap (λ (t : Bool). not (eqb k v) && t) (h k (remove_inside a v k e)) ∙ and-false (not (eqb k v))

  pub apart_moved : Apart (remove v a) (insert v b)
  apart_moved k = go (eqb k v)
    where
      go : (t : Bool) → (not t && a k) ≡ true → (t || b k) ≡ false
      go true r = absurd (false≢true r)
      go false r = h k r

  pub apart_back : Apart (insert v a) (remove v b)
  apart_back k = go (eqb k v)
    where
      go : (t : Bool) → (t || a k) ≡ true → (not t && b k) ≡ false
      go true r = refl
      go false r = h k r
