-- Two lists whose elements are alike, place by place.
--
--   pairs_self     a list and itself
--   pairs_take     their first elements
--   count_same     they are as long as each other
--   kept_same      what is the same of each two elements is the same of those that a test keeps
-- Assumes nothing.
use mathlib.Core.Path.{◌≡◌, refl, ap, ap₂}
use mathlib.Core.Bool.{Bool, true, false, cond}
use mathlib.Core.List.{List, [], ◌∷◌, map}
use Prim.Native.Nat.{ℕ, zero, suc}
use lib.ListN.{length, take}
use Rattle.entries.specs.Numbering.{keep}
use Rattle.checked_mark.specs.Marks.{Pairs, pairs_none, pairs_more}

module _ {A : Type 0} {R : A → A → Type 0} where
  pub pairs_self : ((x : A) → R x x) → (xs : List A) → Pairs R xs xs
  pairs_self self [] = pairs_none
  pairs_self self (x ∷ xs) = pairs_more (self x) (pairs_self self xs)

  pub pairs_take : (k : ℕ) {xs ys : List A} → Pairs R xs ys → Pairs R (take k xs) (take k ys)
  pairs_take zero ps = pairs_none
  pairs_take (suc k) pairs_none = pairs_none
  pairs_take (suc k) (pairs_more r ps) = pairs_more r (pairs_take k ps)

  pub count_same : {xs ys : List A} → Pairs R xs ys → length xs ≡ length ys
  count_same pairs_none = refl
  count_same (pairs_more r ps) = ap suc (count_same ps)

  -- the test takes both elements or neither
  pub kept_same : {X : Type 0} (F : A → X) (t : A → Bool) → ((x y : A) → R x y → F x ≡ F y) → ((x y : A) → R x y → t x ≡ t y)
      → {xs ys : List A} → Pairs R xs ys → map F (keep t xs) ≡ map F (keep t ys)
  kept_same F t same test pairs_none = refl
  kept_same {X} F t same test (pairs_more {x} {y} {xs} {ys} r ps) = cc (by (t x) (kept_same F t same test ps), test x y r)
    where
      by : (b : Bool) → map F (keep t xs) ≡ map F (keep t ys)
          → map F (cond b (x ∷ keep t xs) (keep t xs)) ≡ map F (cond b (y ∷ keep t ys) (keep t ys))
      by true e = ap₂ (λ (z : X) (zs : List X). z ∷ zs) (same x y r) e
      by false e = e
