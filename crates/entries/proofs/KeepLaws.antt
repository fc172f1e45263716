-- The elements of a list that a test keeps, of entries or of anything else.
--
--   KeptAt f d xs k j   element k of xs is the one at place j among those that f keeps; d stands past the end
--   keep_at      an element that is kept stands, among those kept, after those of the elements before it
--   keep_same    two tests that agree on each element keep the same
--   keep-map     those kept of the images are the images of those kept
--   all_keep     what holds of each element holds of each that is kept
-- Assumes nothing.
use mathlib.Core.Path.{◌≡◌, refl, ap, ap₂, ◌∙◌}
use mathlib.Core.Bool.{Bool, true, false, cond}
use mathlib.Core.List.{List, [], ◌∷◌, map}
use Prim.Native.Nat.{ℕ, zero, suc, ◌<◌}
use native.Mathlib.Omega.{arith}
use lib.ListN.{length, take, get_or}
use Rattle.cut_lists.specs.All.{All, all_none, all_more}
use Rattle.entries.specs.Numbering.{keep}

module _ {A : Type 0} (f : A → Bool) (d : A) where
  -- element k of xs, which f keeps, stands at place j among those kept
  pub record KeptAt (xs : List A) (k j : ℕ) : Type 0 where
    pub element_is : get_or (keep f xs) j d ≡ get_or xs k d
    pub within : j < length (keep f xs)

  -- one element more in front
  kept_more : (b : Bool) (x : A) (xs ys : List A) (y : A)
      → get_or xs (length ys) d ≡ y → length ys < length xs
      → (get_or (cond b (x ∷ xs) xs) (length (cond b (x ∷ ys) ys)) d ≡ y) × (length (cond b (x ∷ ys) ys) < length (cond b (x ∷ xs) xs))
  kept_more true x xs ys y g h = (g, omega arith)
  kept_more false x xs ys y g h = (g, h)

  pub keep_at : (xs : List A) (k : ℕ) → k < length xs → f (get_or xs k d) ≡ true → KeptAt xs k (length (keep f (take k xs)))
  keep_at [] k h t = absurd (omega arith)
  keep_at (x ∷ xs) zero h t = record { element_is = simp t; within = simp t (omega arith) }
  keep_at (x ∷ xs) (suc k) h t = let r = keep_at xs k (omega arith) t in
      let m = kept_more (f x) x (keep f xs) (keep f (take k xs)) (get_or xs k d) r.element_is r.within in
      record { element_is = m.0; within = m.1 }

module _ {A : Type 0} where
  pub keep_same : {f g : A → Bool} {xs : List A} → All (λ x. f x ≡ g x) xs → keep f xs ≡ keep g xs
  keep_same all_none = refl
  keep_same (all_more {x} e es) = ap₂ (λ (b : Bool) (ys : List A). cond b (x ∷ ys) ys) e (keep_same es)

  pub all_keep : {P : A → Type 0} (f : A → Bool) {xs : List A} → All P xs → All P (keep f xs)
  all_keep f all_none = all_none
  all_keep {P} f (all_more {x} {xs} p ps) = by (f x) (all_keep f ps)
    where
      by : (b : Bool) → All P (keep f xs) → All P (cond b (x ∷ keep f xs) (keep f xs))
      by true r = all_more p r
      by false r = r

module _ {A B : Type 0} (f : B → Bool) (g : A → B) where
  -- one element more in front
  map_more : (b : Bool) (x : A) (xs : List A) → cond b (g x ∷ map g xs) (map g xs) ≡ map g (cond b (x ∷ xs) xs)
  map_more true x xs = refl
  map_more false x xs = refl

  pub keep-map : (xs : List A) → keep f (map g xs) ≡ map g (keep (λ x. f (g x)) xs)
  keep-map [] = refl
  keep-map (x ∷ xs) = ap (λ (ys : List B). cond (f (g x)) (g x ∷ ys) ys) (keep-map xs) ∙ map_more (f (g x)) x (keep (λ x. f (g x)) xs)
