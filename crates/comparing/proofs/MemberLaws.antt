-- Elements of lists.
--
--   none_in              a list without elements is empty
--   mem_at               the element at a place is one
--   all_mem, mem_all     what holds of all elements, and of each
--   all_append, all_mapped     it holds of all elements of two lists, and of all images
--   pairwise_append, pairwise_mapped     so with what holds of each two elements
-- Assumes nothing.
use mathlib.Core.Path.{◌≡◌, refl, sym, subst}
use mathlib.Core.List.Memᴰ
use mathlib.Core.List.{List, [], ◌∷◌, ◌++◌, map, Memᴰ}
use mathlib.Core.Logic.{◌⊎◌, inl, inr}
use Prim.Native.Nat.{ℕ, zero, suc, ◌<◌}
use native.Mathlib.Omega.{arith}
use lib.ListN.{length, get_or}
use Rattle.cut_lists.specs.All.{All, all_none, all_more}
use Rattle.comparing.specs.Claim.{Pairwise, pairwise_none, pairwise_more}

module _ {A : Type 0} where
  pub none_in : (xs : List A) → ((x : A) → Memᴰ x xs → ⊥) → xs ≡ []
  none_in [] h = refl
  none_in (x ∷ xs) h = absurd (h x (Memᴰ.head refl))

  pub mem_at : (d : A) (xs : List A) (i : ℕ) → i < length xs → Memᴰ (get_or xs i d) xs
  mem_at d [] i h = absurd (omega arith)
  mem_at d (x ∷ xs) zero h = Memᴰ.head refl
  mem_at d (x ∷ xs) (suc i) h = Memᴰ.tail (mem_at d xs i (omega arith))

  pub all_mem : {P : A → Type 0} {xs : List A} {x : A} → All P xs → Memᴰ x xs → P x
  all_mem all_none m = absurd (Memᴰ.not-nil m)
  all_mem {P} {x = x} (all_more {x = y} {xs = ys} p ps) m = by (all_mem ps) (Memᴰ.cases_cons m)
    where
      by : (Memᴰ x ys → P x) → (x ≡ y) ⊎ Memᴰ x ys → P x
      by r (inl e) = subst P (sym e) p
      by r (inr m) = r m

  pub mem_all : {P : A → Type 0} (xs : List A) → ((x : A) → Memᴰ x xs → P x) → All P xs
  mem_all [] h = all_none
  mem_all (x ∷ xs) h = all_more (h x (Memᴰ.head refl)) (mem_all xs (λ y m. h y (Memᴰ.tail m)))

  pub all_append : {P : A → Type 0} {xs ys : List A} → All P xs → All P ys → All P (xs ++ ys)
  all_append all_none qs = qs
  all_append (all_more p ps) qs = all_more p (all_append ps qs)

  pub pairwise_append : {R : A → A → Type 0} {xs ys : List A} → Pairwise R xs → Pairwise R ys → All (λ x. All (R x) ys) xs
      → Pairwise R (xs ++ ys)
  pairwise_append pairwise_none qs all_none = qs
  pairwise_append (pairwise_more r ps) qs (all_more s rs) = pairwise_more (all_append r s) (pairwise_append ps qs rs)

module _ {A B : Type 0} (f : A → B) where
  pub all_mapped : {P : B → Type 0} {xs : List A} → All (λ x. P (f x)) xs → All P (map f xs)
  all_mapped all_none = all_none
  all_mapped (all_more p ps) = all_more p (all_mapped ps)

  pub pairwise_mapped : {R : B → B → Type 0} {xs : List A} → Pairwise (λ x y. R (f x) (f y)) xs → Pairwise R (map f xs)
  pairwise_mapped pairwise_none = pairwise_none
  pairwise_mapped (pairwise_more r ps) = pairwise_more (all_mapped r) (pairwise_mapped ps)
