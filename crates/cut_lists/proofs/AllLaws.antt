-- What holds of each element of a list.
--
--   all_take    it holds of each of the first elements
--   all_map     what follows from it holds of each element too
--   all_at      it holds of the element at a place
--   all_set     it holds of each where one is replaced by another of which it holds
-- Assumes nothing.
use mathlib.Core.List.{List}
use Prim.Native.Nat.{ℕ, zero, suc, ◌<◌}
use native.Mathlib.Omega.{arith}
use lib.ListN.{length, take, get_or, set}
use Rattle.cut_lists.specs.All.{All, all_none, all_more}

module _ {A : Type 0} {P : A → Type 0} where
  pub all_take : (k : ℕ) {xs : List A} → All P xs → All P (take k xs)
  all_take zero ps = all_none
  all_take (suc k) all_none = all_none
  all_take (suc k) (all_more p ps) = all_more p (all_take k ps)

  pub all_map : {Q : A → Type 0} {xs : List A} → ((x : A) → P x → Q x) → All P xs → All Q xs
  all_map f all_none = all_none
  all_map f (all_more {x} p ps) = all_more (f x p) (all_map f ps)

  pub all_at : (d : A) {xs : List A} → All P xs → (k : ℕ) → k < length xs → P (get_or xs k d)
  all_at d all_none k h = absurd (omega arith)
  all_at d (all_more p ps) zero h = p
  all_at d (all_more p ps) (suc k) h = all_at d ps k (omega arith)

  pub all_set : {xs : List A} → All P xs → (k : ℕ) (y : A) → P y → All P (set xs k y)
  all_set all_none k y q = all_none
  all_set (all_more p ps) zero y q = all_more q ps
  all_set (all_more p ps) (suc k) y q = all_more p (all_set ps k y q)
