-- A test of each element, as the iterator's `all` makes it.
--
--   each_all     each is the list's all
-- Assumes nothing.
use mathlib.Core.Path.{◌≡◌, refl, ap}
use mathlib.Core.Bool.{Bool, ◌&&◌}
use mathlib.Core.List.{List, [], ◌∷◌}
use Rattle.std.specs.List.{list_all}
use Rattle.lent_bytes.specs.Each.{each}

pub each_all : {A : Type 0} (f : A → Bool) (xs : List A) → each f xs ≡ list_all f xs
each_all f [] = refl
each_all f (x ∷ xs) = ap (λ (b : Bool). f x && b) (each_all f xs)
