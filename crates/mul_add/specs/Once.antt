-- Numbers in any order, once each.
--
--   count k ks        how often k stands in ks
--   Once chosen ks    each number that is chosen stands in ks once, and no other does
-- Assumes nothing.
use Rattle.std.specs.Prelude.{◌≡◌, Bool, cond, List, [], ◌∷◌, ℕ, suc, eqb}

unfoldable pub count : ℕ → List ℕ → ℕ
count k [] = 0
count k (j ∷ ks) = cond (eqb k j) (suc (count k ks)) (count k ks)

-- "in any order, once each"
abbrev pub Once : (ℕ → Bool) → List ℕ → Type 0
Once chosen ks = (k : ℕ) → count k ks ≡ cond (chosen k) 1 0
