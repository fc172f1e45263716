-- Lists and searches by a rule, which the checker computes.
--
--   list_below m f     the list of f p for each p below m
--   first_below m t    the first number below m at which the test t passes, or m
-- Assumes nothing.
use Rattle.std.specs.Prelude.{Bool, cond, List, [], ◌∷◌, ℕ, zero, suc}

unfoldable pub list_below : ℕ → (ℕ → ℕ) → List ℕ
list_below zero f = []
list_below (suc m) f = f 0 ∷ list_below m (λ p. f (suc p))

unfoldable pub first_below : ℕ → (ℕ → Bool) → ℕ
first_below zero t = 0
first_below (suc m) t = cond (t 0) 0 (suc (first_below m (λ k. t (suc k))))
