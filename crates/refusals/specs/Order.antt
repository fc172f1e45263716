-- Tests in an order (document 01, "What comes back": "in this order and returns the first that holds").
--
--   First P ks k     k is the first of the numbers ks whose test P holds
-- Assumes nothing.
use Rattle.std.specs.Prelude.{◌≡◌, List, [], ◌∷◌, ◌⊎◌, ℕ}

unfoldable pub First : (ℕ → Type 0) → List ℕ → ℕ → Type 0
First P [] k = ⊥
First P (j ∷ ks) k = (P j × (j ≡ k)) ⊎ ((P j → ⊥) × First P ks k)
