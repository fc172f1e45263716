-- The numbers of n files.
--
--   is_file_in, is_file_inside   they are 1 to n
-- Assumes nothing.
use mathlib.Core.Path.{◌≡◌, ap₂}
use mathlib.Core.Bool.{Bool, true, ◌&&◌}
use Prim.Native.Nat.{ℕ, ◌<◌, ◌≤◌}
use lib.Dec.{leb}
use borrow.Author.Tests.{le-leb, leb-true}
use Rattle.computed_tests.proofs.Tests.{and_both}
use Rattle.parity.specs.Parity.{is_file}

pub is_file_in : (n f : ℕ) → 0 < f → f ≤ n → is_file n f ≡ true
is_file_in n f pos h = ap₂ (λ (a b : Bool). a && b) (le-leb 1 f pos) (le-leb f n h)

pub is_file_inside : (n f : ℕ) → is_file n f ≡ true → (0 < f) × (f ≤ n)
is_file_inside n f e = let both = and_both (leb 1 f) (leb f n) e in
    (leb-true 1 f both.0, leb-true f n both.1)
