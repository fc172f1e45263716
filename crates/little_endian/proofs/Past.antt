-- Places that stop at a last one.
--
--   at_min   where a function has one value from m on, its places may stop at m
-- Assumes nothing.
use mathlib.Core.Path.{◌≡◌, ap, ◌∙◌}
use Prim.Native.Nat.{ℕ, ◌≤◌, min}
use native.Mathlib.Decide.{dec_le}
use native.Mathlib.Nat.{min-eq_left, min-eq_right}
use native.Mathlib.Omega.{arith}

pub at_min : {B : Type 0} (f : ℕ → B) (i m : ℕ) → (m ≤ i → f m ≡ f i) → f (min i m) ≡ f i
at_min {B} f i m same = go (dec_le i m)
  where
    go : Dec (i ≤ m) → f (min i m) ≡ f i
    go (yes below) = ap f (min-eq_left below)
    go (no above) = let past : m ≤ i = omega arith in
        ap f (min-eq_right past) ∙ same past
