-- Which refusals tests one after another give.
--
--   AtMost n m r    the number of r is at most n, and its place at most m
--   Within m r      the same, of the refusals of reading
--   most_more       greater bounds
--   bare_most       a refusal without a place
--   test_most       a test gives its number, or what the further tests give
--   bare-within, or-within     a refusal of reading without a place, and one of two refusals
-- Assumes nothing.
use mathlib.Core.Bool.{Bool, true, false}
use Prim.Native.Nat.{ℕ, zero, suc, ◌≤◌}
use native.Mathlib.Omega.{arith}
use Rattle.refusals.specs.Tests.{bare, test, or_else}
use Rattle.refusals.specs.declared.Refusal.{Refusal}

pub record AtMost (n m : ℕ) (r : Refusal) : Type 0 where
  pub number_most : r.number ≤ n
  pub place_most : r.place ≤ m

abbrev pub Within : ℕ → Refusal → Type 0
Within m r = AtMost 19 m r

pub most_more : {n m k l : ℕ} {r : Refusal} → n ≤ k → m ≤ l → AtMost n m r → AtMost k l r
most_more h g w = record { number_most = omega (arith, w.number_most); place_most = omega (arith, w.place_most) }

pub bare_most : (n m k : ℕ) → k ≤ n → AtMost n m (bare k)
bare_most n m k h = record { number_most = h; place_most = omega arith }

pub test_most : (n : ℕ) (ok : Bool) (m : ℕ) → n ≤ 19 → m ≤ 19 → test n ok m ≤ 19
test_most n true m h k = k
test_most n false m h k = h

module _ (m : ℕ) where
  pub bare-within : (n : ℕ) → n ≤ 19 → Within m (bare n)
  bare-within n h = bare_most 19 m n h

  pub or-within : (n : ℕ) (r : Refusal) → n ≤ 19 → Within m r → Within m (or_else n r)
  or-within zero r h w = w
  or-within (suc n) r h w = bare-within (suc n) h
