-- What tests one after another tell.
--
--   test_passed    a test that passed, and what the further tests give
--   test_of        what a test gives, where what it was given is known
--   or_else_lem        a refusal that stands
--   or-none        none of two refusals
--   number_told, told_ok, told_err      what tests told that end at the first which does not pass
-- Assumes nothing.
use Rattle.std.specs.Prelude.{Ok, Err}
use mathlib.Core.Path.{◌≡◌, refl}
use mathlib.Core.Bool.{Bool, true, false}
use Prim.Native.Nat.{ℕ, zero, suc, ◌<◌}
use native.Mathlib.Omega.{arith}
use Rattle.refusals.specs.Tests.{bare, test, told, number_of, or_else}
use Rattle.refusals.specs.declared.Refusal.{Refusal}

pub test_passed : (n : ℕ) (ok : Bool) (m : ℕ) → 0 < n → test n ok m ≡ 0 → (ok ≡ true) × (m ≡ 0)
test_passed n true m h e = (refl, e)
test_passed n false m h e = absurd (omega arith)

pub test_of : (n : ℕ) {r m k : ℕ} {ok is : Bool} → r ≡ test n ok m → ok ≡ is → m ≡ k → r ≡ test n is k
test_of n e b f = cc

pub or_else_lem : (n : ℕ) (r : Refusal) → (n ≡ 0 → ⊥) → or_else n r ≡ bare n
or_else_lem zero r h = absurd (h refl)
or_else_lem (suc n) r h = refl

pub or-none : (n : ℕ) (r : Refusal) → (or_else n r).number ≡ 0 → (n ≡ 0) × (r.number ≡ 0)
or-none zero r e = (refl, e)
or-none (suc n) r e = absurd (omega arith)

pub number_told : (k : ℕ) → number_of (told k) ≡ k
number_told zero = refl
number_told (suc n) = refl

pub told_ok : (k : ℕ) → Ok tt ≡ told k → k ≡ 0
told_ok zero e = refl
told_ok (suc n) e = cc

pub told_err : (k : ℕ) {r : Refusal} → Err r ≡ told k → (r ≡ bare k) × (k ≡ 0 → ⊥)
told_err zero e = cc
told_err (suc n) e = (cc, λ z. omega arith)
