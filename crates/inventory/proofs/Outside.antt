-- Numbers out of range.
--
--   outside_exactly     a number fails the test of 1 to m exactly where it is outside
-- Assumes nothing.
use mathlib.Core.Path.{◌≡◌, sym, ◌∙◌}
use mathlib.Core.Logic.{◌↔◌, inl, inr}
use mathlib.Core.Bool.{false, false≢true}
use Prim.Native.Nat.{ℕ}
use native.Mathlib.Omega.{arith}
use native.Mathlib.Decide.{dec_lt}
use Rattle.computed_tests.specs.Numbers.{one_to}
use Rattle.computed_tests.proofs.Tests.{one_to_in, one_to_outside}
use Rattle.inventory.specs.Claim.{Outside}

pub outside_exactly : (m k : ℕ) → (one_to m k ≡ false) ↔ Outside m k
outside_exactly m k = (to, back)
  where
    to : one_to m k ≡ false → Outside m k
    to e =
        elim (dec_lt k 1) [
          | yes l ↦ inl l
          | no q ↦ elim (dec_lt m k) [
            | yes l ↦ inr l
            | no h ↦ absurd (false≢true (sym e ∙ one_to_in m k (omega arith) (omega arith)))
          ]
        ]

    back : Outside m k → one_to m k ≡ false
    back (inl l) = one_to_outside m k (λ a b. omega arith)
    back (inr l) = one_to_outside m k (λ a b. omega arith)
