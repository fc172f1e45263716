-- With Cauchy coefficients any volumes will do, if there are enough.
--
--   any_will_do      as many volumes as files of size 1 or more are missing give every missing file back, and fewer give none of those
-- Assumes nothing.
use mathlib.Core.Path.{◌≡◌, sym, ap, ap₂, ◌∙◌, subst}
use mathlib.Core.Bool.{Bool, true, false, not, ◌&&◌}
use Prim.Native.Nat.{ℕ, suc, ◌<◌, ◌≤◌, ◌-◌}
use native.Mathlib.Omega.{arith}
use native.Mathlib.Decide.{dec_lt}
use borrow.Author.Tests.{le-leb}
use Rattle.computed_tests.proofs.Tests.{one_to_inside}
use Rattle.codes.specs.declared.Code.{Code}
use Rattle.parity.specs.Coefficient.{rule_of}
use Rattle.parity.specs.Parity.{is_file}
use Rattle.cauchy.specs.Cauchy.{cauchy}
use Rattle.cauchy.proofs.Coefficients.{cauchy_byte}
use Rattle.recovery.specs.Recoverable.{State, column, Recoverable}
use Rattle.recovery.proofs.Recovery.{solution_recoverable, kernel_unrecoverable, empty_recoverable}
use Rattle.cauchy_recovery.specs.Claim.{volumes_present, nonempty_missing, AnyWillDo}
use Rattle.cauchy_recovery.proofs.CauchyStates.{solution, kernel}

module _ (t : State) (fits : t.n ≤ 254) (f : ℕ) (is_file_lem : is_file t.n f ≡ true) (missing : t.files f ≡ false) where
  -- file f is f - 1 and one
  as_suc : f ≡ suc (f - 1)
  as_suc = let l = one_to_inside t.n f is_file_lem in omega arith

  below : f - 1 < t.n
  below = let l = one_to_inside t.n f is_file_lem in omega arith

  is_column : 1 ≤ t.size f → column t (suc (f - 1)) ≡ true
  is_column l = ap (column t) (sym as_suc) ∙ ap₂ (λ (a b : Bool). not a && b) missing (le-leb 1 (t.size f) l)

  in_column_lem : 1 ≤ t.size f → (is_file t.n (suc (f - 1)) && column t (suc (f - 1))) ≡ true
  in_column_lem l = ap₂ (λ (a b : Bool). a && b) (ap (is_file t.n) (sym as_suc) ∙ is_file_lem) (is_column l)

  recovered : nonempty_missing t ≤ volumes_present t → Recoverable cauchy t f
  recovered enough = elim (dec_lt 0 (t.size f)) [
    | yes l ↦
        let s = solution t fits enough (f - 1) (in_column_lem l) in
        subst (Recoverable cauchy t) (sym as_suc) (solution_recoverable cauchy cauchy_byte t fits (f - 1) below s.0 s.1)
    | no q ↦ empty_recoverable cauchy t f is_file_lem (omega (arith, q))
  ]

  unrecovered : volumes_present t < nonempty_missing t → 1 ≤ t.size f → ¬ Recoverable cauchy t f
  unrecovered few l r = let k = kernel t fits few (f - 1) (in_column_lem l) in
      kernel_unrecoverable cauchy cauchy_byte t fits (f - 1) below (is_column l) k.0 k.1 (subst (Recoverable cauchy t) as_suc r)

pub any_will_do : AnyWillDo
any_will_do = record {
  enough = λ t code fits h f is_file_lem missing.
      subst (λ (c : Code). Recoverable (rule_of c) t f) (sym code) (recovered t fits f is_file_lem missing h);
  too_few = λ t code fits h f is_file_lem missing full back.
      unrecovered t fits f is_file_lem missing h full (subst (λ (c : Code). Recoverable (rule_of c) t f) code back);
}
