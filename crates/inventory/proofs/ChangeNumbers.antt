-- The number of a change: as the model has it, and as a call works it out.
--
--   model_number         the two are the same
--   accepted_tests       an accepted change is in range, and adds no volume that is of the other code or quarantined
-- Assumes nothing.
use mathlib.Core.Path.{◌≡◌, refl, sym, ap, ◌∙◌}
use mathlib.Core.Bool.{Bool, true, false, not, cond, ◌||◌}
use Prim.Native.Nat.{ℕ}
use native.Mathlib.Omega.{arith}
use Rattle.codes.specs.Codes.{same}
use Rattle.parity.specs.Parity.{is_file}
use Rattle.recovery.specs.Recoverable.{State, is_volume}
use Rattle.inventory.specs.Model.{Change, add_file, remove_file, add_volume, remove_volume, quarantine, release, number_of}
use Rattle.inventory.specs.Steps.{in_range, of_other_code, while_quarantined, already, change_number}

missing : (b : Bool) → ◌≡◌ {A = ℕ} (cond b 0 11) (cond (not b) 11 0)
missing true = refl
missing false = refl

other : (b : Bool) (k : ℕ) → cond b k 29 ≡ cond (not b) 29 k
other true k = refl
other false k = refl

pub model_number : (t : State) (c : Change) (k : ℕ)
    → number_of t c k
    ≡ change_number (in_range c t.n k) (of_other_code c t.code) (while_quarantined c t.quarantined k)
    (already c t.files t.volumes t.quarantined k)
unfolding number_of in_range of_other_code while_quarantined already change_number
model_number t add_file f = refl
model_number t remove_file f = ap (λ (x : ℕ). cond (is_file t.n f) x 10) (missing (t.files f))
model_number t (add_volume c) v = ap (λ (x : ℕ). cond (is_volume t.n v) x 10) (other (same c t.code) (cond (t.quarantined v) 27 (cond (t.volumes v) 11 0)))
model_number t remove_volume v = ap (λ (x : ℕ). cond (is_volume t.n v) x 10) (missing (t.volumes v || t.quarantined v))
model_number t quarantine v = ap (λ (x : ℕ). cond (is_volume t.n v) x 10) (missing (t.volumes v))
model_number t release v = ap (λ (x : ℕ). cond (is_volume t.n v) x 10) (missing (t.quarantined v))

pub accepted_tests : (t : State) (c : Change) (k : ℕ) → number_of t c k ≡ 0
    → (in_range c t.n k ≡ true) × (of_other_code c t.code ≡ false) × (while_quarantined c t.quarantined k ≡ false)
unfolding change_number
accepted_tests t c k e =
    go (in_range c t.n k) (of_other_code c t.code) (while_quarantined c t.quarantined k)
    (already c t.files t.volumes t.quarantined k) (sym (model_number t c k) ∙ e)
  where
    go : (ranged other aside done : Bool) → change_number ranged other aside done ≡ 0 → (ranged ≡ true) × (other ≡ false) × (aside ≡ false)
    go true true aside done e = absurd (omega arith)
    go true false true done e = absurd (omega arith)
    go true false false done e = (refl, refl, refl)
    go false other aside done e = absurd (omega arith)
