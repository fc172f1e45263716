-- The worked example beside document 01's P10 and P11, and calls that lead to both cases.
--
--   beside_p10     two files of 24 come back by two volumes, and none of three does
--   both_reached   one file of one byte, with no volume, and with volume 1
-- Assumes nothing.
use mathlib.Core.Path.{◌≡◌, refl, ap}
use mathlib.Core.Bool.{Bool, true, false, not, ◌&&◌}
use mathlib.Core.List.{List, [], ◌∷◌}
use Prim.Native.Nat.{ℕ, ◌<◌, ◌≤◌}
use native.Mathlib.Omega.{arith}
use lib.Dec.{leb}
use borrow.Author.Tests.{le-leb}
use Rattle.codes.specs.declared.Code.TheVariants.{Cauchy}
use Rattle.parity.specs.Coefficient.{rule_of}
use Rattle.parity.specs.Parity.{is_file}
use Rattle.number_sets.specs.Sets.{size_below}
use Rattle.recovery.specs.Recoverable.{State, Recoverable}
use Rattle.inventory.specs.Model.{Call, change, add_volume, changed, number_of, next, after}
use Rattle.inventory.specs.Steps.{open_step}
use Rattle.inventory.specs.declared.Inventory.{Inventory}
use Rattle.inventory.proofs.Answered.{answered}
use Rattle.inventory.proofs.Sizes.{size_same}
use Rattle.worked_examples.specs.Examples.{listed, state_of, NoneEmpty}
use Rattle.cauchy_recovery.specs.Claim.{volumes_present, nonempty_missing, state_after, Reached, BothReached, by_two_volumes, BesideP10}
use Rattle.cauchy_recovery.proofs.AnyWillDo.{any_will_do}

-- where no file is empty, those listed are the missing ones of size 1 or more
missing_size : (n : ℕ) (size : ℕ → ℕ) → NoneEmpty n size → (missing volumes : List ℕ)
    → nonempty_missing (state_of Cauchy n size missing volumes) ≡ size_below 256 (λ g. is_file n g && listed g missing)
missing_size n size full missing volumes =
    size_same 256 (λ g. is_file n g && (not (not (listed g missing)) && leb 1 (size g))) (λ g. is_file n g && listed g missing)
    (λ g l. go g (is_file n g) refl (listed g missing))
  where
    go : (g : ℕ) (b : Bool) → is_file n g ≡ b → (c : Bool) → (b && (not (not c) && leb 1 (size g))) ≡ (b && c)
    go g true e true = le-leb 1 (size g) (full g e)
    go g true e false = refl
    go g false e c = refl

two_volumes : (missing : List ℕ) (size : ℕ → ℕ) → volumes_present (by_two_volumes missing size) ≡ 2
unfolding size_below
two_volumes missing size = refl

two_missing : size_below 256 (λ g. is_file 24 g && listed g (7 ∷ 24 ∷ [])) ≡ 2
unfolding size_below
two_missing = refl

three_missing : size_below 256 (λ g. is_file 24 g && listed g (5 ∷ 7 ∷ 24 ∷ [])) ≡ 3
unfolding size_below
three_missing = refl

module _ (size : ℕ → ℕ) (full : NoneEmpty 24 size) where
  abbrev two : State
  two = by_two_volumes (7 ∷ 24 ∷ []) size

  abbrev three : State
  three = by_two_volumes (5 ∷ 7 ∷ 24 ∷ []) size

  as_many : nonempty_missing two ≤ volumes_present two
  as_many = omega (arith, missing_size 24 size full (7 ∷ 24 ∷ []) (1 ∷ 4 ∷ []), two_missing, two_volumes (7 ∷ 24 ∷ []) size)

  fewer : volumes_present three < nonempty_missing three
  fewer = omega (arith, missing_size 24 size full (5 ∷ 7 ∷ 24 ∷ []) (1 ∷ 4 ∷ []), three_missing, two_volumes (5 ∷ 7 ∷ 24 ∷ []) size)

  back : (f : ℕ) → is_file 24 f ≡ true → listed f (7 ∷ 24 ∷ []) ≡ true → Recoverable (rule_of Cauchy) two f
  back f is_file_lem missing = any_will_do.enough two refl (omega arith) as_many f is_file_lem (ap not missing)

  gone : (f : ℕ) → is_file 24 f ≡ true → listed f (5 ∷ 7 ∷ 24 ∷ []) ≡ true → ¬ Recoverable (rule_of Cauchy) three f
  gone f is_file_lem missing = any_will_do.too_few three refl (omega arith) fewer f is_file_lem (ap not missing) (full f is_file_lem)

pub beside_p10 : BesideP10
beside_p10 = record {
  both = λ size full. (back size full 7 refl refl, back size full 24 refl refl);
  none = λ size full. (gone size full 5 refl refl, gone size full 7 refl refl, gone size full 24 refl refl);
}

-- ---- calls

some_run : (cs : List Call) → (s : Inventory) × Reached 1 (1 ∷ []) cs s
unfolding open_step
some_run cs = let (rs, s, run) = answered (open_step Cauchy 1 (1 ∷ [])).next cs in
    (s, record { accepted = refl; replies = rs; run = run })

few_volumes : volumes_present (state_after 1 (1 ∷ []) []) < nonempty_missing (state_after 1 (1 ∷ []) [])
unfolding after size_below
few_volumes = omega arith

many_volumes : nonempty_missing (state_after 1 (1 ∷ []) (change (add_volume Cauchy) 1 ∷ []))
    ≤ volumes_present (state_after 1 (1 ∷ []) (change (add_volume Cauchy) 1 ∷ []))
unfolding after next number_of changed size_below
many_volumes = omega arith

pub both_reached : BothReached
both_reached = record {
  few = ((some_run []).0, (some_run []).1, few_volumes);
  many = ((some_run (change (add_volume Cauchy) 1 ∷ [])).0, (some_run (change (add_volume Cauchy) 1 ∷ [])).1, many_volumes);
}
