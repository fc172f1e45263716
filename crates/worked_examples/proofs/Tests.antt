-- Tests of lists.
--
--   every, every_at           all tests of a list pass: each of them passes
--   all_listed, each-listed    a test passes at each number in a list: it passes at any that is listed
-- Assumes nothing.
use mathlib.Core.Path.{◌≡◌, refl, sym, ap, ◌∙◌}
use mathlib.Core.Bool.{Bool, true, ◌&&◌, ◌||◌, false≢true}
use mathlib.Core.List.{List, [], ◌∷◌}
use Prim.Native.Nat.{ℕ, zero, suc}
use native.Mathlib.Decide.{ℕ_discrete}
use lib.ListN.{get_or}
use borrow.Author.Tests.{ne_eqb}
use Rattle.computed_tests.proofs.Tests.{and_both}
use Rattle.worked_examples.specs.Examples.{listed}

unfoldable pub every : List Bool → Bool
every [] = true
every (b ∷ l) = b && every l

pub every_at : (l : List Bool) → every l ≡ true → (k : ℕ) → get_or l k true ≡ true
unfolding every
every_at [] h k = refl
every_at (b ∷ l) h zero = (and_both b (every l) h).0
every_at (b ∷ l) h (suc k) = every_at l (and_both b (every l) h).1 k

abbrev pub all_listed : (ℕ → Bool) → List ℕ → Bool
all_listed test [] = true
all_listed test (k ∷ l) = test k && all_listed test l

pub each-listed : (test : ℕ → Bool) (l : List ℕ) → all_listed test l ≡ true → (k : ℕ) → listed k l ≡ true → test k ≡ true
each-listed test [] h k e = absurd (false≢true e)
each-listed test (j ∷ l) h k e = let both = and_both (test j) (all_listed test l) h in
    elim (ℕ_discrete k j) [
      | yes q ↦ ap test q ∙ both.0
      | no q ↦ each-listed test l both.1 k (sym (ap (λ (b : Bool). b || listed k l) (ne_eqb k j q)) ∙ e)
    ]
