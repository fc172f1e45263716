-- The worked examples hold (specs/Examples.antt), by one test that antt computes.
--
--   passes e l       the test of a row, with lists of numbers that show it
--   passes_holds     a row that passes holds
--   examples_hold    each row of the table holds
-- Assumes nothing.
use mathlib.Core.Path.{◌≡◌, refl, ap₂}
use mathlib.Core.Bool.{Bool, true, false, ◌&&◌, false≢true}
use mathlib.Core.List.{List, [], ◌∷◌}
use Prim.Native.Nat.{ℕ, zero, suc}
use lib.Dec.{eqb}
use lib.ListN.{get_or}
use borrow.Author.Tests.{eqb-true}
use Rattle.computed_tests.specs.Lists.{list_below}
use Rattle.computed_tests.proofs.Tests.{and_both}
use Rattle.gf256.specs.Polynomial.{coeff, sum_below, poly_product, remainder}
use Rattle.gf256.specs.Field.{product, power}
use Rattle.parity.specs.Coefficient.{coefficient}
use Rattle.parity.specs.Parity.{greatest, parity_byte, parity}
use Rattle.worked_examples.specs.Examples.{contents_of, volume_of, two_files, Example, Holds, examples, ExamplesHold}
use Rattle.worked_examples.specs.Examples.Example.{numbers, weights, recoverable, undetermined}
use Rattle.worked_examples.proofs.Tests.{every}
use Rattle.worked_examples.proofs.Chosen.{cancels_at, used_by}
use Rattle.worked_examples.proofs.ListedStates.{of_volume, sums_at, solves, cancels, recoverable_by, undetermined_by}
use Rattle.worked_examples.proofs.StatedWeights.{file_holds, volume_holds, stated_by, stated_weights}
use Rattle.worked_examples.proofs.Witnesses.{witnesses}

unfoldable same : List ℕ → List ℕ → Bool
same [] [] = true
same [] (b ∷ m) = false
same (a ∷ l) [] = false
same (a ∷ l) (b ∷ m) = eqb a b && same l m

same-equal : (l m : List ℕ) → same l m ≡ true → l ≡ m
unfolding same
same-equal [] [] h = refl
same-equal [] (b ∷ m) h = absurd (false≢true h)
same-equal (a ∷ l) [] h = absurd (false≢true h)
same-equal (a ∷ l) (b ∷ m) h = let both = and_both (eqb a b) (same l m) h in
    ap₂ (λ (x : ℕ) (k : List ℕ). x ∷ k) (eqb-true a b both.0) (same-equal l m both.1)

-- ---- the test of a row

unfoldable passes : Example → List (List ℕ) → Bool
passes (numbers computed stated) ls = same computed stated
-- for each volume stated the files that show it is used, or none if its weight is 0
passes (weights missing volumes f start) ls = stated_by (two_files missing volumes) f start ls
-- the weights of the first volumes
passes (recoverable n missing volumes f) ls = solves n missing volumes f (get_or ls 0 [])
-- files that cancel in each volume present
passes (undetermined n missing volumes f) ls = cancels n missing volumes f (get_or ls 0 [])

passes_holds : (e : Example) (ls : List (List ℕ)) → passes e ls ≡ true → Holds e
unfolding passes
passes_holds (numbers computed stated) ls h = same-equal computed stated h
passes_holds (weights missing volumes f start) ls h = stated_weights (two_files missing volumes) f start ls h
passes_holds (recoverable n missing volumes f) ls h = recoverable_by n missing volumes f (get_or ls 0 []) h
passes_holds (undetermined n missing volumes f) ls h = undetermined_by n missing volumes f (get_or ls 0 []) h

-- ---- the table

all_pass : List Example → List (List (List ℕ)) → Bool
all_pass [] shown = true
all_pass (e ∷ l) [] = false
all_pass (e ∷ l) (ls ∷ shown) = passes e ls && all_pass l shown

row-holds : (l : List Example) (shown : List (List (List ℕ))) → all_pass l shown ≡ true → (k : ℕ)
    → Holds (get_or l k (numbers [] []))
unfolding all_pass
row-holds [] shown h k = refl
row-holds (e ∷ l) [] h k = absurd (false≢true h)
row-holds (e ∷ l) (ls ∷ shown) h zero = passes_holds e ls (and_both (passes e ls) (all_pass l shown) h).0
row-holds (e ∷ l) (ls ∷ shown) h (suc k) = row-holds l shown (and_both (passes e ls) (all_pass l shown) h).1 k

all_pass_lem : all_pass examples witnesses ≡ true
unfolding witnesses all_pass passes same stated_by every file_holds volume_holds used_by solves of_volume sums_at cancels cancels_at
    product power poly_product sum_below coeff remainder volume_of contents_of coefficient greatest list_below parity_byte parity
all_pass_lem = refl

pub examples_hold : ExamplesHold
examples_hold = row-holds examples witnesses all_pass_lem
