-- Weights stated by the list that they start with, the rest being 0: whether they are document 01's, by tests that antt computes.
--
--   sum_below_first    terms past the first m that are 0 may be left out
--   weighted_first    the weighted sum is that of the volumes stated
--   file_holds         the test of a file: its place, and its column
--   volume_holds       the test of a volume
--   stated_by          all of them
--   stated_weights    where they pass, the weights are those stated
-- Assumes nothing.
use mathlib.Core.Path.{◌≡◌, refl, sym, ap, ap₂, ◌∙◌}
use mathlib.Core.Bool.{Bool, true, false, not, cond, ◌&&◌, ◌||◌}
use mathlib.Core.List.{List, [], ◌∷◌, ◌++◌}
use Prim.Native.Nat.{ℕ, zero, suc, ◌<◌, ◌≤◌, ◌+◌, ◌-◌}
use native.Mathlib.Omega.{arith}
use native.Mathlib.Decide.{dec_le, dec_lt}
use lib.Bits.{bit_xor, xor_zero_r}
use lib.Dec.{eqb, ltb, leb}
use lib.ListN.{length, get_or, replicate, length-append, length-replicate, get_or-append}
use lib.Seq.{get_or-append-add}
use borrow.Author.Tests.{eqb-true, ltb-true, leb-true}
use Rattle.computed_tests.specs.Numbers.{all_below}
use Rattle.computed_tests.proofs.Tests.{and_both, all_at, one_to_inside}
use Rattle.gf256.specs.Polynomial.{sum_below}
use Rattle.gf256.specs.Field.{product}
use Rattle.gf256.proofs.Products.{product_zero_l}
use Rattle.parity.specs.Coefficient.{coefficient}
use Rattle.parity.specs.Parity.{is_file}
use Rattle.elimination.proofs.Reductions.{zeros_at}
use Rattle.recovery.specs.Recoverable.{State, is_volume, column, place, Used, weighted, IsWeights}
use Rattle.worked_examples.proofs.Tests.{every, every_at}
use Rattle.worked_examples.proofs.Chosen.{used_by, chosen_used}

sum_below_first : (m n : ℕ) (g : ℕ → ℕ) → m ≤ n → ((i : ℕ) → m ≤ i → g i ≡ 0) → sum_below n g ≡ sum_below m g
unfolding sum_below
sum_below_first m zero g l h = let e : 0 ≡ m = omega arith in ap (λ (k : ℕ). sum_below k g) e
sum_below_first m (suc n) g l h = elim (dec_le m n) [
  | yes b ↦ ap₂ bit_xor (sum_below_first m n g b h) (h n b) ∙ xor_zero_r (sum_below m g)
  | no b ↦ let e : suc n ≡ m = omega arith in ap (λ (k : ℕ). sum_below k g) e
]

module _ (t : State) (f : ℕ) (start : List ℕ) where
  abbrev w : List ℕ
  w = start ++ replicate (255 - length start) 0

  abbrev first_sum : ℕ → ℕ
  first_sum g = sum_below (length start - t.n) (λ s. product (place w (t.n + suc s)) (coefficient g (suc s)))

  -- the place of a file present is the weighted sum, of another 0; in a column the sum is 1 for file f, else 0
  unfoldable pub file_holds : ℕ → Bool
  file_holds g =
      eqb (place w g) (cond (t.files g) (first_sum g) 0)
      && (not (column t g) || eqb (first_sum g) (cond (eqb f g) 1 0))

  -- each volume stated is used, by its list of files in ls, or has weight 0
  unfoldable pub volume_holds : List (List ℕ) → ℕ → Bool
  volume_holds ls s = used_by t (get_or ls s []) s || eqb (get_or start (t.n + s) 0) 0

  -- the places stated are those of all files and of some volumes, they hold bytes, and the files and volumes pass
  unfoldable pub stated_by : List (List ℕ) → Bool
  stated_by ls =
      every (ltb t.n (length start) ∷ leb (length start) 255 ∷ all_below (length start) (λ p. ltb (get_or start p 0) 256)
      ∷ all_below t.n (λ i. file_holds (suc i)) ∷ all_below (length start - t.n) (volume_holds ls) ∷ [])

  volume_unused : t.n ≤ 254 → (ls : List (List ℕ)) (s : ℕ) → volume_holds ls s ≡ true → ¬ Used coefficient t (suc s)
      → get_or start (t.n + s) 0 ≡ 0
  unfolding volume_holds
  volume_unused fits ls s h q = go (used_by t (get_or ls s []) s) refl
    where
      go : (b : Bool) → used_by t (get_or ls s []) s ≡ b → get_or start (t.n + s) 0 ≡ 0
      go true e = absurd (q (chosen_used t fits (get_or ls s []) s e))
      go false e = eqb-true (get_or start (t.n + s) 0) 0 (sym (ap (λ (b : Bool). b || eqb (get_or start (t.n + s) 0) 0) e) ∙ h)

  module _ (n-fits : t.n ≤ length start) (fits : length start ≤ 255) where
    past_start : (p : ℕ) → length start ≤ p → get_or w p 0 ≡ 0
    past_start p l = let e : p ≡ length start + (p - length start) = omega arith in
        cc (get_or-append-add start (replicate (255 - length start) 0) (p - length start) 0, zeros_at (255 - length start) (p - length start))

    past_volume : (s : ℕ) → length start - t.n ≤ s → place w (t.n + suc s) ≡ 0
    past_volume s l = past_start (t.n + suc s - 1) (omega arith)

    weighted_first : (g : ℕ) → weighted coefficient t w g ≡ first_sum g
    unfolding weighted
    weighted_first g =
        sum_below_first (length start - t.n) (255 - t.n) (λ s. product (place w (t.n + suc s)) (coefficient g (suc s))) (omega arith)
        (λ s l. ap (λ (k : ℕ). product k (coefficient g (suc s))) (past_volume s l) ∙ product_zero_l (coefficient g (suc s)))

    module _ (bytes : all_below (length start) (λ p. ltb (get_or start p 0) 256) ≡ true)
        (files : all_below t.n (λ i. file_holds (suc i)) ≡ true)
        (unused : (s : ℕ) → s < length start - t.n → ¬ Used coefficient t (suc s) → get_or start (t.n + s) 0 ≡ 0) where
      at_file : (g : ℕ) → is_file t.n g ≡ true
          → (place w g ≡ cond (t.files g) (first_sum g) 0) × ((not (column t g) || eqb (first_sum g) (cond (eqb f g) 1 0)) ≡ true)
      unfolding file_holds
      at_file zero l = let b = one_to_inside t.n zero l in absurd (omega arith)
      at_file (suc i) l =
          let both = and_both (eqb (place w (suc i)) (cond (t.files (suc i)) (first_sum (suc i)) 0))
          (not (column t (suc i)) || eqb (first_sum (suc i)) (cond (eqb f (suc i)) 1 0))
          (all_at t.n (λ i. file_holds (suc i)) files i (one_to_inside t.n (suc i) l).1) in
          (eqb-true (place w (suc i)) (cond (t.files (suc i)) (first_sum (suc i)) 0) both.0, both.1)

      byte : (p : ℕ) → get_or w p 0 < 256
      byte p = elim (dec_lt p (length start)) [
        | yes l ↦
            let b = ltb-true (get_or start p 0) 256 (all_at (length start) (λ p. ltb (get_or start p 0) 256) bytes p l) in
            rw (get_or-append start (replicate (255 - length start) 0) 0 p l) b
        | no q ↦ let b = past_start p (omega arith) in omega arith
      ]

      at_volume : (v : ℕ) → is_volume t.n v ≡ true → ¬ Used coefficient t v → place w (t.n + v) ≡ 0
      at_volume zero l q = let b = one_to_inside (255 - t.n) zero l in absurd (omega arith)
      at_volume (suc s) l q = elim (dec_lt s (length start - t.n)) [
        | yes b ↦
            let e : t.n + suc s - 1 ≡ t.n + s = omega arith in
            ap (λ (k : ℕ). get_or w k 0) e
            ∙ get_or-append start (replicate (255 - length start) 0) 0 (t.n + s) (omega arith) ∙ unused s b q
        | no b ↦ past_volume s (omega arith)
      ]

      by_tests : IsWeights coefficient t f w
      by_tests = record {
        places = length-append start (replicate (255 - length start) 0)
            ∙ ap (λ (k : ℕ). length start + k) (length-replicate (255 - length start) 0) ∙ omega arith;
        bytes = byte;
        columns = λ g l e.
            weighted_first g
            ∙ eqb-true (first_sum g) (cond (eqb f g) 1 0)
            (sym (ap (λ (b : Bool). not b || eqb (first_sum g) (cond (eqb f g) 1 0)) e) ∙ (at_file g l).1);
        of_files = λ g l e.
            (at_file g l).0 ∙ ap (λ (b : Bool). cond b (first_sum g) 0) e ∙ sym (weighted_first g);
        of_unused = at_volume;
        of_missing = λ g l e. (at_file g l).0 ∙ ap (λ (b : Bool). cond b (first_sum g) 0) e;
      }

  pub stated_weights : (ls : List (List ℕ)) → stated_by ls ≡ true → IsWeights coefficient t f w
  unfolding stated_by
  stated_weights ls h = let at = every_at _ h in
      let above = ltb-true t.n (length start) (at 0) in
      let below = leb-true (length start) 255 (at 1) in
      by_tests (omega arith) below (at 2) (at 3)
      (λ s b q. volume_unused (omega arith) ls s (all_at (length start - t.n) (volume_holds ls) (at 4) s b) q)
