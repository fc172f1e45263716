-- A missing empty file is recoverable, and its weights are zeros.
--
--   weighted_zeros     weights of zero sum to 0
--   empty_weights      an empty file has weights of zero
--   empty_file         and is recoverable
-- Assumes nothing.
use mathlib.Core.Path.{◌≡◌, sym, ap, ◌∙◌}
use mathlib.Core.Bool.{Bool, false, not, cond, ◌&&◌, true≢false, and-false}
use mathlib.Core.List.{List}
use Prim.Native.Nat.{ℕ, suc, ◌-◌, ◌+◌}
use native.Mathlib.Omega.{arith}
use lib.Dec.{leb}
use lib.ListN.{replicate, length-replicate}
use borrow.Author.Tests.{ne_eqb}
use Rattle.gf256.specs.Field.{product}
use Rattle.gf256.proofs.Polynomials.{sum_below-same, sum_below-none}
use Rattle.gf256.proofs.Products.{product_zero_l}
use Rattle.parity.specs.Coefficient.{rule_of}
use Rattle.elimination.proofs.Reductions.{zeros_at}
use Rattle.recovery.specs.Recoverable.{State, column, place, weighted, IsWeights}
use Rattle.recovery.specs.Claim.{EmptyRecoverable}
use Rattle.recovery.proofs.Recovery.{empty_recoverable}

abbrev zeros : List ℕ
zeros = replicate 255 0

module _ (rule : ℕ → ℕ → ℕ) (t : State) where
  weighted_zeros : (g : ℕ) → weighted rule t zeros g ≡ 0
  unfolding weighted
  weighted_zeros g =
      sum_below-same (255 - t.n) (λ s. product (place zeros (t.n + suc s)) (rule g (suc s))) (λ s. 0)
      (λ s l. ap (λ (x : ℕ). product x (rule g (suc s))) (zeros_at 255 (t.n + suc s - 1)) ∙ product_zero_l (rule g (suc s)))
      ∙ sum_below-none (255 - t.n)

  empty_weights : (f : ℕ) → t.size f ≡ 0 → IsWeights rule t f zeros
  empty_weights f e = record {
    places = length-replicate {A = ℕ} 255 0;
    bytes = λ p. rw (zeros_at 255 p) (omega arith);
    columns = λ g l c.
        weighted_zeros g
        ∙ ap (λ (b : Bool). cond b 1 0) (sym (ne_eqb f g (λ z. true≢false (sym c ∙ ap (column t) (sym z) ∙ no_column))));
    of_files = λ g l h. zeros_at 255 (g - 1) ∙ sym (weighted_zeros g);
    of_unused = λ v l h. zeros_at 255 (t.n + v - 1);
    of_missing = λ g l h. zeros_at 255 (g - 1);
  }
    where
      no_column : column t f ≡ false
      no_column = ap (λ (k : ℕ). not (t.files f) && leb 1 k) e ∙ and-false (not (t.files f))

pub empty_file : EmptyRecoverable
empty_file t f l m e = (empty_recoverable (rule_of t.code) t f l e, empty_weights (rule_of t.code) t f e)
