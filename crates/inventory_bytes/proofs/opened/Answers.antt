-- `inventory_bytes::opened` meets its contract.
-- Assumes nothing.
use mathlib.Core.Path.{◌≡◌, ap, ◌∙◌}
use Prim.Native.Nat.{ℕ}
use native.Mathlib.Omega.{arith}
use lib.ListN.{length, take, replicate, length-take}
use borrow.Author.Tests.{lt-leb, le-leb, eq-eqb, ne_eqb}
use Rattle.inventory.specs.Steps.{open_step, handed_back}
use Rattle.little_endian.specs.Bytes.{numbers_at}
use Rattle.inventory_bytes.specs.Inventories.{opened_by}
use Rattle.inventory_bytes.proofs.opened.Goals as goal

pub returns-then-count-gt-MOST_FILES : goal.returns-then-count-gt-MOST_FILES
unfolding opened_by
returns-then-count-gt-MOST_FILES c = simp (c.refused_opening.ensures, lt-leb _ _ c.if-count-gt-MOST_FILES.true)

pub returns-then-sizes-count : goal.returns-then-sizes-count
unfolding opened_by
returns-then-sizes-count c = simp (c.refused_opening-then-sizes-count.ensures, le-leb _ _ c.if-count-gt-MOST_FILES.false, ne_eqb _ _ c.if-sizes-count.true)

pub slice_bounds-opened_by-end : goal.slice_bounds-opened_by-end
slice_bounds-opened_by-end c = simp length-take (omega arith)

pub returns : goal.returns
unfolding opened_by
returns c = let a = c.args in let many : length (take a.n (replicate {A = ℕ} 254 0)) ≡ a.n = simp length-take (omega arith) in
    simp (le-leb _ _ c.if-count-gt-MOST_FILES.false, eq-eqb _ _ c.if-sizes-count.false)
    (c.opened_by.ensures ∙ ap (λ (k : ℕ). handed_back (open_step a.code a.n (numbers_at k a.sizes.now 0))) many)
