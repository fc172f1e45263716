-- What is promised of a row that is added within a width, over the definitions that the contract of add_row cites.
--
--   KeepsTo w u      the row u is 0 from w on
--   AddedWithin      within a width that the matrix and the row keep to, a row is added as it is without one; the identity keeps to every width,
--                    and so does the matrix after each such row
-- Assumes nothing.
use Rattle.std.specs.Prelude.{◌≡◌, List, ℕ, ◌<◌, ◌≤◌, get_or, replicate}
use Rattle.elimination.specs.Reduction.{with_diagonal, row_added, row_added_within, Apart}

abbrev pub KeepsTo : ℕ → List ℕ → Type 0
KeepsTo w u = (i : ℕ) → w ≤ i → i < 256 → get_or u i 0 ≡ 0

-- document 02, 2026-04: "Answers stay"; proved: proofs/Within.antt, `in_width`
pub record AddedWithin : Type 0 where
  pub at_first : (w : ℕ) → w ≤ 256 → Apart w (with_diagonal 256 (replicate 65536 0))
  pub added : (w : ℕ) → w ≤ 256 → (u m owners : List ℕ) → Apart w m → KeepsTo w u → (number : ℕ)
      → (row_added_within w u number m owners ≡ row_added u number m owners) × Apart w (row_added u number m owners).0
