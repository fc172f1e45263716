-- What shows each row of the table (proofs/Examples.antt tests the rows by it): for stated weights the files that show which volumes are used, for
-- a recoverable file the weights of the first volumes, for another one files that cancel.
-- Assumes nothing.
use mathlib.Core.List.{List, [], ◌∷◌}
use Prim.Native.Nat.{ℕ}

-- in the order of the table
unfoldable pub witnesses : List (List (List ℕ))
witnesses =
    [] ∷ [] ∷ [] ∷ [] ∷ [] ∷ [] ∷ [] ∷ []  -- P1 to P6
    ∷ ((1 ∷ []) ∷ (1 ∷ 2 ∷ []) ∷ [])  -- P7: 2
    ∷ ((1 ∷ []) ∷ (1 ∷ 2 ∷ []) ∷ [])  -- P7: 1
    ∷ ([] ∷ (2 ∷ []) ∷ [])  -- P8
    ∷ ((2 ∷ []) ∷ [] ∷ [])  -- P9
    ∷ ((7 ∷ 24 ∷ []) ∷ [])  -- P10: 7
    ∷ ((7 ∷ 24 ∷ []) ∷ [])  -- P10: 24
    ∷ ((36 ∷ 0 ∷ 0 ∷ 21 ∷ []) ∷ [])  -- P11: 5
    ∷ ((7 ∷ 24 ∷ []) ∷ [])  -- P11: 7
    ∷ ((7 ∷ 24 ∷ []) ∷ [])  -- P11: 24
    ∷ ((36 ∷ 0 ∷ 0 ∷ 21 ∷ []) ∷ [])  -- P12: 5
    ∷ ((236 ∷ 42 ∷ 0 ∷ 37 ∷ []) ∷ [])  -- P12: 7
    ∷ ((201 ∷ 42 ∷ 0 ∷ 48 ∷ []) ∷ [])  -- P12: 24
    ∷ []
