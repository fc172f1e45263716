-- cut, computed: by pieces whose first byte is their length.
-- Assumes nothing.
use mathlib.Core.Path.{◌≡◌, refl}
use mathlib.Core.List.{List, [], ◌∷◌}
use Prim.Native.Nat.{ℕ}
use lib.ListN.{get_or}
use Rattle.cut_lists.specs.Pieces.{none, cut, cut_in}

abbrev first_byte : List ℕ → ℕ
first_byte s = get_or s 0 0

-- two pieces, and a rest that begins with none
two_pieces : cut first_byte (2 ∷ 7 ∷ 3 ∷ 8 ∷ 9 ∷ 0 ∷ 5 ∷ [])
    ≡ record { pieces = (2 ∷ 7 ∷ []) ∷ (3 ∷ 8 ∷ 9 ∷ []) ∷ []; rest = 0 ∷ 5 ∷ [] }
unfolding cut cut_in
two_pieces = refl

no_piece : cut first_byte (0 ∷ 1 ∷ 1 ∷ []) ≡ none (0 ∷ 1 ∷ 1 ∷ [])
unfolding cut cut_in
no_piece = refl

no_rest : cut first_byte (1 ∷ 1 ∷ []) ≡ record { pieces = (1 ∷ []) ∷ (1 ∷ []) ∷ []; rest = [] }
unfolding cut cut_in
no_rest = refl
