-- A list cut into pieces that say their length: the entries of a Par 1.0 list, the lines of a text, the words of a line.
--
--   Cut            the pieces of a list, in order, and the rest
--   none s         no piece, and the rest s
--   before p c     the piece p, then those of c
--   if_zero n a b   a where n is 0, else b
--   cut_in f n s    s cut by f into at most n pieces
--   cut f s        s cut by f, where f t is the length of the first piece of t, or 0 where t begins with no piece
-- Assumes nothing.
use Rattle.std.specs.Prelude.{ℕ, zero, suc, List, [], ◌∷◌, length, take, drop}

pub record Cut : Type 0 where
  pub pieces : List (List ℕ)
  pub rest : List ℕ

-- no piece
abbrev pub none : List ℕ → Cut
none s = record { pieces = []; rest = s }

-- one piece more, in front
abbrev pub before : List ℕ → Cut → Cut
before p c = record { pieces = p ∷ c.pieces; rest = c.rest }

-- a where n is 0, else b
abbrev pub if_zero : {A : Type 0} → ℕ → A → A → A
if_zero zero a b = a
if_zero (suc n) a b = b

-- at most n pieces
unfoldable pub cut_in : (List ℕ → ℕ) → ℕ → List ℕ → Cut
cut_in f zero s = none s
cut_in f (suc n) [] = none []
cut_in f (suc n) (b ∷ s) =
    let j : ℕ = f (b ∷ s) in if_zero j (none (b ∷ s)) (before (take j (b ∷ s)) (cut_in f n (drop j (b ∷ s))))

-- a piece has one element or more, so a list has no more pieces than elements
unfoldable pub cut : (List ℕ → ℕ) → List ℕ → Cut
cut f s = cut_in f (length s) s
