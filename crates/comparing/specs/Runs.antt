-- The runs of places at which two byte lists differ (document 02, 2026-06: "`data A B` for runs of data bytes, first and last place, from 0,
-- joined where they touch").
--
--   Run, run_of a b      a run: its first and its last place
--   differs a b p       whether a and b differ at place p, where one of them has it
--   with_place p rs      the place p before the runs rs, which begin after it
--   runs_from d k p      the runs of the places at which d holds, of k places from p on
--   runs_of a b          the runs of the places at which a and b differ
--   run_line r           the line on a run
--   run_lines a b        the lines on those of a and b
--   FirstFrom t n i r   r is the first place from i on at which t holds, n or more where there is none below n
-- Assumes nothing.
use Rattle.std.specs.Prelude.{ℕ, zero, suc, ◌≤◌, ◌<◌, max, ◌≡◌, Bool, true, false, cond, not, ◌&&◌, List, [], ◌∷◌, map, ltb, eqb, length, get_or}
use Rattle.comparing.specs.Lines.{Line, run}

pub record Run : Type 0 where
  pub first : ℕ
  pub last : ℕ

abbrev pub run_of : ℕ → ℕ → Run
run_of first last = record { first = first; last = last }

-- "Data that only one side has differs": a place is equal where both have it, and the same byte there
unfoldable pub differs : List ℕ → List ℕ → ℕ → Bool
differs a b p = not (ltb p (length a) && ltb p (length b) && eqb (get_or a p 0) (get_or b p 0))

-- "joined where they touch"
unfoldable pub with_place : ℕ → List Run → List Run
with_place p [] = run_of p p ∷ []
with_place p (r ∷ rs) = cond (eqb r.first (suc p)) (run_of p r.last ∷ rs) (run_of p p ∷ r ∷ rs)

unfoldable pub runs_from : (ℕ → Bool) → ℕ → ℕ → List Run
runs_from d zero p = []
runs_from d (suc k) p = let rest : List Run = runs_from d k (suc p) in cond (d p) (with_place p rest) rest

-- "first and last place, from 0"
unfoldable pub runs_of : List ℕ → List ℕ → List Run
runs_of a b = runs_from (differs a b) (max (length a) (length b)) 0

abbrev pub run_line : Run → Line
run_line r = run r.first r.last

-- "`data A B`"
unfoldable pub run_lines : List ℕ → List ℕ → List Line
run_lines a b = map (λ r. run_line r) (runs_of a b)

pub record FirstFrom (t : ℕ → Bool) (n i r : ℕ) : Type 0 where
  pub low : i ≤ r
  pub none_before : (p : ℕ) → p < r → i ≤ p → t p ≡ false
  pub found : r < n → t r ≡ true
