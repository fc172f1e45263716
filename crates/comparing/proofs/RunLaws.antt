-- Runs of places.
--
--   Apart p rs       the runs rs begin at p or later, and are apart
--   runs_apart       runs from a place on are
--   skipped, joined  runs from a place on, where no place of some holds, and where all of some do
--   runs_next        the first run, from its first place and the first place after it at which nothing holds
--   runs_none        there is none where no place holds
-- Assumes nothing.
use mathlib.Core.Path.{◌≡◌, refl, sym, ap, ap₂, ◌∙◌}
use mathlib.Core.Bool.{Bool, true, false, not, cond, false≢true}
use mathlib.Core.List.{List, [], ◌∷◌}
use mathlib.Core.Logic.{◌⊎◌, inl, inr, ⊎_elim}
use Prim.Native.Nat.{ℕ, zero, suc, ◌+◌, ◌-◌, ◌≤◌, ◌<◌}
use native.Mathlib.Nat.{eq-or-lt_of_le}
use native.Mathlib.Omega.{arith}
use lib.Dec.{eqb}
use borrow.Author.Tests.{eqb-false, eq-eqb, ne_eqb, not-true, not-false}
use Rattle.comparing.specs.Runs.{Run, run_of, with_place, runs_from, FirstFrom}

-- ---- runs that are apart

-- the runs rs begin at p or later, each ends where it begins or later, and a place lies between two of them
pub data Apart : ℕ → List Run → Type 0 where
  apart_none : {p : ℕ} → Apart p []
  apart_more : {p : ℕ} {r : Run} {rs : List Run} → p ≤ r.first → r.first ≤ r.last → Apart (r.last + 2) rs → Apart p (r ∷ rs)

apart_less : (p : ℕ) {rs : List Run} → Apart (suc p) rs → Apart p rs
apart_less p apart_none = apart_none
apart_less p (apart_more {r = r} low right later) = apart_more {p = p} {r = r} (omega arith) right later

-- ---- a place before runs

-- "joined where they touch"
with_touching : (p q : ℕ) (rs : List Run) → with_place p (run_of (suc p) q ∷ rs) ≡ run_of p q ∷ rs
unfolding with_place
with_touching p q rs = simp (eq-eqb (suc p) (suc p) refl)

with_apart : (p : ℕ) {rs : List Run} → Apart (suc p) rs → Apart p (with_place p rs)
unfolding with_place
with_apart p apart_none = apart_more {p = p} {r = run_of p p} (omega arith) (omega arith) apart_none
with_apart p (apart_more {r = r} {rs = rs} low right later) = by (eqb r.first (suc p)) refl
  where
    by : (b : Bool) → eqb r.first (suc p) ≡ b → Apart p (cond b (run_of p r.last ∷ rs) (run_of p p ∷ r ∷ rs))
    by true e = apart_more {p = p} {r = run_of p r.last} (omega arith) (omega arith) later
    by false e = let other = eqb-false r.first (suc p) e in
        apart_more {p = p} {r = run_of p p} (omega arith) (omega arith) (apart_more {p = p + 2} {r = r} (omega arith) right later)

with_gap : (p : ℕ) {rs : List Run} → Apart (suc (suc p)) rs → with_place p rs ≡ run_of p p ∷ rs
unfolding with_place
with_gap p apart_none = refl
with_gap p (apart_more {r = r} low right later) = simp (ne_eqb r.first (suc p) (λ e. omega arith))

-- ---- runs from a place on

module _ (d : ℕ → Bool) where
  pub runs_apart : (k p : ℕ) → Apart p (runs_from d k p)
  unfolding runs_from
  runs_apart zero p = apart_none
  runs_apart (suc k) p = by (d p) (runs_apart k (suc p))
    where
      rest : List Run
      rest = runs_from d k (suc p)

      by : (b : Bool) → Apart (suc p) rest → Apart p (cond b (with_place p rest) rest)
      by true h = with_apart p h
      by false h = apart_less p h

  runs_skip : (k p : ℕ) → d p ≡ false → runs_from d (suc k) p ≡ runs_from d k (suc p)
  unfolding runs_from
  runs_skip k p e = simp e

  runs_with : (k p : ℕ) → d p ≡ true → runs_from d (suc k) p ≡ with_place p (runs_from d k (suc p))
  unfolding runs_from
  runs_with k p e = simp e

  -- j places at which nothing holds
  pub skipped : (j k p : ℕ) → ((q : ℕ) → q < p + j → p ≤ q → d q ≡ false) → runs_from d (j + k) p ≡ runs_from d k (p + j)
  skipped zero k p h = ap₂ (runs_from d) (omega arith) (omega arith)
  skipped (suc j) k p h = let more : suc j + k ≡ suc (j + k) = omega arith in
      let place : suc p + j ≡ p + suc j = omega arith in
      ap (λ (m : ℕ). runs_from d m p) more ∙ runs_skip (j + k) p (h p (omega arith) (omega arith))
      ∙ skipped j k (suc p) (λ q high low. h q (omega arith) (omega arith)) ∙ ap (runs_from d k) place

  -- the place after a run does not hold, or there is none
  after_run : (k p : ℕ) → (k ≡ 0) ⊎ (d (suc p) ≡ false) → Apart (suc (suc p)) (runs_from d k (suc p))
  unfolding runs_from
  after_run zero p h = apart_none
  after_run (suc k) p (inl z) = absurd (omega arith)
  after_run (suc k) p (inr e) = rw (runs_skip k (suc p) e) (runs_apart k (suc (suc p)))

  -- j + 1 places at which it holds
  pub joined : (j k p : ℕ) → ((q : ℕ) → q < p + suc j → p ≤ q → d q ≡ true) → (k ≡ 0) ⊎ (d (p + suc j) ≡ false)
      → runs_from d (suc j + k) p ≡ run_of p (p + j) ∷ runs_from d k (p + suc j)
  joined zero k p h e = let more : suc 0 + k ≡ suc k = omega arith in
      let here : p + 0 ≡ p = omega arith in
      let next : p + suc 0 ≡ suc p = omega arith in
      ap (λ (m : ℕ). runs_from d m p) more ∙ runs_with k p (h p (omega arith) (omega arith))
      ∙ with_gap p (after_run k p (rw next at e))
      ∙ ap₂ (λ (x y : ℕ). run_of p x ∷ runs_from d k y) (sym here) (sym next)
  joined (suc j) k p h e = let more : suc (suc j) + k ≡ suc (suc j + k) = omega arith in
      let last : suc p + j ≡ p + suc j = omega arith in
      let next : suc p + suc j ≡ p + suc (suc j) = omega arith in
      ap (λ (m : ℕ). runs_from d m p) more ∙ runs_with (suc j + k) p (h p (omega arith) (omega arith))
      ∙ ap (with_place p) (joined j k (suc p) (λ q high low. h q (omega arith) (omega arith)) (rw (sym next) at e))
      ∙ with_touching p (suc p + j) _
      ∙ ap₂ (λ (x y : ℕ). run_of p x ∷ runs_from d k y) last next

  -- ---- from what a scan finds

  module _ (n from : ℕ) {first : ℕ} (f : FirstFrom d n from first) where
    pub runs_none : n ≤ first → runs_from d (n - from) from ≡ []
    unfolding runs_from
    runs_none h = let all : n - from ≡ n - from + 0 = omega arith in
        ap (λ (m : ℕ). runs_from d m from) all
        ∙ skipped (n - from) 0 from (λ q high low. f.none_before q (omega arith) low)

    pub runs_next : {end : ℕ} → first < n → end ≤ n → FirstFrom (λ p. not (d p)) n first end
        → (first < end) × (runs_from d (n - from) from ≡ run_of first (end - 1) ∷ runs_from d (n - end) end)
    runs_next {end} below most g = by (eq-or-lt_of_le g.low)
      where
        -- the first place holds, so it is no end
        by : (first ≡ end) ⊎ (first < end)
            → (first < end) × (runs_from d (n - from) from ≡ run_of first (end - 1) ∷ runs_from d (n - end) end)
        by (inl e) = let here : not (d first) ≡ true = rw (sym e) at (g.found (omega arith)) in
            absurd (false≢true (sym (not-true (d first) here) ∙ f.found below))
        by (inr after) = let low = f.low in
            let all : n - from ≡ first - from + (n - first) = omega arith in
            let some : n - first ≡ suc (end - 1 - first) + (n - end) = omega arith in
            let start : from + (first - from) ≡ first = omega arith in
            let last : first + (end - 1 - first) ≡ end - 1 = omega arith in
            let next : first + suc (end - 1 - first) ≡ end = omega arith in (
              after,
              ap (λ (m : ℕ). runs_from d m from) all
                  ∙ skipped (first - from) (n - first) from (λ q high low. f.none_before q (omega arith) low)
                  ∙ ap₂ (runs_from d) some start
                  ∙ joined (end - 1 - first) (n - end) first (λ q high low. not-false (d q) (g.none_before q (omega arith) low)) (stops next)
                  ∙ ap₂ (λ (x y : ℕ). run_of first x ∷ runs_from d (n - end) y) last next,
            )
          where
            stops : first + suc (end - 1 - first) ≡ end → (n - end ≡ 0) ⊎ (d (first + suc (end - 1 - first)) ≡ false)
            stops next = ⊎_elim (λ e. inl (omega arith)) (λ h. inr (ap d next ∙ not-true (d end) (g.found h))) (eq-or-lt_of_le most)
