-- Which places lie in runs.
--
--   Covers p rs     the place p lies in one of the runs rs
--   runs_cover      in the runs of the places at which d holds, exactly these lie
--   lines_on rs      the lines on the runs rs
--   line_covers, in_run     the same of the lines on the runs
-- Assumes nothing.
use mathlib.Core.Path.{◌≡◌, refl, sym, ap, ◌∙◌}
use mathlib.Core.Bool.{Bool, true, false, cond, false≢true}
use mathlib.Core.List.Memᴰ
use mathlib.Core.List.{List, [], ◌∷◌, map, Memᴰ}
use mathlib.Core.Logic.{◌⊎◌, ◌↔◌, inl, inr, ⊎_elim}
use Prim.Native.Nat.{ℕ, zero, suc, ◌+◌, ◌≤◌, ◌<◌}
use native.Mathlib.Nat.{eq-or-lt_of_le}
use native.Mathlib.Omega.{arith}
use lib.Dec.{eqb}
use borrow.Author.Tests.{eqb-true}
use Rattle.comparing.specs.Claim.{InRun}
use Rattle.comparing.specs.Lines.{Line, run}
use Rattle.comparing.specs.Runs.{Run, run_of, run_line, with_place, runs_from}
use Rattle.comparing.proofs.RunLaws.{Apart, apart_none, apart_more, runs_apart}

pub data Covers (p : ℕ) : List Run → Type 0 where
  covers_first : {r : Run} {rs : List Run} → r.first ≤ p → p ≤ r.last → Covers p (r ∷ rs)
  covers_later : {r : Run} {rs : List Run} → Covers p rs → Covers p (r ∷ rs)

covers_cases : {p : ℕ} {r : Run} {rs : List Run} → Covers p (r ∷ rs) → ((r.first ≤ p) × (p ≤ r.last)) ⊎ Covers p rs
covers_cases (covers_first low high) = inl (low, high)
covers_cases (covers_later c) = inr c

covers_none : {p : ℕ} → Covers p [] → ⊥
covers_none c = elim c [ ]

-- ---- a place before runs

module _ (p q : ℕ) where
  with_covered : {rs : List Run} → Apart (suc q) rs → Covers p (with_place q rs) → (p ≡ q) ⊎ Covers p rs
  unfolding with_place
  with_covered apart_none c = ⊎_elim (λ h. inl (omega arith)) (λ c. inr c) (covers_cases c)
  with_covered (apart_more {r = r} {rs = rs} low right later) c = by (eqb r.first (suc q)) refl c
    where
      by : (b : Bool) → eqb r.first (suc q) ≡ b → Covers p (cond b (run_of q r.last ∷ rs) (run_of q q ∷ r ∷ rs))
          → (p ≡ q) ⊎ Covers p (r ∷ rs)
      by true e c = let touch = eqb-true r.first (suc q) e in
          ⊎_elim
          (λ h. ⊎_elim (λ z. inl (sym z)) (λ z. inr (covers_first (omega arith) h.1)) (eq-or-lt_of_le h.0))
          (λ c. inr (covers_later c)) (covers_cases c)
      by false e c = ⊎_elim (λ h. inl (omega arith)) (λ c. inr c) (covers_cases c)

  with_covers : {rs : List Run} → Apart (suc q) rs → (p ≡ q) ⊎ Covers p rs → Covers p (with_place q rs)
  unfolding with_place
  with_covers apart_none (inl e) = covers_first {r = run_of q q} (omega arith) (omega arith)
  with_covers apart_none (inr c) = absurd (covers_none c)
  with_covers (apart_more {r = r} {rs = rs} low right later) c = by (eqb r.first (suc q)) refl c
    where
      by : (b : Bool) → eqb r.first (suc q) ≡ b → (p ≡ q) ⊎ Covers p (r ∷ rs)
          → Covers p (cond b (run_of q r.last ∷ rs) (run_of q q ∷ r ∷ rs))
      by true e (inl z) = covers_first {r = run_of q r.last} (omega arith) (omega arith)
      by true e (inr c) = ⊎_elim (λ h. covers_first {r = run_of q r.last} (omega (arith, h.0)) h.1) (λ c. covers_later c) (covers_cases c)
      by false e (inl z) = covers_first {r = run_of q q} (omega arith) (omega arith)
      by false e (inr c) = covers_later c

-- ---- the runs of the places at which d holds

-- one of k places from i on, at which d holds
pub record Holds (d : ℕ → Bool) (k i p : ℕ) : Type 0 where
  pub low : i ≤ p
  pub high : p < i + k
  pub holds : d p ≡ true

module _ (d : ℕ → Bool) (p : ℕ) where
  covered_holds : (k i : ℕ) → Covers p (runs_from d k i) → Holds d k i p
  unfolding runs_from
  covered_holds zero i c = absurd (covers_none c)
  covered_holds (suc k) i c = by (d i) refl (covered_holds k (suc i)) c
    where
      rest : List Run
      rest = runs_from d k (suc i)

      later : Holds d k (suc i) p → Holds d (suc k) i p
      later h = record { low = omega (arith, h.low); high = omega (arith, h.high); holds = h.holds }

      by : (b : Bool) → d i ≡ b → (Covers p rest → Holds d k (suc i) p) → Covers p (cond b (with_place i rest) rest) → Holds d (suc k) i p
      by true e r c =
          ⊎_elim (λ z. record { low = omega arith; high = omega arith; holds = ap d z ∙ e }) (λ c. later (r c))
          (with_covered p i (runs_apart d k (suc i)) c)
      by false e r c = later (r c)

  holds_covered : (k i : ℕ) → Holds d k i p → Covers p (runs_from d k i)
  unfolding runs_from
  holds_covered zero i h = absurd (omega (arith, h.low, h.high))
  holds_covered (suc k) i h = by (d i) refl (holds_covered k (suc i)) (eq-or-lt_of_le h.low)
    where
      rest : List Run
      rest = runs_from d k (suc i)

      by : (b : Bool) → d i ≡ b → (Holds d k (suc i) p → Covers p rest) → (i ≡ p) ⊎ (i < p) → Covers p (cond b (with_place i rest) rest)
      by true e r (inl z) = with_covers p i (runs_apart d k (suc i)) (inl (sym z))
      by true e r (inr z) = with_covers p i (runs_apart d k (suc i)) (inr (r (record { low = z; high = omega (arith, h.high); holds = h.holds })))
      by false e r (inl z) = absurd (false≢true (sym e ∙ ap d z ∙ h.holds))
      by false e r (inr z) = r (record { low = z; high = omega (arith, h.high); holds = h.holds })

  pub runs_cover : (k i : ℕ) → Covers p (runs_from d k i) ↔ Holds d k i p
  runs_cover k i = (covered_holds k i, holds_covered k i)

-- ---- the lines

abbrev pub lines_on : List Run → List Line
lines_on rs = map (λ r. run_line r) rs

covers_line : {p : ℕ} {rs : List Run} → Covers p rs → InRun p (lines_on rs)
covers_line (covers_first {r = r} low high) = record { first = r.first; last = r.last; listed = Memᴰ.head refl; from = low; to = high }
covers_line (covers_later c) = let i = covers_line c in
    record { first = i.first; last = i.last; listed = Memᴰ.tail i.listed; from = i.from; to = i.to }

pub line_covers : {p a b : ℕ} (rs : List Run) → a ≤ p → p ≤ b → Memᴰ (run a b) (lines_on rs) → Covers p rs
line_covers [] low high m = absurd (Memᴰ.not-nil m)
line_covers {p} {a} {b} (r ∷ rs) low high m = by (line_covers rs low high) (Memᴰ.cases_cons m)
  where
    by : (Memᴰ (run a b) (lines_on rs) → Covers p rs) → (run a b ≡ run_line r) ⊎ Memᴰ (run a b) (lines_on rs) → Covers p (r ∷ rs)
    by later (inl e) = let first : a ≡ r.first = cc in
        let last : b ≡ r.last = cc in
        covers_first {r = r} (omega arith) (omega arith)
    by later (inr m) = covers_later (later m)

pub in_run : (p : ℕ) (rs : List Run) → InRun p (lines_on rs) ↔ Covers p rs
in_run p rs = (λ i. line_covers rs i.from i.to i.listed, covers_line)
