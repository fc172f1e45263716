-- What a log begins with.
--
--   begins_decided                 whether a text begins with a line that passes a test
--   HasFirst log, first_decided    so with a first line
--   event_decided                  and with the line of an event
--   Events s, events_there         the events that a text begins with, and what is left
-- Assumes nothing.
use mathlib.Core.Path.{◌≡◌, refl, sym, ap, ◌∙◌, subst}
use mathlib.Core.Logic.{◌⊎◌, inl, inr, ◌≢◌}
use mathlib.Core.Bool.{Bool, true, false, true≢false}
use mathlib.Core.List.{List, [], ◌∷◌, ◌++◌, map, flatten, append_assoc}
use Prim.Native.Nat.{ℕ, zero, suc, ◌<◌}
use native.Mathlib.Nat.{not-suc-le-zero}
use native.Mathlib.Omega.{arith}
use native.Mathlib.Decide.{ℕ_discrete}
use lib.ListN.{length, take, drop, length-append}
use Rattle.text.specs.TextLines.{line_length}
use Rattle.replay.specs.Log.{body_of, is_first_line, is_event_line}
use Rattle.replay.specs.Lines.{spaced}
use Rattle.replay.specs.Claim.{Arrival, first_text, event_text, NoEvent, NoFirst}
use Rattle.replay.proofs.Shapes.{Without, first_shaped, event_shaped}
use Rattle.replay.proofs.Logs.{line_some, body_joined, begins, spaced_without, event_without}

module _ (test : List ℕ → Bool) (s : List ℕ) where
  abbrev Begins : Type 0
  Begins = (l r : List ℕ) × (test l ≡ true) × (s ≡ (l ++ (10 ∷ [])) ++ r)

  abbrev BeginsNot : Type 0
  BeginsNot = (l r : List ℕ) → Without 10 l → test l ≡ true → s ≢ (l ++ (10 ∷ [])) ++ r

  begins_decided : Begins ⊎ BeginsNot
  begins_decided =
      elim (ℕ_discrete (line_length s) 0) [
        | yes z ↦ inr (λ l r h t e. let some = subst (λ (x : List ℕ). 0 < line_length x) (sym e) (line_some l r h) in omega arith)
        | no q ↦ by (test (body_of (take (line_length s) s))) refl (omega (arith, q))
      ]
    where
      by : (b : Bool) → test (body_of (take (line_length s) s)) ≡ b → 0 < line_length s → Begins ⊎ BeginsNot
      by true t l = inl (body_of (take (line_length s) s), drop (line_length s) s, t, begins s l)
      by false t n =
          inr
          (λ l r h t' e.
          true≢false (sym t' ∙ ap test (sym (ap (λ (x : List ℕ). body_of (take (line_length x) x)) e ∙ body_joined l r h)) ∙ t))

abbrev pub HasFirst : List ℕ → Type 0
HasFirst log = (n : ℕ) × (sizes s : List ℕ) × (log ≡ first_text n sizes ++ s)

pub first_decided : (log : List ℕ) → HasFirst log ⊎ NoFirst log
first_decided log = by (begins_decided is_first_line log)
  where
    by : Begins is_first_line log ⊎ BeginsNot is_first_line log → HasFirst log ⊎ NoFirst log
    by (inl (l, r, t, e)) = let (n, sizes, z) = (first_shaped.exactly l).0 t in
        inl (n, sizes, r, e ∙ ap (λ (x : List ℕ). (x ++ (10 ∷ [])) ++ r) z)
    by (inr none) =
        inr (λ n sizes r. none (spaced (n ∷ sizes)) r (spaced_without n sizes) ((first_shaped.exactly (spaced (n ∷ sizes))).1 (n, sizes, refl)))

event_decided : (s : List ℕ) → ((e : Arrival × ℕ) × (r : List ℕ) × (s ≡ event_text e ++ r)) ⊎ NoEvent s
event_decided s = by (begins_decided is_event_line s)
  where
    by : Begins is_event_line s ⊎ BeginsNot is_event_line s → ((e : Arrival × ℕ) × (r : List ℕ) × (s ≡ event_text e ++ r)) ⊎ NoEvent s
    by (inl (l, r, t, e)) = let (a, k, z) = (event_shaped.exactly l).0 t in
        inl ((a, k), r, e ∙ ap (λ (x : List ℕ). (x ++ (10 ∷ [])) ++ r) z)
    by (inr none) = inr (λ (a, k) r. none _ r (event_without a k) ((event_shaped.exactly _).1 (a, k, refl)))

abbrev pub Events : List ℕ → Type 0
Events s = (es : List (Arrival × ℕ)) × (r : List ℕ) × (s ≡ flatten (map event_text es) ++ r) × NoEvent r

event_more : (e : Arrival × ℕ) (r s : List ℕ) → s ≡ event_text e ++ r → Events r → Events s
unfolding flatten
event_more e r s z (es, r', z', none) =
    (e ∷ es, r', z ∙ ap (λ (x : List ℕ). event_text e ++ x) z' ∙ sym (append_assoc (event_text e) (flatten (map event_text es)) r'), none)

pub events_there : (m : ℕ) (s : List ℕ) → length s < m → Events s
unfolding flatten
events_there zero s h = absurd (not-suc-le-zero h)
events_there (suc m) s h = by (event_decided s) (events_there m)
  where
    by : ((e : Arrival × ℕ) × (r : List ℕ) × (s ≡ event_text e ++ r)) ⊎ NoEvent s → ((r : List ℕ) → length r < m → Events r) → Events s
    by (inr none) more = ([], s, refl, none)
    by (inl (e, r, z)) more = event_more e r s z (more r (omega (arith, ap length z, length-append (event_text e) r)))
