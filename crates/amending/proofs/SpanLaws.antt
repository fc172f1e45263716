-- Where the entry of a file lies in its list, entry by entry.
--
--   place_here, place-next       the place of a saved one in a list of statuses, by the first of them
--   past n x                     the part x, with n bytes more before it
--   span_here, span_more, span_none     where the entry lies, by what is at the front of the list
-- Assumes nothing.
use mathlib.Core.Path.{◌≡◌, refl, sym, ap, ◌∙◌}
use mathlib.Core.Bool.{Bool, true, false, cond}
use mathlib.Core.List.{List, [], ◌∷◌, flatten}
use Prim.Native.Nat.{ℕ, zero, suc, ◌+◌, ◌-◌, ◌≤◌, ◌<◌}
use native.Mathlib.Omega.{arith}
use lib.ListN.{length, take, get_or, length-append}
use Rattle.entries.specs.Entry.{status_of, is_saved, saved_count}
use Rattle.amending.specs.Amending.{saved_place, statuses_of}
use Rattle.amending.specs.Plan.{span_in}
use Rattle.amending.specs.declared.finding.Span.{Span}

-- ---- the place in a list of statuses

place_here : (s : ℕ) (ss : List ℕ) (j : ℕ) → j < saved_count s → saved_place (s ∷ ss) j ≡ 0
place_here s ss zero h = by (is_saved s) h
  where
    by : (b : Bool) → 0 < cond b 1 0 → cond b 0 (suc (saved_place ss zero)) ≡ 0
    by true h = refl
    by false h = absurd (omega arith)
place_here s ss (suc j) h = by (is_saved s) h
  where
    by : (b : Bool) → suc j < cond b 1 0 → cond b (suc (saved_place ss j)) (suc (saved_place ss (suc j))) ≡ 0
    by true h = absurd (omega arith)
    by false h = absurd (omega arith)

place-next : (s : ℕ) (ss : List ℕ) (j : ℕ) → saved_count s ≤ j → saved_place (s ∷ ss) j ≡ suc (saved_place ss (j - saved_count s))
place-next s ss zero h = by (is_saved s) h
  where
    by : (b : Bool) → cond b 1 0 ≤ 0 → cond b 0 (suc (saved_place ss zero)) ≡ suc (saved_place ss (0 - cond b 1 0))
    by true h = absurd (omega arith)
    by false h = refl
place-next s ss (suc j) h = by (is_saved s)
  where
    by : (b : Bool) → cond b (suc (saved_place ss j)) (suc (saved_place ss (suc j))) ≡ suc (saved_place ss (suc j - cond b 1 0))
    by true = let n : suc j - 1 ≡ j = omega arith in ap (λ (i : ℕ). suc (saved_place ss i)) (sym n)
    by false = let n : suc j - 0 ≡ suc j = omega arith in ap (λ (i : ℕ). suc (saved_place ss i)) (sym n)

-- ---- the part of the list

abbrev pub past : ℕ → Span → Span
past n x = record { from = n + x.from; length = x.length }

abbrev span : ℕ → ℕ → Span
span from length = record { from = from; length = length }

-- the entry at place k
abbrev span_at : List (List ℕ) → ℕ → Span
span_at es k = span (length (flatten (take k es))) (length (get_or es k []))

module _ (e : List ℕ) (es : List (List ℕ)) (j : ℕ) where
  pub span_here : j < saved_count (status_of e) → span_in (e ∷ es) j ≡ span 0 (length e)
  unfolding flatten
  span_here h = ap (span_at (e ∷ es)) (place_here (status_of e) (statuses_of es) j h)

  pub span_more : saved_count (status_of e) ≤ j → span_in (e ∷ es) j ≡ past (length e) (span_in es (j - saved_count (status_of e)))
  unfolding flatten
  span_more h = let k : ℕ = saved_place (statuses_of es) (j - saved_count (status_of e)) in
      let size : length (flatten (take (suc k) (e ∷ es))) ≡ length e + length (flatten (take k es)) = length-append e (flatten (take k es)) in
      ap (span_at (e ∷ es)) (place-next (status_of e) (statuses_of es) j h) ∙ ap (λ (m : ℕ). span m (length (get_or es k []))) size

pub span_none : {es : List (List ℕ)} (j : ℕ) → es ≡ [] → span_in es j ≡ span 0 0
unfolding flatten
span_none j e = ap (λ (es : List (List ℕ)). span_in es j) e
