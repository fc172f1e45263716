-- The entry of a file among the entries of its list.
--
--   place-within       a file that the list has stands at a place in it
--   part_of_entries    an entry is a part of the entries, joined
--   from_within        it starts in them
--   split_entries, set_joined      the entries around it, and another in its place
-- Assumes nothing.
use mathlib.Core.Path.{◌≡◌, refl, sym, ap, ◌∙◌}
use mathlib.Core.Bool.{Bool, true, false, cond}
use mathlib.Core.List.{List, [], ◌∷◌, ◌++◌, append-nil, flatten}
use Prim.Native.Nat.{ℕ, zero, suc, ◌≤◌, ◌<◌}
use native.Mathlib.Omega.{arith}
use lib.ListN.{length, take, drop, get_or, set, length-append, take-append-drop}
use lib.Seq.{take-append_seam, drop-append-add, split_at, set_split}
use Rattle.lent_bytes.proofs.PartsInRow.{flatten-append}
use Rattle.entries.specs.Entry.{status_of, is_saved}
use Rattle.entries.specs.Numbering.{saved_of}
use Rattle.amending.specs.Amending.{saved_place, statuses_of}

pub place-within : (es : List (List ℕ)) (j : ℕ) → j < length (saved_of es) → saved_place (statuses_of es) j < length es
place-within [] j h = absurd (omega arith)
place-within (e ∷ es) zero h = by (is_saved (status_of e)) h (λ l. place-within es zero l)
  where
    by : (b : Bool) → 0 < length (cond b (e ∷ saved_of es) (saved_of es))
        → (0 < length (saved_of es) → saved_place (statuses_of es) zero < length es)
        → cond b 0 (suc (saved_place (statuses_of es) zero)) < suc (length es)
    by true h r = omega arith
    by false h r = omega (arith, r h)
place-within (e ∷ es) (suc j) h = by (is_saved (status_of e)) h (λ l. place-within es j l) (λ l. place-within es (suc j) l)
  where
    by : (b : Bool) → suc j < length (cond b (e ∷ saved_of es) (saved_of es))
        → (j < length (saved_of es) → saved_place (statuses_of es) j < length es)
        → (suc j < length (saved_of es) → saved_place (statuses_of es) (suc j) < length es)
        → cond b (suc (saved_place (statuses_of es) j)) (suc (saved_place (statuses_of es) (suc j))) < suc (length es)
    by true h r q = omega (arith, r (omega arith))
    by false h r q = omega (arith, q h)

pub part_of_entries : (es : List (List ℕ)) (k : ℕ)
    → take (length (get_or es k [])) (drop (length (flatten (take k es))) (flatten es)) ≡ get_or es k []
unfolding flatten
part_of_entries [] k = refl
part_of_entries (e ∷ es) zero = take-append_seam e (flatten es)
part_of_entries (e ∷ es) (suc k) =
    ap (take (length (get_or es k [])))
    (ap (λ (n : ℕ). drop n (e ++ flatten es)) (length-append e (flatten (take k es))) ∙ drop-append-add e (flatten es) (length (flatten (take k es))))
    ∙ part_of_entries es k

pub from_within : (es : List (List ℕ)) (k : ℕ) → length (flatten (take k es)) ≤ length (flatten es)
from_within es k =
    let whole : flatten es ≡ flatten (take k es) ++ flatten (drop k es) =
    ap flatten (sym (take-append-drop k es)) ∙ flatten-append (take k es) (drop k es) in
    omega (arith, ap length whole, length-append (flatten (take k es)) (flatten (drop k es)))

module _ (es : List (List ℕ)) (k : ℕ) (h : k < length es) where
  abbrev around : List ℕ → List ℕ
  around e = flatten (flatten (take k es) ∷ e ∷ flatten (drop (suc k) es) ∷ [])

  joined : (e : List ℕ) → flatten (take k es ++ (e ∷ drop (suc k) es)) ≡ around e
  unfolding flatten
  joined e =
      flatten-append (take k es) (e ∷ drop (suc k) es)
      ∙ ap (λ (l : List ℕ). flatten (take k es) ++ (e ++ l)) (sym (append-nil (flatten (drop (suc k) es))))

  pub split_entries : flatten es ≡ around (get_or es k [])
  split_entries = ap flatten (split_at es k [] h) ∙ joined (get_or es k [])

  pub set_joined : (d : List ℕ) → flatten (set es k d) ≡ around d
  set_joined d = ap flatten (set_split es k d h) ∙ joined d
