-- The lines of entries, one after another.
--
--   lines_more    the first entry's line, by its fields, and then those of the others
--   lines_append  the lines of entries in a row
--   line_numbered the line of an entry has its file number, as entries' `file_number` gives it
-- Assumes nothing.
use mathlib.Core.Path.{◌≡◌, refl, sym, ap, ap₂, ◌∙◌}
use mathlib.Core.List.{List, [], ◌∷◌, ◌++◌, append_assoc, map, flatten}
use mathlib.Core.Bool.{Bool, true, false, cond}
use Prim.Native.Nat.{ℕ, ◌+◌}
use native.Mathlib.Nat.{zero-add, add-zero}
use native.Mathlib.Omega.{arith}
use lib.ListN.{length, take, get_or}
use lib.Seq.{get_or-append_seam, take-append_seam}
use Rattle.entries.specs.Entry.{status_of, file_size_of, name_of, units_of, is_saved, saved_count}
use Rattle.entries.specs.Numbering.{saved_of, file_number}
use Rattle.text.specs.Ascii.{ascii}
use Rattle.text.specs.Decimal.{decimal, field}
use Rattle.listing.specs.Lines.{shown, label, line_of, entry_line, entry_lines}
use Rattle.listing.specs.Claim.{LineNumbered}

pub lines_more : (saved : ℕ) {es xs : List (List ℕ)} {e name : List ℕ} {status size more : ℕ} → es ≡ e ∷ xs → status ≡ status_of e
    → size ≡ file_size_of e → name ≡ name_of e → more ≡ saved_count status
    → entry_lines saved es ≡ line_of status (saved + more) size name ++ entry_lines (saved + more) xs
unfolding entry_lines
lines_more saved is status size name more = rw (is, more, status, size, name) refl

-- ---- numbers

saved_suc : (k : ℕ) (e : List ℕ) (es : List (List ℕ)) → k + saved_count (status_of e) + length (saved_of es) ≡ k + length (saved_of (e ∷ es))
saved_suc k e es = by (is_saved (status_of e))
  where
    by : (b : Bool) → k + cond b 1 0 + length (saved_of es) ≡ k + length (cond b (e ∷ saved_of es) (saved_of es))
    by true = omega arith
    by false = omega arith

lines_append : (k : ℕ) (es fs : List (List ℕ)) → entry_lines k (es ++ fs) ≡ entry_lines k es ++ entry_lines (k + length (saved_of es)) fs
unfolding entry_lines
lines_append k [] fs = ap (λ (n : ℕ). entry_lines n fs) (sym (add-zero k))
lines_append k (e ∷ es) fs = let n : ℕ = k + saved_count (status_of e) in
    ap (λ (l : List ℕ). entry_line n e ++ l) (lines_append n es fs ∙ ap (λ (m : ℕ). entry_lines n es ++ entry_lines m fs) (saved_suc k e es))
    ∙ sym (append_assoc (entry_line n e) (entry_lines n es) (entry_lines (k + length (saved_of (e ∷ es))) fs))

-- an entry that is not saved has no number, and its line shows none
line_number : (k : ℕ) (e : List ℕ) → entry_line (k + saved_count (status_of e)) e ≡ entry_line (cond (is_saved (status_of e)) (k + 1) 0) e
unfolding line_of label
line_number k e = by (is_saved (status_of e))
  where
    rest : List (List ℕ)
    rest = field (ascii " ") (file_size_of e) ∷ ascii " " ∷ map shown (units_of (name_of e)) ∷ (10 ∷ []) ∷ []

    by : (b : Bool)
        → flatten (cond b (decimal (k + cond b 1 0)) (ascii "-") ∷ rest) ≡ flatten (cond b (decimal (cond b (k + 1) 0)) (ascii "-") ∷ rest)
    by true = refl
    by false = refl

pub line_numbered : LineNumbered
unfolding entry_lines
line_numbered es e fs = let all : List (List ℕ) = es ++ e ∷ fs in
    let k : ℕ = length (saved_of es) in
    let at : get_or all (length es) [] ≡ e = get_or-append_seam es e fs [] in
    let before : take (length es) all ≡ es = take-append_seam es (e ∷ fs) in
    let number : cond (is_saved (status_of e)) (k + 1) 0 ≡ file_number all (length es) =
    ap₂ (λ (x : List ℕ) (ds : List (List ℕ)). cond (is_saved (status_of x)) (length (saved_of ds) + 1) 0) (sym at) (sym before) in
    let after : List ℕ = entry_lines (k + saved_count (status_of e)) fs in
    lines_append 0 es (e ∷ fs)
    ∙ ap (λ (n : ℕ). entry_lines 0 es ++ entry_lines n (e ∷ fs)) (zero-add k)
    ∙ ap (λ (l : List ℕ). entry_lines 0 es ++ (l ++ after)) (line_number k e ∙ ap (λ (n : ℕ). entry_line n e) number)
