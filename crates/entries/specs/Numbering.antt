-- The saved entries of a list, and their file numbers (document 01: "Files are numbered 1 to n over the saved entries only, in list
-- order; entries not saved have no number").
--
--   keep f xs          the elements xs of which f is true, in order
--   saved_of es         the saved ones of the entries es
--   file_number es k    the file number of entry k, from 0, of the entries es; 0 where it is not saved
-- Assumes nothing.
use Rattle.std.specs.Prelude.{ℕ, ◌+◌, Bool, cond, List, [], ◌∷◌, length, take, get_or}
use Rattle.entries.specs.Entry.{status_of, is_saved}

abbrev pub keep : {A : Type 0} → (A → Bool) → List A → List A
keep f [] = []
keep f (x ∷ xs) = cond (f x) (x ∷ keep f xs) (keep f xs)

abbrev pub saved_of : List (List ℕ) → List (List ℕ)
saved_of es = keep (λ e. is_saved (status_of e)) es

abbrev pub file_number : List (List ℕ) → ℕ → ℕ
file_number es k = cond (is_saved (status_of (get_or es k []))) (length (saved_of (take k es)) + 1) 0
