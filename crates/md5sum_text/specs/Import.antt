-- What an import gives (document 02, 2026-07: "Import reads such lines and writes, for each entry in list order, a byte").
--
--   any t xs             whether the test t passes for one of xs
--   is_listed es l        whether the name in the line l is listed among the entries es
--   has_other js l        whether one of the lines js has the name in l with another sum
--   is_again es ls k      whether line k of the lines ls, from 0, has a listed name again with another sum
--   again_in es ls        the first such line, from 0; the number of lines where there is none
--   shape_refusal n s     the refusal of what s begins with, after n lines; the number 0 where s is empty
--   text_refusal es c     the refusal of a text that is cut into c; its number is 0 where there is none
--   answer_for ls e       the byte for the entry e
--   import_refusal r f s  the refusal of an import of the text s with the file f, which reads as r, before 14
--   import_into f s out   what the call gives
-- Assumes nothing.
use Rattle.std.specs.Prelude.{ℕ, ◌+◌, Bool, false, cond, not, ◌&&◌, ◌||◌, List, [], ◌∷◌, map, ltb, length, take, get_or, Ok, Err}
use Rattle.computed_tests.specs.Lists.{first_below}
use Rattle.refusals.specs.Tests.{bare}
use Rattle.refusals.specs.declared.Refusal.{Refusal}
use Rattle.lent_bytes.specs.Equal.{equal}
use Rattle.lent_bytes.specs.Writing.{written_unless}
use Rattle.lent_bytes.specs.Writing.{Writing}
use Rattle.cut_lists.specs.Pieces.{Cut}
use Rattle.par1_read.specs.Reading.{entries_in, read_of}
use Rattle.par1_read.specs.Reading.{Reading}
use Rattle.md5sum_text.specs.Lines.{lines_of, sum_in, name_in}
use Rattle.md5sum_text.specs.Names.{sum_of, is_named}

unfoldable pub any : {A : Type 0} → (A → Bool) → List A → Bool
any t [] = false
any t (x ∷ xs) = t x || any t xs

abbrev pub is_listed : List (List ℕ) → List ℕ → Bool
is_listed es l = any (λ e. is_named l e) es

abbrev pub has_other : List (List ℕ) → List ℕ → Bool
has_other js l = any (λ j. equal (name_in j) (name_in l) && not (equal (sum_in j) (sum_in l))) js

-- "23 a listed name again with another sum, with the later line's number"
unfoldable pub is_again : List (List ℕ) → List (List ℕ) → ℕ → Bool
is_again es ls k = let l : List ℕ = get_or ls k [] in is_listed es l && has_other (take k ls) l

unfoldable pub again_in : List (List ℕ) → List (List ℕ) → ℕ
again_in es ls = first_below (length ls) (is_again es ls)

-- "22 a line of another shape or unended, with its number"
abbrev pub shape_refusal : ℕ → List ℕ → Refusal
shape_refusal n [] = bare 0
shape_refusal n (b ∷ s) = record { number = 22; place = n + 1 }

-- "The earliest faulty line counts": 22 is about the line after all those of the right shape
unfoldable pub text_refusal : List (List ℕ) → Cut → Refusal
text_refusal es c =
    let k : ℕ = again_in es c.pieces in
    cond (ltb k (length c.pieces)) (record { number = 23; place = k + 1 }) (shape_refusal (length c.pieces) c.rest)

-- "0 no line in the text, 1 the same sum, 2 a different one": all lines that name an entry have one sum, by 23
unfoldable pub answer_for : List (List ℕ) → List ℕ → ℕ
answer_for [] e = 0
answer_for (l ∷ ls) e = cond (is_named l e) (cond (equal (sum_in l) (sum_of e)) 1 2) (answer_for ls e)

abbrev pub import_refusal : Reading → List ℕ → List ℕ → Refusal
import_refusal (Ok p) f s = text_refusal (entries_in f) (lines_of s)
import_refusal (Err r) f s = r

-- "14 last"
unfoldable pub import_into : List ℕ → List ℕ → List ℕ → Writing × List ℕ
import_into f s out = written_unless (import_refusal (read_of f) f s) (map (answer_for (lines_of s).pieces) (entries_in f)) out
