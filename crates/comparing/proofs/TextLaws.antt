-- The text of lines.
--
--   text_append    lines, and further ones
--   lines_written  the claim
-- Assumes nothing.
use mathlib.Core.Path.{◌≡◌, refl, sym, ap, ◌∙◌}
use mathlib.Core.List.{List, [], ◌∷◌, ◌++◌, append_assoc, flatten}
use Prim.Native.Nat.{ℕ}
use Rattle.comparing.specs.Claim.{LinesWritten}
use Rattle.comparing.specs.Lines.{Line, line_text, text_of}
use Rattle.comparing.specs.Comparing.{comparison_of}

pub text_append : (xs ys : List Line) → text_of (xs ++ ys) ≡ text_of xs ++ text_of ys
unfolding flatten
text_append [] ys = refl
text_append (x ∷ xs) ys = ap (λ (t : List ℕ). line_text x ++ t) (text_append xs ys) ∙ sym (append_assoc (line_text x) (text_of xs) (text_of ys))

pub lines_written : LinesWritten
unfolding comparison_of
lines_written f g = refl
