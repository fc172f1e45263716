-- The lines of a text, each ended by byte 10, and the words of a line, with a space between.
--
--   length_to b s     the length of s up to its first byte b, or to its end where it has none
--   line_length s     the length of the first line of s, its byte 10 included; 0 where no byte 10 ends it
--   word_length s     the length of the first word of s: up to a space, or to the end
--   with_byte b ws    the words ws with the byte b more in front of the first
--   words_of s        the words of s: what stands between its spaces, which may be nothing
-- Assumes nothing.
use Rattle.std.specs.Prelude.{cond, List, [], ◌∷◌, ℕ, suc, ◌+◌, eqb, ltb, length}

abbrev pub length_to : ℕ → List ℕ → ℕ
length_to b [] = 0
length_to b (c ∷ s) = cond (eqb c b) 0 (suc (length_to b s))

unfoldable pub line_length : List ℕ → ℕ
line_length s = cond (ltb (length_to 10 s) (length s)) (length_to 10 s + 1) 0

unfoldable pub word_length : List ℕ → ℕ
word_length s = length_to 32 s

abbrev pub with_byte : ℕ → List (List ℕ) → List (List ℕ)
with_byte b [] = []
with_byte b (w ∷ ws) = (b ∷ w) ∷ ws

-- a list of one word or more
unfoldable pub words_of : List ℕ → List (List ℕ)
words_of [] = [] ∷ []
words_of (b ∷ s) = cond (eqb b 32) ([] ∷ words_of s) (with_byte b (words_of s))
