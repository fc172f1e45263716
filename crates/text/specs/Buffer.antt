-- Text put into a buffer at a position that counts on past the buffer's end.
--
--   Buffer       the bytes of a buffer, and the position of the next byte
--   usize_max     the greatest position
--   put b t      b after the text t: what lies inside is written, what lies past the end is only counted
-- Assumes nothing.
use Rattle.std.specs.Prelude.{List, ℕ, ◌+◌, ◌-◌, ◌^◌, min, length}
use Rattle.std.proofs.lemmas.List.Edits.{sets}

pub record Buffer : Type 0 where
  pub bytes : List ℕ
  pub at : ℕ

abbrev pub buffer : List ℕ → ℕ → Buffer
buffer bytes at = record { bytes = bytes; at = at }

-- the greatest position, at which counting stops
abbrev pub usize_max : ℕ
usize_max = 2 ^ 64 - 1

-- `sets l i t` stores the elements of t in l from index i on; a store past the end of l changes nothing
unfoldable pub put : Buffer → List ℕ → Buffer
put b t = buffer (sets b.bytes b.at t) (min (b.at + length t) usize_max)
