-- A writer of text: a buffer that is lent, and the position of the next byte.
--
--   buffer_of w    the buffer of the writer w, at its position
--   Puts w v t     v is the writer w after the text t
-- Assumes nothing.
use Rattle.std.specs.Prelude.{◌≡◌, List, ℕ, ◌≤◌, min, length}
use Rattle.text.specs.Buffer.{Buffer, buffer, usize_max, put}
use Rattle.text.specs.declared.writer.Writer.{Writer}

-- a position that code can have is no greater than usize_max
abbrev pub buffer_of : Writer → Buffer
buffer_of w = buffer w.out.now (min w.at usize_max)

-- in the same borrow of the caller's buffer, which is no longer than positions count
pub record Puts (w v : Writer) (t : List ℕ) : Type 0 where
  pub same_reference : v.out.ghost_name ≡ w.out.ghost_name
  pub room : length w.out.now ≤ usize_max
  pub puts : buffer_of v ≡ put (buffer_of w) t
