-- What puts leave in a buffer.
--
--   put_nil, put-append          no text, and one text after another
--   put-length                   a put keeps the buffer's length
--   put-within, put_beyond       a text that lies inside the buffer, and one that lies past its end
--   put_measure, put_whole       from the start: on an empty buffer, and on one that the text fits into
-- Assumes nothing.
use mathlib.Core.Path.{◌≡◌, sym, ap, ap₂, ◌∙◌}
use mathlib.Core.List.{List, [], ◌++◌}
use Prim.Native.Nat.{ℕ, ◌+◌, ◌≤◌, min}
use native.Mathlib.Nat.{zero-add}
use native.Mathlib.Omega.{arith}
use lib.ListN.{length, take, drop, length-append}
use lib.Seq.{sets, length-sets, sets-eq}
use Rattle.little_endian.proofs.Stores.{sets_append, sets_out, sets_past}
use Rattle.text.specs.Buffer.{Buffer, buffer, usize_max, put}

-- ---- one put

pub put_nil : (l : List ℕ) (at : ℕ) → at ≤ usize_max → put (buffer l at) [] ≡ buffer l at
unfolding put
put_nil l at h = ap (buffer l) (omega arith)

pub put-length : (b : Buffer) (t : List ℕ) → length (put b t).bytes ≡ length b.bytes
unfolding put
put-length b t = length-sets b.bytes _ t

put-within : (l : List ℕ) (at : ℕ) (t : List ℕ) → at + length t ≤ length l → length l ≤ usize_max
    → put (buffer l at) t ≡ buffer (take at l ++ t ++ drop (at + length t) l) (at + length t)
unfolding put
put-within l at t h k = ap₂ buffer (sets-eq t l at h) (omega arith)

pub put_beyond : (l : List ℕ) (at : ℕ) (t : List ℕ) → length l ≤ at → put (buffer l at) t ≡ buffer l (min (at + length t) usize_max)
unfolding put
put_beyond l at t h = ap (λ (m : List ℕ). buffer m (min (at + length t) usize_max)) (sets_out l at t h)

pub put_measure : (t : List ℕ) → put (buffer [] 0) t ≡ buffer [] (min (length t) usize_max)
put_measure t = put_beyond [] 0 t (omega arith) ∙ ap (λ (n : ℕ). buffer [] (min n usize_max)) (zero-add (length t))

pub put_whole : (l t : List ℕ) → length t ≤ length l → length l ≤ usize_max
    → put (buffer l 0) t ≡ buffer (t ++ drop (length t) l) (length t)
put_whole l t h k = put-within l 0 t (omega arith) k ∙ ap (λ (n : ℕ). buffer (t ++ drop n l) n) (zero-add (length t))

-- ---- puts in a row

pub put-append : (b : Buffer) (s t : List ℕ) → length b.bytes ≤ usize_max → put (put b s) t ≡ put b (s ++ t)
unfolding put
put-append b s t h =
    ap₂ buffer
    (sets_past (sets b.bytes b.at s) (b.at + length s) usize_max t (omega (arith, length-sets b.bytes b.at s))
    ∙ sym (sets_append b.bytes b.at s t))
    (omega (arith, length-append s t))
