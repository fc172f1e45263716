-- A running hash: a message may come in parts, cut anyhow.
--
--   tail_of s      the bytes s, then zeros to 64
--   state_after w m n   the state after the message m from the words w on, n bytes being counted
--   waiting h     the bytes that wait for their block to be full
--   pushed h bs   the state h after the bytes bs
--   finished h    the digest that the end of h gives
--   state_of m     the state after the message m
--   pushed_all h ps     the state h after each of the parts ps in turn
-- Assumes nothing.
use Rattle.std.specs.Prelude.{ℕ, ◌+◌, ◌-◌, ◌%◌, ◌^◌, List, [], ◌∷◌, ◌++◌, length, take, replicate}
use Rattle.md5_blocks.specs.declared.rounds.Words.{Words}
use Rattle.md5_blocks.specs.Blocks.{all_blocks, rest}
use Rattle.md5_digest.specs.declared.Md5.{Md5}
use Rattle.md5_digest.specs.Padding.{padding}
use Rattle.md5_digest.specs.Digest.{start, output}

-- up to 64 bytes, and zeros to make them 64
abbrev pub tail_of : List ℕ → List ℕ
tail_of s = s ++ replicate (64 - length s) 0

-- the state whose words have seen every whole block of m, n bytes in all
abbrev pub state_after : Words → List ℕ → ℕ → Md5
state_after w m n = record { words = all_blocks w m; tail = tail_of (rest m); total = n % 2 ^ 64 }

unfoldable pub state_of : List ℕ → Md5
state_of m = state_after start m (length m)

abbrev pub waiting : Md5 → List ℕ
waiting h = take (h.total % 64) h.tail

unfoldable pub pushed : Md5 → List ℕ → Md5
pushed h bs = state_after h.words (waiting h ++ bs) (h.total + length bs)

unfoldable pub finished : Md5 → List ℕ
finished h = output (all_blocks h.words (waiting h ++ padding h.total))

abbrev pub pushed_all : Md5 → List (List ℕ) → Md5
pushed_all h [] = h
pushed_all h (p ∷ ps) = pushed_all (pushed h p) ps
