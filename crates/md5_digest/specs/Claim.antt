-- What is promised of the digest and of the running hash, over the definitions that the contracts of `digest`, `new`, `push` and
-- `finish` cite.
--
--   PaddingAligns   a padded message is whole blocks, by as few zeros as can be
--   WholeDigest     a push of the whole message gives its digest
--   RunDigest       any run of pushes of its parts, however it is cut, gives the same
-- Assumes nothing.
use Rattle.std.specs.Prelude.{◌≡◌, ℕ, ◌+◌, ◌%◌, ◌<◌, List, []}
use mathlib.Core.List.{flatten}
use Rattle.md5_digest.specs.Padding.{zeros}
use Rattle.md5_digest.specs.Digest.{md5}
use Rattle.md5_digest.specs.Running.{state_of, pushed, finished, pushed_all}

-- RFC 1321, 3.1: "congruent to 448, modulo 512 .. at least one bit and at most 512 bits are appended", in bytes;
-- proved: proofs/PaddingLaws.antt, `padding_aligns`
abbrev pub PaddingAligns : Type 0
PaddingAligns = (n : ℕ) → ((n + 1 + zeros n) % 64 ≡ 56) × (zeros n < 64)

-- proved: proofs/Running.antt, `whole_digest`
abbrev pub WholeDigest : Type 0
WholeDigest = (m : List ℕ) → finished (pushed (state_of []) m) ≡ md5 m

-- proved: proofs/Running.antt, `run_digest`
abbrev pub RunDigest : Type 0
RunDigest = (ps : List (List ℕ)) → finished (pushed_all (state_of []) ps) ≡ md5 (flatten ps)
