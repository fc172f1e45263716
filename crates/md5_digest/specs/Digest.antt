-- MD5 (RFC 1321) on lists of bytes.
--
--   start            the words A, B, C, D at first
--   output w         the digest that the words are
--   md5 m            the digest of the message m
--   digest_into m out what the call that writes into lent bytes gives: its number, and the bytes
-- Assumes nothing.
use Rattle.std.specs.Prelude.{ℕ, List, ◌++◌}
use Rattle.lent_bytes.specs.Writing.{written, with_number}
use Rattle.little_endian.specs.Bytes.{to_le}
use Rattle.md5_blocks.specs.declared.rounds.Words.{Words}
use Rattle.md5_blocks.specs.Blocks.{all_blocks}
use Rattle.md5_digest.specs.Padding.{padded}

-- 3.3: "word A: 01 23 45 67", and so on, "low-order bytes first"
unfoldable pub start : Words
start = record { a = 0x67452301; b = 0xefcdab89; c = 0x98badcfe; d = 0x10325476 }

-- 3.5: "we begin with the low-order byte of A, and end with the high-order byte of D"
unfoldable pub output : Words → List ℕ
output w = to_le 4 w.a ++ to_le 4 w.b ++ to_le 4 w.c ++ to_le 4 w.d

unfoldable pub md5 : List ℕ → List ℕ
md5 m = output (all_blocks start (padded m))

-- Document 01, "Hashing, where it writes into lent room, tests 14 (16 bytes)": the number, 0 if accepted, and what the room then holds
abbrev pub digest_into : List ℕ → List ℕ → ℕ × List ℕ
digest_into m out = with_number (written (md5 m) out)
