-- `md5sum_text::sums::is_sum` meets its contract.
-- Assumes nothing.
use mathlib.Core.Path.{◌≡◌, ap, ap₂, ◌∙◌}
use mathlib.Core.List.{List}
use Prim.Native.Nat.{ℕ, ◌≤◌}
use native.Mathlib.Omega.{arith}
use lib.ListN.{length, take, drop, length-take, replicate}
use lib.Seq.{take-append_seam}
use Rattle.lent_bytes.specs.Equal.{equal}
use Rattle.entries.specs.Entry.{md5_of}
use Rattle.text.specs.Buffer.{Buffer, buffer, usize_max}
use Rattle.text.specs.Writer.{buffer_of, Puts}
use Rattle.text.specs.declared.writer.Writer.{Writer}
use Rattle.text.specs.Hex.{hex_bytes}
use Rattle.text.proofs.WriterLaws.{puts_whole}
use Rattle.text.proofs.HexLaws.{hex_length}
use Rattle.md5sum_text.proofs.sums.is_sum.Goals as goal

-- what is put into a buffer that is long enough stands at its front
held : (l : List ℕ) {w v : Writer} {t m : List ℕ} {n : ℕ} → buffer_of w ≡ buffer l 0 → Puts w v t → length t ≤ length l → length l ≤ usize_max
    → n ≡ (buffer_of v).at → m ≡ v.out.now → take n m ≡ t
held l {t = t} start p h k at out = let whole = puts_whole l start p h k in
    ap₂ (λ (n : ℕ) (m : List ℕ). take n m) (at ∙ ap (λ (b : Buffer). b.at) whole) (out ∙ ap (λ (b : Buffer). b.bytes) whole)
    ∙ take-append_seam t (drop (length t) l)

sum-most : (e : List ℕ) → length (hex_bytes (md5_of e)) ≤ 32
sum-most e = omega (arith, hex_length (md5_of e), length-take 16 (drop 24 e))

pub returns : goal.returns
returns c = let a = c.args in let hash = c.part-hash.ensures in c.same.ensures
    ∙ ap (equal a.sum.now)
    (c.part.ensures
    ∙ held (replicate 32 0) c.new-writer.ensures.starts c.put_hex_bytes.ensures (rw hash (sum-most a.entry.now)) (omega arith)
    c.position-length.ensures (grind arith)
    ∙ ap hex_bytes hash)
