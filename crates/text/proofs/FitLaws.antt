-- A text that is written where it fits, and one that is measured on an empty buffer before.
--
--   fit_whole      a text that is known to fit, put from the start
--   unwritten      measuring changes nothing
--   fit_none       the text is empty: nothing is to be written
--   fit_written    the text is no longer than out, and is put from the start
--   fit_refused    the text is longer than out
-- Where code measures on `&mut out[..0]`, out is afterwards what measuring left of the empty part, then out: `l ++ out`.
-- Assumes nothing.
use Rattle.std.specs.Prelude.{Ok}
use mathlib.Core.Path.{◌≡◌, sym, ap, ◌∙◌}
use mathlib.Core.List.{List, [], ◌++◌}
use Prim.Native.Nat.{ℕ, ◌≤◌, ◌<◌, min}
use native.Mathlib.Omega.{arith}
use lib.ListN.{length, drop}
use Rattle.std.proofs.lemmas.List.{nil_from_length}
use Rattle.refusals.specs.Tests.{bare}
use Rattle.lent_bytes.specs.Writing.{refused, written}
use Rattle.lent_bytes.proofs.WritingLaws.{written_fits, written_short}
use Rattle.text.specs.Buffer.{Buffer, buffer, usize_max, put}
use Rattle.text.specs.Writer.{buffer_of, Puts}
use Rattle.text.specs.declared.writer.Writer.{Writer}
use Rattle.text.proofs.BufferLaws.{put_measure}
use Rattle.text.proofs.WriterLaws.{puts_whole}

-- w, v: the writer as it starts, and after the text; n and o: its position, and what it left
pub fit_whole : (out : List ℕ) {w v : Writer} {t o : List ℕ} {n : ℕ} → buffer_of w ≡ buffer out 0 → Puts w v t → length t ≤ length out
    → length out ≤ usize_max → n ≡ (buffer_of v).at → o ≡ v.out.now → (Ok n, o) ≡ written t out
fit_whole out {t = t} start p h k at left = let whole = puts_whole out start p h k in
    written_fits t out h (at ∙ ap (λ (b : Buffer). b.at) whole) (left ∙ ap (λ (b : Buffer). b.bytes) whole)

-- m: the writer that the text t was measured with, which started as s; n: its position; l: what it left
module _ (out l : List ℕ) {t : List ℕ} {s m : Writer} {n : ℕ} (starts : buffer_of s ≡ buffer [] 0) (measured : Puts s m t) (position : n ≡ (buffer_of m).at)
    (none : length l ≡ 0) (h : length out < usize_max) where
  pub unwritten : l ++ out ≡ out
  unwritten = ap (λ (q : List ℕ). q ++ out) (nil_from_length l none)

  count : n ≡ min (length t) usize_max
  count = position ∙ ap (λ (b : Buffer). b.at) (measured.puts ∙ ap (λ (b : Buffer). put b t) starts ∙ put_measure t)

  pub fit_none : n ≡ 0 → (Ok 0, l ++ out) ≡ written t out
  fit_none z = let empty : length t ≡ 0 = omega (arith, count) in
      written_fits t out (omega arith) (sym empty) (unwritten ∙ ap (λ (q : List ℕ). q ++ drop (length q) out) (sym (nil_from_length t empty)))

  -- v: the writer that the text was written with, which started as w; o: what it left
  pub fit_written : {w v : Writer} {o : List ℕ} → n ≤ length (l ++ out) → buffer_of w ≡ buffer (l ++ out) 0 → Puts w v t → o ≡ v.out.now
      → (Ok n, o) ≡ written t out
  fit_written k start p e = let small : length t ≤ length out = omega (arith, count, ap length unwritten) in
      let whole = puts_whole out (start ∙ ap (λ (q : List ℕ). buffer q 0) unwritten) p small (omega arith) in
      let n_is : n ≡ length t = omega (arith, count) in
      written_fits t out small n_is (e ∙ ap (λ (b : Buffer). b.bytes) whole)

  pub fit_refused : length (l ++ out) < n → refused (bare 14) (l ++ out) ≡ written t out
  fit_refused k = ap (refused (bare 14)) unwritten ∙ written_short t out (omega (arith, count, ap length unwritten))
