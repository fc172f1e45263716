-- The digest's bytes, stored word by word.
--
--   output_stores   four words stored in a row are the digest
--   length-output   a digest is 16 bytes
--   output_alone    a digest stored into 16 bytes
-- Assumes nothing.
use Rattle.std.proofs.Common.{◌≡◌, ℕ, List, length, replicate, refl, ap, ◌∙◌}
use lib.Seq.{sets}
use Rattle.little_endian.specs.Bytes.{to_le}
use Rattle.md5_blocks.specs.declared.rounds.Words.{Words}
use Rattle.md5_digest.specs.Digest.{output}

module _ (w : Words) where
  pub output_stores : (s : List ℕ) {o₁ o₂ o₃ o₄ : List ℕ} → o₁ ≡ sets s 0 (to_le 4 w.a) → o₂ ≡ sets o₁ 4 (to_le 4 w.b) → o₃ ≡ sets o₂ 8 (to_le 4 w.c)
      → o₄ ≡ sets o₃ 12 (to_le 4 w.d) → o₄ ≡ sets s 0 (output w)
  unfolding output to_le
  output_stores s e₁ e₂ e₃ e₄ =
      e₄
      ∙ ap (λ (o : List ℕ). sets o 12 (to_le 4 w.d))
      (e₃ ∙ ap (λ (o : List ℕ). sets o 8 (to_le 4 w.c)) (e₂ ∙ ap (λ (o : List ℕ). sets o 4 (to_le 4 w.b)) e₁))

  pub length-output : length (output w) ≡ 16
  unfolding output to_le
  length-output = refl

  pub output_alone : sets (replicate 16 0) 0 (output w) ≡ output w
  unfolding output to_le
  output_alone = refl
