-- The calls on a running hash, as the mark that it is over decides.
--
--   push_open, push_over    a push
--   end_open, end_over      an end
-- Assumes nothing.
use mathlib.Core.Path.{◌≡◌}
use mathlib.Core.List.{List}
use Prim.Native.Nat.{ℕ}
use borrow.Author.Tests.{eq-eqb, ne_eqb}
use Rattle.lent_bytes.specs.Writing.{written, with_number}
use Rattle.md5_digest.specs.Running.{pushed, finished}
use Rattle.running_hash.specs.Hash.{running, outcome, refused, push_of, ended_by, end_of}
use Rattle.running_hash.specs.declared.RunningHash.{RunningHash}

module _ (h : RunningHash) where
  pub push_open : (bs : List ℕ) → h.ended ≡ 0 → push_of h bs ≡ outcome 0 (running (pushed h.hash bs))
  unfolding push_of
  push_open bs e = simp (eq-eqb h.ended 0 e)

  pub push_over : (bs : List ℕ) → (h.ended ≡ 0 → ⊥) → push_of h bs ≡ refused h
  unfolding push_of
  push_over bs e = simp (ne_eqb h.ended 0 e)

  pub end_open : (out : List ℕ) → h.ended ≡ 0 → end_of h out ≡ ended_by h.hash (with_number (written (finished h.hash) out))
  unfolding end_of
  end_open out e = simp (eq-eqb h.ended 0 e)

  pub end_over : (out : List ℕ) → (h.ended ≡ 0 → ⊥) → end_of h out ≡ (refused h, out)
  unfolding end_of
  end_over out e = simp (ne_eqb h.ended 0 e)
