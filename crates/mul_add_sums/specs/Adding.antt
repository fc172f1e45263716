-- Our calls that add fragments to a buffer (document 01, "The parity bytes": folding; document 02, 2026-03: in chunks), told by the definitions
-- that their contracts cite: mul_add and par1_mul_add cite mul_add; start and push of a running mul_add cite start_mul_add and push_of, of which
-- pushed_into is made; par1_mul_add_start and par1_mul_add_push cite mul_add_started and mul_add_pushed, of which mul_add_pushed_into is made.
--
--   Adds w xs b c                      our calls add the fragment xs, with the weight w, to the buffer b, which then holds c
--   AddsAll weight fragment ks b c     so they do, for each number k in ks, one after another, with fragment k and weight k
--   Turn                               a push of one of two jobs
--   in_turn s t turns b                 what the buffer b holds after pushes of the jobs s and t, in turns of any kind
--   firsts turns, seconds turns        the bytes that the first job is given in them, and the second
-- Assumes nothing.
use Rattle.std.specs.Prelude.{◌≡◌, ℕ}
use mathlib.Core.List.{List, [], ◌∷◌, ◌++◌, flatten}
use Rattle.job_bytes.specs.Claim.{MulAddStart, mul_add_pushed_into}
use Rattle.job_bytes.specs.MulAdds.{mul_add_started}
use Rattle.mul_add.specs.MulAdd.{mul_add}
use Rattle.running_mul_add.specs.Claim.{pushed_into}
use Rattle.running_mul_add.specs.Running.{start_mul_add, push_of}
use Rattle.running_mul_add.specs.declared.RunningMulAdd.{RunningMulAdd}

-- in one call; or in chunks, cut in any way, to a job of its own: a start, a push for each chunk, and an end, which is lent no buffer. From C the
-- job is kept in lent bytes
pub data Adds (w : ℕ) (xs b c : List ℕ) : Type 0 where
  at_once : c ≡ mul_add w xs b → Adds w xs b c
  in_chunks : (cs : List (List ℕ)) → flatten cs ≡ xs → c ≡ pushed_into (start_mul_add w) cs b → Adds w xs b c
  in_chunks_from_c : (start : MulAddStart) (cs : List (List ℕ)) → start.weight ≡ w → flatten cs ≡ xs
      → c ≡ mul_add_pushed_into (mul_add_started start.weight start.room).1 cs b → Adds w xs b c

-- "folding each piece .. with its weight": each of them at once or in chunks, by itself
pub data AddsAll (weight : ℕ → ℕ) (fragment : ℕ → List ℕ) : List ℕ → List ℕ → List ℕ → Type 0 where
  none : {b c : List ℕ} → c ≡ b → AddsAll weight fragment [] b c
  more : {k : ℕ} {ks b c d : List ℕ} → Adds (weight k) (fragment k) b c → AddsAll weight fragment ks c d → AddsAll weight fragment (k ∷ ks) b d

-- ---- two jobs at the same time, with one buffer

pub data Turn : Type 0 where
  first : List ℕ → Turn
  second : List ℕ → Turn

abbrev pub in_turn : RunningMulAdd → RunningMulAdd → List Turn → List ℕ → List ℕ
in_turn s t [] b = b
in_turn s t (first c ∷ turns) b = in_turn (push_of s c b).0.next t turns (push_of s c b).1
in_turn s t (second c ∷ turns) b = in_turn s (push_of t c b).0.next turns (push_of t c b).1

abbrev pub firsts : List Turn → List ℕ
firsts [] = []
firsts (first c ∷ turns) = c ++ firsts turns
firsts (second c ∷ turns) = firsts turns

abbrev pub seconds : List Turn → List ℕ
seconds [] = []
seconds (first c ∷ turns) = seconds turns
seconds (second c ∷ turns) = c ++ seconds turns
