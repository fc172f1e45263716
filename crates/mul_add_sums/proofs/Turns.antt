-- Two jobs that push in turns into one buffer.
--
--   turns_go        after the bytes m and n, the turns that come
--   jobs_in_turn    the claim
-- Assumes nothing.
use mathlib.Core.Path.{◌≡◌, refl, sym, ap, ap₂, ◌∙◌}
use mathlib.Core.List.{List, [], ◌∷◌, ◌++◌, append-nil, append_assoc}
use Prim.Native.Nat.{ℕ, ◌<◌}
use native.Mathlib.Omega.{arith}
use lib.ListN.{length}
use Rattle.jobs.specs.Claim.{lend_limit}
use Rattle.mul_add.specs.MulAdd.{mul_add}
use Rattle.mul_add.proofs.MulAdds.{length-mul_add, mul_add_order}
use Rattle.running_mul_add.specs.Running.{mul_add_at, mul_add_from, start_mul_add, push_of}
use Rattle.running_mul_add.specs.declared.Outcome.{Outcome}
use Rattle.running_mul_add.specs.declared.RunningMulAdd.{RunningMulAdd}
use Rattle.running_mul_add.proofs.Chunks.{position_of, goes_on}
use Rattle.running_mul_add.proofs.PushLaws.{at_next}
use Rattle.mul_add_sums.specs.Adding.{Turn, first, second, in_turn, firsts, seconds}
use Rattle.mul_add_sums.specs.Claim.{JobsInTurn}
use Rattle.mul_add_sums.proofs.SumLaws.{two_adds}

module _ (v w : ℕ) (b : List ℕ) (h : length b < lend_limit) where
  -- what the buffer holds after the bytes m of the first job and n of the second
  abbrev both : List ℕ → List ℕ → List ℕ
  both m n = mul_add w n (mul_add v m b)

  both_short : (m n now : List ℕ) → now ≡ both m n → length now < lend_limit
  both_short m n now e = omega (arith, ap length e, length-mul_add w n (mul_add v m b), length-mul_add v m b)

  -- a push of the first job, which commutes with what the second has added; and one of the second
  first_on : (m n c now : List ℕ) → now ≡ both m n → mul_add_at v (length m) c now ≡ both (m ++ c) n
  first_on m n c now e = simp (e, mul_add_order, at_next)

  second_on : (m n c now : List ℕ) → now ≡ both m n → mul_add_at w (length n) c now ≡ both m (n ++ c)
  second_on m n c now e = ap (mul_add_at w (length n) c) e ∙ at_next w n c (mul_add v m b)

  turns_go : (m n : List ℕ) (s t : RunningMulAdd) (turns : List Turn) (now : List ℕ)
      → s ≡ mul_add_from v (position_of (length m)) → t ≡ mul_add_from w (position_of (length n)) → now ≡ both m n
      → in_turn s t turns now ≡ both (m ++ firsts turns) (n ++ seconds turns)
  turns_go m n s t [] now gs gt e = e ∙ sym (ap₂ both (append-nil m) (append-nil n))
  turns_go m n s t (first c ∷ turns) now gs gt e = let r = goes_on v m c now (both_short m n now e) gs in
      turns_go (m ++ c) n (push_of s c now).0.next t turns (push_of s c now).1 (ap (λ (r : Outcome × List ℕ). r.0.next) r) gt
      (ap (λ (r : Outcome × List ℕ). r.1) r ∙ first_on m n c now e)
      ∙ ap (λ (l : List ℕ). both l (n ++ seconds turns)) (append_assoc m c (firsts turns))
  turns_go m n s t (second c ∷ turns) now gs gt e = let r = goes_on w n c now (both_short m n now e) gt in
      turns_go m (n ++ c) s (push_of t c now).0.next turns (push_of t c now).1 gs (ap (λ (r : Outcome × List ℕ). r.0.next) r)
      (ap (λ (r : Outcome × List ℕ). r.1) r ∙ second_on m n c now e)
      ∙ ap (both (m ++ firsts turns)) (append_assoc n c (seconds turns))

pub jobs_in_turn : JobsInTurn
unfolding mul_add
jobs_in_turn v w turns b c d h p q =
    simp (turns_go v w b h [] [] (start_mul_add v) (start_mul_add w) turns b refl refl refl, two_adds v w (firsts turns) (seconds turns) b c d h p q)
