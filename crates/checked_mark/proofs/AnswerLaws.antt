-- What a call gives that writes bytes into lent room, and would write others, as many as these.
--
--   answer_same    the answer tells no more of the bytes than how many they are
--   room_cases     either way the room is the same, or both are written
-- Assumes nothing.
use Rattle.std.specs.Prelude.{Ok}
use mathlib.Core.Path.{◌≡◌, refl}
use mathlib.Core.Bool.{Bool, true, false, cond}
use mathlib.Core.List.{List, ◌++◌}
use mathlib.Core.Logic.{◌⊎◌, inl, inr}
use lib.Dec.{leb, eqb}
use lib.ListN.{length, drop}
use Rattle.lent_bytes.specs.Writing.{refused, accepted, written, written_unless}
use Rattle.refusals.specs.Tests.{bare}
use Rattle.refusals.specs.declared.Refusal.{Refusal}
use Prim.Native.Nat.{ℕ}

module _ (r : Refusal) (s t out : List ℕ) (e : length s ≡ length t) where
  pub answer_same : (written_unless r s out).0 ≡ (written_unless r t out).0
  unfolding written_unless written
  answer_same = simp e (by (eqb r.number 0) (leb (length t) (length out)))
    where
      by : (b c : Bool) → (cond b (cond c (Ok (length t), s ++ drop (length t) out) (refused (bare 14) out)) (refused r out)).0
          ≡ (cond b (cond c (accepted t out) (refused (bare 14) out)) (refused r out)).0
      by true true = refl
      by true false = refl
      by false c = refl

  abbrev Both : Type 0
  Both = ((written_unless r s out).1 ≡ s ++ drop (length t) out) × ((written_unless r t out).1 ≡ t ++ drop (length t) out)

  pub room_cases : ((written_unless r s out).1 ≡ (written_unless r t out).1) ⊎ Both
  unfolding written_unless written
  room_cases = by (eqb r.number 0) (leb (length t) (length out)) refl refl
    where
      by : (b c : Bool) → eqb r.number 0 ≡ b → leb (length t) (length out) ≡ c → ((written_unless r s out).1 ≡ (written_unless r t out).1) ⊎ Both
      by true true p q = inr (simp (p, e, q), simp (p, q))
      by true false p q = inl (simp (p, e, q))
      by false c p q = inl (simp p)
