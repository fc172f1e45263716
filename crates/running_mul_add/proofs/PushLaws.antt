-- A mul_add that goes on at a position, and the calls on a running one, by their case.
--
--   at_past                 from a position past the buffer's end
--   at_part                 from a position inside, as code does it: the part to the end is lent, and comes back
--   at_next                 after the bytes of another fragment
--   push_over, push_going   a push of a job that is over, and of one that is not
--   end_over, end_going     an end
-- Assumes nothing.
use mathlib.Core.Path.{◌≡◌, refl, ap, ap₂, ◌∙◌}
use mathlib.Core.Bool.{true, false}
use mathlib.Core.List.{List, [], ◌∷◌, ◌++◌, append-nil}
use Prim.Native.Nat.{ℕ, ◌-◌, ◌≤◌}
use native.Mathlib.Omega.{arith}
use lib.Bits.{bit_xor}
use lib.ListN.{length, take, drop, length-drop, drop_of_length-le}
use lib.Seq.{take_all}
use Rattle.gf256.specs.Field.{product}
use Rattle.lent_bytes.proofs.PartLaws.{part_to_end}
use Rattle.mul_add.specs.MulAdd.{mul_add}
use Rattle.running_mul_add.specs.Running.{mul_add_at, position_after, mul_add_from, accepted, refused, push_of, end_of}
use Rattle.running_mul_add.specs.declared.RunningMulAdd.{RunningMulAdd}

-- ---- a position

mul_add-none : (w : ℕ) (fragment : List ℕ) → mul_add w fragment [] ≡ []
unfolding mul_add
mul_add-none w [] = refl
mul_add-none w (x ∷ fragment) = refl

module _ (w p : ℕ) (fragment buffer : List ℕ) where
  pub at_past : length buffer ≤ p → mul_add_at w p fragment buffer ≡ buffer
  unfolding mul_add_at
  at_past h =
      ap₂ (λ (a b : List ℕ). a ++ mul_add w fragment b) (take_all p buffer h) (drop_of_length-le buffer h)
      ∙ ap (λ (b : List ℕ). buffer ++ b) (mul_add-none w fragment) ∙ append-nil buffer

  pub at_part : {last : List ℕ} → last ≡ mul_add w fragment (take (length buffer - p) (drop p buffer))
      → take p buffer ++ (last ++ drop (length buffer - p) (drop p buffer)) ≡ mul_add_at w p fragment buffer
  unfolding mul_add_at
  at_part {last} e = let k : ℕ = length buffer - p in
      let none : drop k (drop p buffer) ≡ [] = drop_of_length-le (drop p buffer) {i = k} (omega (arith, length-drop p buffer)) in
      ap (λ (l : List ℕ). take p buffer ++ l)
      (ap (λ (l : List ℕ). last ++ l) none ∙ append-nil last ∙ e ∙ ap (mul_add w fragment) (part_to_end buffer p))

-- after the bytes m the fragment goes on as if it had come with them
pub at_next : (w : ℕ) (m fragment buffer : List ℕ) → mul_add_at w (length m) fragment (mul_add w m buffer) ≡ mul_add w (m ++ fragment) buffer
unfolding mul_add_at mul_add
at_next w [] fragment buffer = refl
at_next w (x ∷ m) fragment [] = mul_add-none w fragment
at_next w (x ∷ m) fragment (b ∷ buffer) = ap (λ (l : List ℕ). bit_xor b (product w x) ∷ l) (at_next w m fragment buffer)

-- ---- the calls

module _ (s : RunningMulAdd) where
  pub push_over : (fragment buffer : List ℕ) → s.ended ≡ true → push_of s fragment buffer ≡ (refused s, buffer)
  unfolding push_of
  push_over fragment buffer e = simp e

  pub push_going : (fragment buffer : List ℕ) {n : ℕ} {b : List ℕ} → s.ended ≡ false → n ≡ position_after s.position (length fragment)
      → b ≡ mul_add_at s.weight s.position fragment buffer → (accepted (mul_add_from s.weight n), b) ≡ push_of s fragment buffer
  unfolding push_of
  push_going fragment buffer e position added = simp e (ap₂ (λ (n : ℕ) (b : List ℕ). (accepted (mul_add_from s.weight n), b)) position added)

  pub end_over : s.ended ≡ true → end_of s ≡ refused s
  unfolding end_of
  end_over e = simp e

  pub end_going : s.ended ≡ false → end_of s ≡ accepted (record { weight = s.weight; position = s.position; ended = true })
  unfolding end_of
  end_going e = simp e
