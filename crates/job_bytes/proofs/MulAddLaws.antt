-- A running mul_add in lent bytes: which bytes are one, there and back, and what the calls store.
--
--   is_mul_add_lem, others, heavy, marked   which bytes are a job that is not over
--   Tests, tests                        what is known of bytes that are
--   loaded_going, loaded_over           what is loaded then, and else
--   loaded_back, loaded_ended           the bytes of a job are that job; where it is over, they are none
--   stored_back                         bytes that are a job are its bytes
--   stored_accepted, stored_refused     what an outcome stores
-- Assumes nothing.
use mathlib.Core.Path.{◌≡◌, refl, sym, ap, ap₂, ◌∙◌}
use mathlib.Core.Bool.{true, false, cond, ◌&&◌, and-false}
use mathlib.Core.List.{List, [], ◌∷◌, ◌++◌, append-nil}
use Prim.Native.Nat.{ℕ, zero, suc, ◌^◌, ◌≤◌, ◌<◌}
use native.Mathlib.Nat.{zero-lt-suc}
use native.Mathlib.Omega.{arith}
use borrow.Author.Tests.{eqb-true, leb-true, eq-eqb, ne_eqb, le-leb, lt-leb}
use lib.Dec.{eqb, leb}
use lib.ListN.{length, get_or, drop, drop_of_length-le}
use lib.Seq.{take_all}
use Rattle.computed_tests.proofs.Tests.{and_both}
use Rattle.lent_bytes.proofs.WritingLaws.{written_fits, unless_none, unless_refused, numbered_as}
use Rattle.little_endian.specs.Bytes.{Bytes, le_at, numbers, numbers_at}
use Rattle.little_endian.proofs.NumberLists.{length-numbers, numbers_back, numbers_read}
use Rattle.refusals.specs.Tests.{bare}
use Rattle.running_mul_add.specs.Running.{mul_add_from, accepted, refused}
use Rattle.running_mul_add.specs.declared.RunningMulAdd.{RunningMulAdd}
use Rattle.job_bytes.specs.MulAdds.{mul_add_bytes, is_mul_add, over_mul_add, mul_add_of, mul_add_stored}

-- ---- which bytes are a job

pub record Tests (b : List ℕ) : Type 0 where
  pub size : length b ≡ 24
  pub light : le_at 8 b 0 ≤ 255
  pub unmarked : le_at 8 b 16 ≡ 0

module _ (b : List ℕ) where
  pub is_mul_add_lem : length b ≡ 24 → le_at 8 b 0 ≤ 255 → le_at 8 b 16 ≡ 0 → is_mul_add b ≡ true
  unfolding is_mul_add
  is_mul_add_lem size light unmarked = simp (eq-eqb (length b) 24 size, le-leb (le_at 8 b 0) 255 light, eq-eqb (le_at 8 b 16) 0 unmarked)

  pub tests : is_mul_add b ≡ true → Tests b
  unfolding is_mul_add
  tests e = let both = and_both (eqb (length b) 24 && leb (le_at 8 b 0) 255) (eqb (le_at 8 b 16) 0) e in
      let first = and_both (eqb (length b) 24) (leb (le_at 8 b 0) 255) both.0 in
      record {
        size = eqb-true (length b) 24 first.0;
        light = leb-true (le_at 8 b 0) 255 first.1;
        unmarked = eqb-true (le_at 8 b 16) 0 both.1;
      }

  pub others : (length b ≡ 24 → ⊥) → is_mul_add b ≡ false
  unfolding is_mul_add
  others h = simp (ne_eqb (length b) 24 h)

  pub heavy : 255 < le_at 8 b 0 → is_mul_add b ≡ false
  unfolding is_mul_add
  heavy h = simp (lt-leb (le_at 8 b 0) 255 h, and-false)

  pub marked : (le_at 8 b 16 ≡ 0 → ⊥) → is_mul_add b ≡ false
  unfolding is_mul_add
  marked h = simp (ne_eqb (le_at 8 b 16) 0 h, and-false)

  pub loaded_going : is_mul_add b ≡ true → mul_add_of b ≡ mul_add_from (le_at 8 b 0) (le_at 8 b 8)
  unfolding mul_add_of
  loaded_going e = simp e

  pub loaded_over : is_mul_add b ≡ false → mul_add_of b ≡ over_mul_add
  unfolding mul_add_of
  loaded_over e = simp e

-- ---- there and back

length_mul_add : (s : RunningMulAdd) → length (mul_add_bytes s) ≡ 24
unfolding mul_add_bytes
length_mul_add s = length-numbers (s.weight ∷ s.position ∷ cond s.ended 1 0 ∷ [])

-- the three numbers
numbers_of : (w p k : ℕ) → w < 2 ^ 64 → p < 2 ^ 64 → k < 2 ^ 64
    → numbers_at 3 (numbers (w ∷ p ∷ k ∷ [])) 0 ≡ w ∷ p ∷ k ∷ []
numbers_of w p k hw hp hk = cc (append-nil (numbers (w ∷ p ∷ k ∷ [])), numbers_back [] (w ∷ p ∷ k ∷ []) [] small)
  where
    small : (j : ℕ) → get_or (w ∷ p ∷ k ∷ []) j 0 < 2 ^ 64
    small zero = hw
    small (suc zero) = hp
    small (suc (suc zero)) = hk
    small (suc (suc (suc j))) = zero-lt-suc 18446744073709551615

module _ (w p : ℕ) (hw : w < 256) (hp : p < 2 ^ 64) where
  pub loaded_back : (is_mul_add (mul_add_bytes (mul_add_from w p)) ≡ true) × (mul_add_of (mul_add_bytes (mul_add_from w p)) ≡ mul_add_from w p)
  unfolding mul_add_bytes numbers_at
  loaded_back = let b : List ℕ = numbers (w ∷ p ∷ 0 ∷ []) in
      let three = numbers_of w p 0 (omega arith) hp (omega arith) in
      let first : le_at 8 b 0 ≡ w = ap (λ (l : List ℕ). get_or l 0 0) three in
      let second : le_at 8 b 8 ≡ p = ap (λ (l : List ℕ). get_or l 1 0) three in
      let third : le_at 8 b 16 ≡ 0 = ap (λ (l : List ℕ). get_or l 2 0) three in
      let is = is_mul_add_lem b (length_mul_add (mul_add_from w p)) (omega arith) third in
      (is, loaded_going b is ∙ ap₂ mul_add_from first second)

  pub loaded_ended : is_mul_add (mul_add_bytes (record { weight = w; position = p; ended = true })) ≡ false
  unfolding mul_add_bytes numbers_at
  loaded_ended = let b : List ℕ = numbers (w ∷ p ∷ 1 ∷ []) in
      let third : le_at 8 b 16 ≡ 1 = ap (λ (l : List ℕ). get_or l 2 0) (numbers_of w p 1 (omega arith) hp (omega arith)) in
      marked b (λ e. omega arith)

pub stored_back : (b : List ℕ) → Bytes b → is_mul_add b ≡ true → mul_add_bytes (mul_add_from (le_at 8 b 0) (le_at 8 b 8)) ≡ b
unfolding mul_add_bytes numbers_at
stored_back b h is = let t = tests b is in
    cc (t.unmarked, numbers_read 3 b 0 h (omega (arith, t.size)), take_all 24 b (omega (arith, t.size)))

-- ---- what is stored

pub stored_accepted : (s : RunningMulAdd) (b : List ℕ) → length b ≡ 24 → mul_add_stored (accepted s) b ≡ (0, mul_add_bytes s)
unfolding mul_add_stored
stored_accepted s b size = let t : List ℕ = mul_add_bytes s in
    let whole = length_mul_add s in
    let all : t ++ drop (length t) b ≡ t = ap (λ (l : List ℕ). t ++ l) (drop_of_length-le b {i = length t} (omega arith)) ∙ append-nil t in
    sym (numbered_as refl (unless_none t b {n = bare 0} refl refl (written_fits t b (omega arith) refl (sym all))))

pub stored_refused : (s : RunningMulAdd) (b : List ℕ) → mul_add_stored (refused s) b ≡ (20, b)
unfolding mul_add_stored
stored_refused s b = sym (numbered_as refl (unless_refused (mul_add_bytes s) b {n = bare 20} refl (λ e. omega arith) refl))
