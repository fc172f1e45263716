-- Calls that are told the number of a code.
--
--   known, unknown            the number of a code, and one that is none
--   known_told, unknown_told  the same, as the code finds it out
--   by_code_lem                   the call by that code
--   other_code                what is the number of no code
-- Assumes nothing.
use mathlib.Core.Path.{◌≡◌, refl, sym, ap, ◌∙◌}
use mathlib.Core.Bool.{true, false}
use mathlib.Core.List.{List}
use Prim.Native.Nat.{ℕ}
use Rattle.codes.specs.Codes.{is_code, code_of}
use Rattle.codes.specs.declared.Code.{Code}
use Rattle.codes.specs.declared.Code.TheVariants.{Powers, Cauchy}
use Rattle.codes.proofs.CodeLaws.{no_code}
use Rattle.par1_c.specs.Codes.{by_code}
use Rattle.par1_c.specs.Claim.{ByCode, OtherCode}

module _ (k : ℕ) (call : Code → ℕ × List ℕ) (lent : List ℕ) where
  known : is_code k ≡ true → by_code k call lent ≡ call (code_of k)
  unfolding by_code
  known h = rw h

  unknown : is_code k ≡ false → by_code k call lent ≡ (10, lent)
  unfolding by_code
  unknown h = rw h

  pub known_told : {j : ℕ} → j ≡ k → {c : Code} → (is_code j ≡ true) × (c ≡ code_of j) → {r : ℕ × List ℕ} → r ≡ call c → r ≡ by_code k call lent
  known_told is (h, e) s = s ∙ ap call (e ∙ ap code_of is) ∙ sym (known (sym (ap is_code is) ∙ h))

  pub unknown_told : {j : ℕ} → j ≡ k → is_code j ≡ false → (10, lent) ≡ by_code k call lent
  unknown_told is h = sym (unknown (sym (ap is_code is) ∙ h))

pub by_code_lem : ByCode
by_code_lem Powers call lent = known 0 call lent refl
by_code_lem Cauchy call lent = known 1 call lent refl

pub other_code : OtherCode
other_code k h = let no = no_code k h in
    (λ f v out. unknown k _ out no, λ program number list area out. unknown k _ out no, λ n s out. unknown k _ out no, λ v b. unknown k _ b no)
