-- Laws of the two codes.
--
--   code_of      the code of a code's number is that code, and back
--   is_code      the number of a code is 0 or 1; any other is none
--   same        a code is the same as itself, and no other; it is what the derived == tells
-- Assumes nothing.
use mathlib.Core.Path.{◌≡◌, refl}
use mathlib.Core.Logic.{◌≢◌}
use mathlib.Core.Bool.{true, false, false≢true}
use Prim.Native.Nat.{ℕ, zero, suc, ◌≤◌}
use native.Mathlib.Omega.{arith}
use borrow.Author.Tests.{leb-true, le-leb, lt-leb}
use Rattle.codes.specs.Codes.{code_number, is_code, code_of, same}
use Rattle.codes.specs.Claim.{CodeNumbers}
use denote.Enum.Bare.{sameb}
use Rattle.codes.specs.contracts.Code.{the_type}
use Rattle.codes.specs.declared.Code.{Code}
use Rattle.codes.specs.declared.Code.TheVariants.{Powers, Cauchy}

pub back : (c : Code) → code_of (code_number c) ≡ c
back Powers = refl
back Cauchy = refl

pub number_back : (k : ℕ) → is_code k ≡ true → code_number (code_of k) ≡ k
number_back zero h = refl
number_back (suc k) h = let l : suc k ≤ 1 = leb-true (suc k) 1 h in omega arith

pub number_small : (c : Code) → code_number c ≤ 1
number_small Powers = omega arith
number_small Cauchy = omega arith

pub number_code : (c : Code) → is_code (code_number c) ≡ true
number_code Powers = refl
number_code Cauchy = refl

-- a number above 1
pub no_code : (k : ℕ) → ((c : Code) → k ≢ code_number c) → is_code k ≡ false
no_code zero h = absurd (h Powers refl)
no_code (suc zero) h = absurd (h Cauchy refl)
no_code (suc (suc k)) h = lt-leb (suc (suc k)) 1 (omega arith)

pub code_numbers : CodeNumbers
code_numbers = record {
  zero_powers = (refl, refl);
  one_cauchy = (refl, refl);
  no_others = λ k. (leb-true k 1, le-leb k 1);
}

pub same_itself : (c : Code) → same c c ≡ true
same_itself Powers = refl
same_itself Cauchy = refl

pub same_only : (c d : Code) → same c d ≡ true → c ≡ d
same_only Powers Powers h = refl
same_only Powers Cauchy h = absurd (false≢true h)
same_only Cauchy Powers h = absurd (false≢true h)
same_only Cauchy Cauchy h = refl

pub derived_same : (c d : Code) → sameb the_type c d ≡ same c d
derived_same Powers Powers = refl
derived_same Powers Cauchy = refl
derived_same Cauchy Powers = refl
derived_same Cauchy Cauchy = refl
