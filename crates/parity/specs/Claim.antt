-- What the coefficients of each code are, and what a volume's data is made of (document 01, "The parity bytes"; document 02, 2026-13).
--
--   PowersCoefficients    Par 1.0's code has the powers for coefficients
--   CauchyCoefficients    the code of 2026-13 has the Cauchy coefficients, which crate `cauchy` claims to be inverses (CauchyRule)
--   CoefficientAnswered   a call for a coefficient of either code is answered in range, and refused with 10 out of it
--   SomeOrder      there is an order in which to take the files
-- and for each code:
--   VolumeData     every saved file, times its coefficient, added to zeros in any order, gives the data
--   VolumeShares   so do two shares of the files, each added to zeros, and summed
--   ParityBytes    the parity of bytes is a byte
--   ParityEnds     past the greatest file size the parity is 0
-- Assumes nothing.
use Rattle.std.specs.Prelude.{◌≡◌, List, ◌++◌, ℕ, ◌-◌, ◌<◌, ◌≤◌, length, get_or, replicate, Ok, Err}
use Rattle.gf256.specs.Field.{power}
use Rattle.mul_add.specs.MulAdd.{mul_add_all, sum_bytes}
use Rattle.mul_add.specs.Once.{Once}
use Rattle.codes.specs.declared.Code.{Code}
use Rattle.codes.specs.declared.Code.TheVariants.{Powers, Cauchy}
use Rattle.cauchy.specs.Cauchy.{cauchy}
use Rattle.cauchy.specs.Claim.{InRange}
use Rattle.parity.specs.Coefficient.{rule_of, coefficient_answer}
use Rattle.parity.specs.Parity.{Contents, is_file, greatest, parity_byte, parity}

-- "The factor of file f in volume v is f to the power v - 1"; proved: proofs/Coefficients.antt, `powers_coefficients`
abbrev pub PowersCoefficients : Type 0
PowersCoefficients = (f v : ℕ) → InRange f v → coefficient_answer Powers f v ≡ Ok (power f (v - 1))

-- document 02, 2026-13: "for file f and volume v, the inverse of f exclusive-or (256 - v), for f + v up to 255";
-- proved: proofs/Coefficients.antt, `cauchy_coefficients`
abbrev pub CauchyCoefficients : Type 0
CauchyCoefficients = (f v : ℕ) → InRange f v → coefficient_answer Cauchy f v ≡ Ok (cauchy f v)

-- "Asking for a factor refuses with 10 if f or v is 0 or f + v is above 255"; proved: proofs/Coefficients.antt, `coefficient-answered`
pub record CoefficientAnswered : Type 0 where
  pub in_range : (c : Code) (f v : ℕ) → InRange f v → coefficient_answer c f v ≡ Ok (rule_of c f v)
  pub out_of_range : (c : Code) (f v : ℕ) → ¬ InRange f v → coefficient_answer c f v ≡ Err 10

-- "Every saved file folded with its factor into zeros of the data size gives a volume's data."; proved: proofs/Volumes.antt, `volume_data`
abbrev pub VolumeData : Type 0
VolumeData =
    (c : Code) (n : ℕ) (X : Contents) (v m : ℕ) (ks : List ℕ) → Once (is_file n) ks
    → mul_add_all (λ f. rule_of c f v) X ks (replicate m 0) ≡ parity (rule_of c) n X v m

-- so VolumeData speaks of every number of files; proved: proofs/Orders.antt, `some_order`
abbrev pub SomeOrder : Type 0
SomeOrder = (n : ℕ) → (ks : List ℕ) × Once (is_file n) ks

-- document 02, 2026-12: "if the saved files are split between two boxes, .. the two buffers summed are the full parity";
-- proved: proofs/Volumes.antt, `volume_shares`
abbrev pub VolumeShares : Type 0
VolumeShares =
    (c : Code) (n : ℕ) (X : Contents) (v m : ℕ) (ks ls : List ℕ) → Once (is_file n) (ks ++ ls)
    → sum_bytes (mul_add_all (λ f. rule_of c f v) X ks (replicate m 0)) (mul_add_all (λ f. rule_of c f v) X ls (replicate m 0))
    ≡ parity (rule_of c) n X v m

-- "A byte is a polynomial": so is each byte of a volume, where those of the files are and a file's number is one;
-- proved: proofs/Volumes.antt, `parity_bytes`
abbrev pub ParityBytes : Type 0
ParityBytes =
    (c : Code) (n : ℕ) (X : Contents) (v p : ℕ) → n < 256 → ((f q : ℕ) → get_or (X f) q 0 < 256) → parity_byte (rule_of c) n X v p < 256

-- "a file that has ended counts as zero": so data as long as the greatest file says all; proved: proofs/Volumes.antt, `parity_ends`
abbrev pub ParityEnds : Type 0
ParityEnds =
    (c : Code) (n : ℕ) (X : Contents) (v p : ℕ) → greatest n (λ f. length (X f)) ≤ p → parity_byte (rule_of c) n X v p ≡ 0
