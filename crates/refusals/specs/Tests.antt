-- Refusals, and tests one after another (document 01, "What comes back": a call "returns the first that holds"; document 02, 2026-01).
--
--   bare n         the refusal n without a place
--   test n ok m    the refusal n unless ok holds; else m, which the further tests give. 0 is no refusal
--   told n         what tests tell of which n is the first that does not pass: `Ok` where n is 0, else the refusal n
--   number_of t    the number of the refusal that tests told, 0 where they passed
--   or_else n r     the refusal n, which has no place, where it is one, else r
-- Assumes nothing.
use Rattle.std.specs.Prelude.{ℕ, zero, suc, Bool, cond, Result, Ok, Err}
use Rattle.refusals.specs.declared.Refusal.{Refusal}

-- "place 0"
abbrev pub bare : ℕ → Refusal
bare n = record { number = n; place = 0 }

abbrev pub test : ℕ → Bool → ℕ → ℕ
test n ok m = cond ok m n

abbrev pub told : ℕ → Result (Unit {0}) Refusal
told zero = Ok tt
told (suc n) = Err (bare (suc n))

abbrev pub number_of : Result (Unit {0}) Refusal → ℕ
number_of (Ok u) = 0
number_of (Err r) = r.number

abbrev pub or_else : ℕ → Refusal → Refusal
or_else zero r = r
or_else (suc n) r = bare (suc n)
