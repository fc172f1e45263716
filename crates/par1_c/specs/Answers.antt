-- Answers that tell a refusal and its place in one number: a par1_answer of include/par1.h.
--
--   answer_of r      the number of the refusal r, and 32 times its place
--   answered w      what a call gives that answers so
--   answered_end w   the same, where it is lent the bytes of a job too
--   length_told w    the answer w as such a number and its value: where it is accepted, 0 and the length that it wrote
--   answered_length w     what a call gives that answers so
--   answered_rows w  the same, where it is lent records
--   filled_count w   how many records a load fills that answers w
--   load_plan b n    what a load of the catalog b into n records answers, and how many it fills
--   Told r          the number and the place are read off the answer, which 64 bits hold
--   Keeps r out     r is the number of a call and what the lent bytes, `out` before, then hold: where it is refused, these are as they were
--   KeepsTold r out     the same of a call that answers so
-- Assumes nothing.
use Rattle.std.specs.Prelude.{◌≡◌, ◌≢◌, List, ℕ, ◌+◌, ◌*◌, ◌/◌, ◌%◌, ◌^◌, ◌<◌, Ok, Err}
use Rattle.lent_bytes.specs.Writing.{Writing}
use Rattle.refusals.specs.declared.Refusal.{Refusal}
use Rattle.catalog.specs.Calls.{loading_of}
use Rattle.catalog.specs.declared.records.Row.{Row}
use Rattle.par1_c.specs.declared.catalogs.LoadPlan.{LoadPlan}

abbrev pub answer_of : Refusal → ℕ
answer_of r = r.number + 32 * r.place

abbrev pub answered : Refusal × List ℕ → ℕ × List ℕ
answered w = (answer_of w.0, w.1)

abbrev pub answered_end : Refusal × List ℕ × List ℕ → ℕ × List ℕ × List ℕ
answered_end w = (answer_of w.0, w.1, w.2)

abbrev pub length_told : Writing → Refusal
length_told (Ok n) = record { number = 0; place = n }
length_told (Err r) = r

abbrev pub answered_length : Writing × List ℕ → ℕ × List ℕ
answered_length w = (answer_of (length_told w.0), w.1)

abbrev pub answered_rows : Writing × List Row → ℕ × List Row
answered_rows w = (answer_of (length_told w.0), w.1)

abbrev pub filled_count : Writing → ℕ
filled_count (Ok n) = n
filled_count (Err r) = 0

unfoldable pub load_plan : List ℕ → ℕ → LoadPlan
load_plan b n = let w : Writing = loading_of b n in record { answer = answer_of (length_told w); count = filled_count w }

-- as PAR1_NUMBER and PAR1_VALUE do
pub record Told (r : Refusal) : Type 0 where
  pub number_is : answer_of r % 32 ≡ r.number
  pub place_is : answer_of r / 32 ≡ r.place
  pub fits : answer_of r < 2 ^ 64

abbrev pub Keeps : ℕ × List ℕ → List ℕ → Type 0
Keeps r out = r.0 ≢ 0 → r.1 ≡ out

-- PAR1_NUMBER of the answer is not 0; the bytes, or records
abbrev pub KeepsTold : {A : Type 0} → ℕ × List A → List A → Type 0
KeepsTold r out = r.0 % 32 ≢ 0 → r.1 ≡ out
