-- Sets of numbers below 256 in four words of 64 bits (document 01, "The sheet": "one bit for each file number").
--
--   member ws k       whether k is in the set: bit k mod 64 of word k div 64
--   inserted k ws     the words with the bit of k set
--   removed k ws      the words with the bit of k cleared
--   gathered ws number test m     the words with `number i` more for each i below m that passes a test
--   size_below m set   how many numbers below m are in a set
--   within m ws       whether each number of the set ws is one of 1 to m
--   apart ws ws'      whether no number is in both sets
--   Words ws          ws are four words of 64 bits
-- Assumes nothing.
use Rattle.std.specs.Prelude.{◌≡◌, Bool, not, cond, ◌&&◌, ◌||◌, List, ℕ, zero, suc, ◌+◌, ◌-◌, ◌/◌, ◌%◌, ◌^◌, ◌<◌, eqb, length, get_or, set}
use Rattle.std.specs.Int.Bits.{bit_and, bit_or}
use Rattle.computed_tests.specs.Numbers.{one_to, all_below}

unfoldable pub member : List ℕ → ℕ → Bool
member ws k = eqb (get_or ws (k / 64) 0 / 2 ^ (k % 64) % 2) 1

unfoldable pub inserted : ℕ → List ℕ → List ℕ
inserted k ws = set ws (k / 64) (bit_or (get_or ws (k / 64) 0) (2 ^ (k % 64)))

unfoldable pub removed : ℕ → List ℕ → List ℕ
removed k ws = set ws (k / 64) (bit_and (get_or ws (k / 64) 0) (2 ^ 64 - 1 - 2 ^ (k % 64)))

unfoldable pub gathered : List ℕ → (ℕ → ℕ) → (ℕ → Bool) → ℕ → List ℕ
gathered ws number test zero = ws
gathered ws number test (suc i) = cond (test i) (inserted (number i) (gathered ws number test i)) (gathered ws number test i)

unfoldable pub size_below : ℕ → (ℕ → Bool) → ℕ
size_below zero set = 0
size_below (suc m) set = size_below m set + cond (set m) 1 0

unfoldable pub within : ℕ → List ℕ → Bool
within m ws = all_below 256 (λ k. not (member ws k) || one_to m k)

unfoldable pub apart : List ℕ → List ℕ → Bool
apart ws ws' = all_below 256 (λ k. not (member ws k && member ws' k))

-- what an array of type [u64; 4] holds
pub record Words (ws : List ℕ) : Type 0 where
  pub four : length ws ≡ 4
  pub fits : (j : ℕ) → get_or ws j 0 < 2 ^ 64
