-- Tests of numbers that definitions share.
--
--   one_to m k            whether k is one of 1 to m
--   all_below m test      whether the test passes at each number below m
-- Assumes nothing.
use Rattle.std.specs.Prelude.{Bool, true, ◌&&◌, ℕ, zero, suc, leb}

abbrev pub one_to : ℕ → ℕ → Bool
one_to m k = leb 1 k && leb k m

abbrev pub all_below : ℕ → (ℕ → Bool) → Bool
all_below zero test = true
all_below (suc m) test = test m && all_below m test
