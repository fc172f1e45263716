-- Which missing files are recoverable now (document 02, 2026-11), over any rule for the coefficients of each code.
--
--   RecoverableFiles             a set of files, and 0 or the number of a refusal
--   RecoverableSet rules s r     r is the set of the files of the inventory s that are missing and recoverable, by the rule of its code, or its refusal
-- Assumes nothing.
use Rattle.std.specs.Prelude.{◌≡◌, ◌↔◌, true, false, List, ℕ, replicate}
use Rattle.number_sets.specs.Sets.{member, Words}
use Rattle.codes.specs.declared.Code.{Code}
use Rattle.recovery.specs.Recoverable.{RecoverableNow}
use Rattle.inventory.specs.Steps.{is_inventory}
use Rattle.inventory.specs.Query.{state_of, Matches}
use Rattle.inventory.specs.declared.Inventory.{Inventory}

pub record RecoverableFiles : Type 0 where
  pub files : List ℕ
  pub number : ℕ

pub record RecoverableSet (rules : Code → ℕ → ℕ → ℕ) (s : Inventory) (r : RecoverableFiles) : Type 0 where
  -- "Every call refuses with 10, first of all, a sheet that opening and accepted calls could not have given"
  pub first : is_inventory s ≡ false → r ≡ record { files = replicate 4 0; number = 10 }
  pub accepted : is_inventory s ≡ true → r.number ≡ 0
  -- of all sizes that the inventory can stand for
  pub exactly : is_inventory s ≡ true → (size : ℕ → ℕ) → Matches s size
      → (f : ℕ) → (member r.files f ≡ true) ↔ RecoverableNow (rules s.code) (state_of s size) f
  -- so these words have no other bit
  pub words : Words r.files
