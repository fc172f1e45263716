-- The set of the recoverable files meets its promise.
--
--   set-refused      for an inventory that no calls give
--   set-gathered     for any other
--   set_there        so there is a set that meets the promise
-- Assumes nothing.
use mathlib.Core.Path.{◌≡◌, refl, sym, ◌∙◌}
use mathlib.Core.Bool.{Bool, true, false, true≢false}
use mathlib.Core.List.{List}
use Prim.Native.Nat.{ℕ, ◌<◌}
use lib.ListN.{replicate}
use Rattle.codes.specs.declared.Code.{Code}
use Rattle.number_sets.specs.Sets.{member}
use Rattle.number_sets.proofs.Words.{words_none}
use Rattle.recovery.specs.Answers.{Gathered}
use Rattle.recovery.proofs.GatheredLaws.{gathered_exactly, set_words, gathered_there}
use Rattle.inventory.specs.Steps.{is_inventory}
use Rattle.inventory.specs.RecoverableFiles.{RecoverableFiles, RecoverableSet}
use Rattle.inventory.specs.declared.Inventory.{Inventory}
use Rattle.number_sets.proofs.Ranges.{within_bits}
use Rattle.inventory.proofs.ValidInventories.{few_files, nonempty_valid}

pub set-refused : (rules : Code → ℕ → ℕ → ℕ) (s : Inventory) → is_inventory s ≡ false → RecoverableSet rules s record { files = replicate 4 0; number = 10 }
set-refused rules s e = record {
  first = λ _. refl;
  accepted = λ v. absurd (true≢false (sym v ∙ e));
  exactly = λ v. absurd (true≢false (sym v ∙ e));
  words = words_none;
}

module _ (rules : Code → ℕ → ℕ → ℕ) (small : (c : Code) (f v : ℕ) → f < 256 → rules c f v < 256) where
  pub set-gathered : (s : Inventory) → is_inventory s ≡ true
      → (r : List ℕ) → Gathered (rules s.code) s.n s.files s.volumes s.nonempty r → RecoverableSet rules s record { files = r; number = 0 }
  set-gathered s valid r G = record {
    first = λ e. absurd (true≢false (sym valid ∙ e));
    accepted = λ _. refl;
    exactly = λ _ size matches f.
        gathered_exactly (rules s.code) (small s.code) s.n (few_files s valid) s.files s.volumes s.nonempty r G
        (within_bits s.n s.nonempty (nonempty_valid s valid)) (member s.quarantined) s.code size matches f;
    words = set_words (rules s.code) s.n s.files s.volumes s.nonempty r G;
  }

  pub set_there : (s : Inventory) → (r : RecoverableFiles) × RecoverableSet rules s r
  set_there s = go (is_inventory s) refl
    where
      go : (v : Bool) → is_inventory s ≡ v → (r : RecoverableFiles) × RecoverableSet rules s r
      go true v = let (r, G) = gathered_there (rules s.code) s.n s.files s.volumes s.nonempty in
          (_, set-gathered s v r G)
      go false v = (_, set-refused rules s v)
