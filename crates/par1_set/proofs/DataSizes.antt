-- The data size is the greatest size of a saved file, by file number.
--
--   greatest_first     the greatest of some sizes, from the first one on
--   greatest-same      that of sizes that are the same
--   greatest-listed    that of files in a list
--   saved_size         the data size
-- Assumes nothing.
use mathlib.Core.Path.{◌≡◌, refl, sym, ap, ap₂, ◌∙◌}
use mathlib.Core.List.{List, [], ◌∷◌, map, foldr}
use Prim.Native.Nat.{ℕ, zero, suc, ◌-◌, ◌≤◌, ◌<◌, max}
use native.Mathlib.Omega.{arith}
use lib.ListN.{length, get_or}
use Rattle.entries.specs.Entry.{is_counted}
use Rattle.parity.specs.Parity.{greatest}
use Rattle.par1_set.specs.Files.{File, no_file, saved_files, file_count, contents_of, data_size_for}

greatest_first : (n : ℕ) (size : ℕ → ℕ) → greatest (suc n) size ≡ max (size 1) (greatest n (λ f. size (suc f)))
unfolding greatest
greatest_first zero size = omega arith
greatest_first (suc n) size = let e = greatest_first n size in omega arith

greatest-same : (n : ℕ) (s t : ℕ → ℕ) → ((f : ℕ) → 0 < f → f ≤ n → s f ≡ t f) → greatest n s ≡ greatest n t
unfolding greatest
greatest-same zero s t same = refl
greatest-same (suc n) s t same =
    ap₂ max (greatest-same n s t (λ f pos h. same f pos (omega arith))) (same (suc n) (omega arith) (omega arith))

greatest-listed : (xs : List File)
    → greatest (length xs) (λ f. length (get_or xs (f - 1) no_file).contents) ≡ foldr max 0 (map (λ x. length x.contents) xs)
unfolding greatest
greatest-listed [] = refl
greatest-listed (x ∷ xs) =
    greatest_first (length xs) (λ f. length (get_or (x ∷ xs) (f - 1) no_file).contents)
    ∙ ap (max (length x.contents)) (greatest-same (length xs) _ _ next ∙ greatest-listed xs)
  where
    next : (f : ℕ) → 0 < f → f ≤ length xs
        → length (get_or (x ∷ xs) (suc f - 1) no_file).contents ≡ length (get_or xs (f - 1) no_file).contents
    next f pos h = let n : suc f - 1 ≡ suc (f - 1) = omega arith in
        ap (λ (k : ℕ). length (get_or (x ∷ xs) k no_file).contents) n

pub saved_size : (fs : List File) → data_size_for fs ≡ greatest (file_count fs) (λ f. length (contents_of fs f))
unfolding is_counted
saved_size fs = sym (greatest-listed (saved_files fs))
