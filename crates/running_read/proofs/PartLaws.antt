-- Parts of two lists in a row, and the header of a file whose bytes come in chunks.
--
--   order                 a number is below another, or not
--   take_row, drop-row    the first elements of two lists in a row, and those after them
--   header_of m            the header after the bytes m: zeros where it has not come
--   header_full           that of a file with a header is its first 96 bytes
--   header_more           the header after some bytes more
--   header_size           it says the size of the list
-- Assumes nothing.
use mathlib.Core.Path.{◌≡◌, refl, sym, ap, ◌∙◌}
use mathlib.Core.Bool.{Bool, true, false}
use mathlib.Core.Logic.{◌⊎◌, inl, inr}
use mathlib.Core.List.{List, [], ◌∷◌, ◌++◌, append-nil}
use Prim.Native.Nat.{ℕ, zero, suc, ◌-◌, ◌≤◌, ◌<◌}
use native.Mathlib.Nat.{zero-add, sub-zero, zero-sub, suc-sub-suc}
use native.Mathlib.Omega.{arith}
use borrow.Author.Tests.{ltb-true, ltb-false}
use lib.Dec.{ltb}
use lib.ListN.{length, take, drop, replicate, drop_of_length-le, length-replicate}
use lib.Seq.{sets, length-take-le}
use Rattle.little_endian.specs.Bytes.{from_le, le_at}
use Rattle.little_endian.proofs.Stores.{sets_append}
use Rattle.lent_bytes.proofs.PartLaws.{part_take}
use Rattle.lent_bytes.proofs.StoreLaws.{sets_over, sets_fitting}
use Rattle.par1_rules.specs.Layout.{list_size_of}

pub order : (m n : ℕ) → (m < n) ⊎ (n ≤ m)
order m n = by (ltb m n) refl
  where
    by : (t : Bool) → ltb m n ≡ t → (m < n) ⊎ (n ≤ m)
    by true e = inl (ltb-true m n e)
    by false e = inr (ltb-false m n e)

pub take_row : (n : ℕ) (m r : List ℕ) → take n (m ++ r) ≡ take n m ++ take (n - length m) r
take_row zero m r = sym (ap (λ (k : ℕ). take k r) (zero-sub (length m)))
take_row (suc n) [] r = sym (ap (λ (k : ℕ). take k r) (sub-zero (suc n)))
take_row (suc n) (a ∷ m) r =
    ap (λ (l : List ℕ). a ∷ l) (take_row n m r ∙ ap (λ (k : ℕ). take n m ++ take k r) (sym (suc-sub-suc n (length m))))

pub drop-row : (n : ℕ) (m r : List ℕ) → drop n (m ++ r) ≡ drop n m ++ drop (n - length m) r
drop-row zero m r = sym (ap (λ (k : ℕ). m ++ drop k r) (zero-sub (length m)))
drop-row (suc n) [] r = sym (ap (λ (k : ℕ). drop k r) (sub-zero (suc n)))
drop-row (suc n) (a ∷ m) r = drop-row n m r ∙ ap (λ (k : ℕ). drop n m ++ drop k r) (sym (suc-sub-suc n (length m)))

-- ---- the header

abbrev pub header_of : List ℕ → List ℕ
header_of m = sets (replicate 96 0) 0 m

pub header_more : (m s : List ℕ) → sets (header_of m) (length m) s ≡ header_of (m ++ s)
header_more m s = sym (sets_append (replicate 96 0) 0 m s ∙ ap (λ (k : ℕ). sets (header_of m) k s) (zero-add (length m)))

module _ (m : List ℕ) (long : 96 ≤ length m) where
  pub header_full : header_of m ≡ take 96 m
  header_full = let zeros : List ℕ = replicate 96 0 in
      let size : length zeros ≡ 96 = length-replicate {A = ℕ} 96 0 in
      let front : length (take 96 m) ≡ 96 = length-take-le 96 m long in
      sym (sets_fitting zeros m 0 96 (omega arith)) ∙ sets_over zeros (take 96 m) (omega arith)
      ∙ ap (λ (l : List ℕ). take 96 m ++ l) (drop_of_length-le zeros {i = length (take 96 m)} (omega arith)) ∙ append-nil (take 96 m)

  pub header_size : list_size_of (header_of m) ≡ list_size_of m
  unfolding le_at
  header_size = ap (λ (l : List ℕ). list_size_of l) header_full ∙ ap from_le (part_take 72 8 96 m (omega arith))
