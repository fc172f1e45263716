-- The entry rows of a list, entry by entry.
--
--   Left n k es, left_all     what is known of the entries es that remain of a list of n bytes, where k saved ones stand before them
--   Next, left_more       one of them, and the others
--   hash_length, row_length     the lengths of its hash and of its row
--   rows_next             the first of their rows, and the others
--   store_next            a row stored, and the others
--   compare_next, compare_other, compare_end     a row compared, and the others
--   length-rows-after, rows_sized_for     as many rows as entries, of 28 bytes each
-- Assumes nothing.
use mathlib.Core.Path.{◌≡◌, refl, sym, ap, ap₂, ◌∙◌}
use mathlib.Core.Bool.{Bool, true, false}
use mathlib.Core.List.{List, [], ◌∷◌, ◌++◌, flatten}
use Prim.Native.Nat.{ℕ, suc, ◌+◌, ◌≤◌}
use native.Mathlib.Omega.{arith}
use lib.Dec.{eqb}
use lib.Pointwise.{pointwise}
use lib.ListN.{length, take, drop, length-drop, take-append-drop}
use lib.Seq.{sets, length-take-le, take_at}
use borrow.Author.Tests.{eq-eqb, ne_eqb}
use Rattle.cut_lists.specs.All.{All, all_none, all_more}
use Rattle.little_endian.proofs.Stores.{sets_append}
use Rattle.lent_bytes.specs.Equal.{equal}
use Rattle.lent_bytes.proofs.EqualLaws.{equal-same, equal_true, equal_slices}
use Rattle.entries.specs.Entry.{status_of, md5_of, saved_count}
use Rattle.entries.specs.Walk.{entries_of}
use Rattle.entries.proofs.WalkLaws.{entries_long, entries_most, saved_most}
use Rattle.catalog.specs.Rows.{entry_row, file_number_after, rows_after}
use Rattle.catalog.proofs.RowLaws.{Sized, length-row}

pub length-rows-after : (k : ℕ) (es : List (List ℕ)) → length (rows_after k es) ≡ length es
unfolding rows_after
length-rows-after k [] = refl
length-rows-after k (e ∷ es) = ap suc (length-rows-after (k + saved_count (status_of e)) es)

-- ---- the entries that remain

abbrev Long : List ℕ → Type 0
Long e = 58 ≤ length e

pub record Left (n k : ℕ) (es : List (List ℕ)) : Type 0 where
  pub long : All Long es
  pub few : k + length es ≤ n

pub left_all : (s : List ℕ) → Left (length s) 0 (entries_of s).pieces
left_all s = record { long = entries_long s; few = omega (arith, entries_most s) }

-- one of them
pub record Next (n k : ℕ) (e : List ℕ) (es : List (List ℕ)) : Type 0 where
  pub long : 58 ≤ length e
  pub fits : k + 1 ≤ n
  pub left : Left n (k + saved_count (status_of e)) es

pub left_more : {n k : ℕ} {es more : List (List ℕ)} {e : List ℕ} → es ≡ e ∷ more → Left n k es → Next n k e more
left_more {n} {k} {es} {more} {e} is l = by (rw is at l.long) (omega (arith, l.few, ap length is))
  where
    by : All Long (e ∷ more) → k + suc (length more) ≤ n → Next n k e more
    by (all_more h hs) few =
        record { long = h; fits = omega arith; left = record { long = hs; few = omega (arith, saved_most (status_of e)) } }

module _ (e : List ℕ) (h : 58 ≤ length e) where
  pub hash_length : length (md5_of e) ≡ 16
  hash_length = length-take-le 16 (drop 24 e) (omega (arith, length-drop 24 e))

  pub row_length : (number : ℕ) → length (entry_row number e) ≡ 28
  row_length number = length-row number _ _ hash_length

-- ---- the first of their rows, and the others

pub rows_next : (k : ℕ) (e : List ℕ) {es more : List (List ℕ)} {row : List ℕ} → es ≡ e ∷ more → row ≡ entry_row (file_number_after k (status_of e)) e
    → rows_after k es ≡ row ∷ rows_after (k + saved_count (status_of e)) more
unfolding rows_after
rows_next k e {es} {more} is row_is = ap (rows_after k) is ∙ ap (λ (r : List ℕ). r ∷ rows_after (k + saved_count (status_of e)) more) (sym row_is)

-- ---- stored one after another

pub store_next : {rs : List (List ℕ)} (out r : List ℕ) (at : ℕ) (more : List (List ℕ)) {t : List ℕ} → length r ≡ 28 → rs ≡ r ∷ more
    → t ≡ sets out at r → sets t (at + 28) (flatten more) ≡ sets out at (flatten rs)
unfolding flatten
store_next out r at more {t} n e put = simp (put, n, sets_append, e)

-- ---- compared one after another

equal_after : (a s t : List ℕ) → equal (a ++ s) (a ++ t) ≡ equal s t
unfolding equal
equal_after [] s t = refl
equal_after (x ∷ a) s t = simp (eq-eqb x x refl, equal_after a s t)

module _ {rs : List (List ℕ)} (r : List ℕ) (more : List (List ℕ)) (t : List ℕ) (e : rs ≡ r ∷ more) where
  pub compare_next : {rest : List ℕ} → pointwise eqb (take (length r) t) r ≡ true → rest ≡ drop (length r) t
      → equal (flatten rs) t ≡ equal (flatten more) rest
  unfolding flatten
  compare_next {rest} same rest_is = let front : take (length r) t ≡ r = equal_true _ _ (sym (equal_slices (take (length r) t) r) ∙ same) in
      let joined : t ≡ r ++ rest = sym (take-append-drop (length r) t) ∙ ap₂ ◌++◌ front (sym rest_is) in
      ap₂ (λ (rs : List (List ℕ)) (t : List ℕ). equal (flatten rs) t) e joined ∙ equal_after r (flatten more) rest

  pub compare_other : pointwise eqb (take (length r) t) r ≡ false → equal (flatten rs) t ≡ false
  unfolding flatten
  compare_other other = ap (λ (rs : List (List ℕ)). equal (flatten rs) t) e ∙ by (equal (r ++ flatten more) t) refl
    where
      by : (b : Bool) → b ≡ equal (r ++ flatten more) t → b ≡ false
      by true z = let front : take (length r) t ≡ r =
          ap (take (length r)) (sym (equal_true (r ++ flatten more) t (sym z))) ∙ take_at r (flatten more) (length r) refl in
          sym (equal-same front) ∙ sym (equal_slices (take (length r) t) r) ∙ other
      by false z = refl

pub compare_end : (t : List ℕ) → equal [] t ≡ eqb (length t) 0
unfolding equal
compare_end [] = refl
compare_end (x ∷ t) = sym (ne_eqb (suc (length t)) 0 (λ e. omega arith))

-- ---- the length of the rows

after_sized : (k : ℕ) {es : List (List ℕ)} → All (λ e. 58 ≤ length e) es → All Sized (rows_after k es)
unfolding rows_after
after_sized k all_none = all_none
after_sized k (all_more {x} {xs} h hs) = all_more (row_length x h _) (after_sized (k + saved_count (status_of x)) hs)

pub rows_sized_for : (s : List ℕ) → All Sized (rows_after 0 (entries_of s).pieces)
rows_sized_for s = after_sized 0 (entries_long s)
