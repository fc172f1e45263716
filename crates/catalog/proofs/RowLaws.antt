-- Rows one after another, and their fields.
--
--   chunks-rows, chunk-row     the rows that the library cuts bytes into, and one of them
--   length-rows, flatten-rows, rows_sized, rows_back     rows one after another
--   Sized r          the row r has 28 bytes
--   length-flatten, length-row     the lengths of rows
--   number_row, size_row, hash_row     the fields of a row that was made
--   row-over         a row stored field by field
-- Assumes nothing.
use mathlib.Core.Path.{◌≡◌, refl, sym, ap, ◌∙◌}
use mathlib.Core.List.{List, [], ◌∷◌, ◌++◌, flatten, append_assoc, append-nil}
use Prim.Native.Nat.{ℕ, zero, suc, ◌+◌, ◌*◌, ◌%◌, ◌^◌, ◌≤◌, ◌<◌}
use native.Mathlib.Omega.{arith}
use lib.ListN.{length, take, drop, get_or, length-append, length-drop, drop_of_length-le}
use lib.Seq.{length-take-le, take_at, drop_at, take-add, drop-drop}
use Rattle.cut_lists.specs.All.{All, all_none, all_more}
use Rattle.std.specs.Simd.{first_chunks}
use Rattle.little_endian.specs.Bytes.{to_le}
use Rattle.little_endian.proofs.Numbers.{length-to_le, to_mod}
use Rattle.lent_bytes.proofs.StoreLaws.{Stores, stores_flatten, sets_over}
use Rattle.lent_bytes.proofs.PartsInRow.{At, at_part, at_next, at_number}
use Rattle.catalog.specs.Rows.{row, number_of, size_of, hash_of}
use Rattle.catalog.specs.Catalog.{rows_in}

-- ---- all rows

-- as the library cuts bytes into them
pub chunks-rows : (n m : ℕ) (s : List ℕ) → n ≤ m → take n (first_chunks 28 m s) ≡ rows_in n s
unfolding rows_in
chunks-rows zero m s h = refl
chunks-rows (suc n) zero s h = absurd (omega arith)
chunks-rows (suc n) (suc m) s h = ap (λ (t : List (List ℕ)). take 28 s ∷ t) (chunks-rows n m (drop 28 s) (omega arith))

pub length-rows : (n : ℕ) (s : List ℕ) → length (rows_in n s) ≡ n
unfolding rows_in
length-rows zero s = refl
length-rows (suc n) s = ap suc (length-rows n (drop 28 s))

pub flatten-rows : (n : ℕ) (s : List ℕ) → flatten (rows_in n s) ≡ take (28 * n) s
unfolding rows_in flatten
flatten-rows zero s = refl
flatten-rows (suc n) s = let e : 28 + 28 * n ≡ 28 * suc n = omega arith in
    ap (λ (t : List ℕ). take 28 s ++ t) (flatten-rows n (drop 28 s)) ∙ sym (take-add 28 (28 * n) s) ∙ ap (λ (k : ℕ). take k s) e

pub chunk-row : (i m : ℕ) (s d : List ℕ) → i < m → get_or (first_chunks 28 m s) i d ≡ take 28 (drop (28 * i) s)
chunk-row i zero s d h = absurd (omega arith)
chunk-row zero (suc m) s d h = refl
chunk-row (suc i) (suc m) s d h = let e : 28 + 28 * i ≡ 28 * suc i = omega arith in
    chunk-row i m (drop 28 s) d (omega arith) ∙ ap (take 28) (drop-drop (28 * i) 28 s ∙ ap (λ (k : ℕ). drop k s) e)

abbrev pub Sized : List ℕ → Type 0
Sized r = length r ≡ 28

pub rows_sized : (n : ℕ) (s : List ℕ) → 28 * n ≤ length s → All Sized (rows_in n s)
unfolding rows_in
rows_sized zero s h = all_none
rows_sized (suc n) s h = all_more (length-take-le 28 s (omega arith)) (rows_sized n (drop 28 s) (omega (arith, length-drop 28 s)))

pub rows_back : {rs : List (List ℕ)} → All Sized rs → (t : List ℕ) → rows_in (length rs) (flatten rs ++ t) ≡ rs
unfolding rows_in flatten
rows_back all_none t = refl
rows_back (all_more {x} {xs} p ps) t = let joined = append_assoc x (flatten xs) t in
    simp (joined, take_at x (flatten xs ++ t) 28 p, drop_at x (flatten xs ++ t) 28 p, rows_back ps t)

pub length-flatten : {rs : List (List ℕ)} → All Sized rs → length (flatten rs) ≡ 28 * length rs
unfolding flatten
length-flatten all_none = refl
length-flatten (all_more {x} {xs} p ps) = omega (arith, length-append x (flatten xs), length-flatten ps)

-- ---- the fields of a row

module _ (number size : ℕ) (hash : List ℕ) where
  pub length-row : length hash ≡ 16 → length (row number size hash) ≡ 28
  unfolding row flatten
  length-row h = simp (length-append, length-to_le) (omega arith)

  in_row : At (row number size hash) 0 (to_le 4 number ∷ to_le 8 size ∷ hash ∷ [])
  unfolding row
  in_row = record { joined = refl }

  pub number_row : number < 2 ^ 32 → number_of (row number size hash) ≡ number
  number_row h = at_number 4 number h in_row

  pub size_row : size < 2 ^ 64 → size_of (row number size hash) ≡ size
  size_row h = at_number 8 size h (at_next 4 (length-to_le 4 number) in_row)

  pub hash_row : length hash ≡ 16 → hash_of (row number size hash) ≡ hash
  hash_row h = at_part 16 h (at_next 8 (length-to_le 8 size) (at_next 4 (length-to_le 4 number) in_row))

  -- stored over as many bytes, field by field
  pub row-over : {s u : List ℕ} {low : ℕ} → low ≡ number % 2 ^ 32 → length hash ≡ 16 → length s ≡ 28
      → Stores s 0 (to_le 4 low ∷ to_le 8 size ∷ hash ∷ []) u → u ≡ row number size hash
  unfolding row flatten
  row-over {s} {u} {low} e h k stores = let r : List ℕ = row number size hash in
      let same : to_le 4 low ≡ to_le 4 number = ap (to_le 4) e ∙ to_mod 4 number in
      let n : length r ≡ 28 = length-row h in
      simp (stores_flatten stores, same, sets_over s r (omega arith), drop_of_length-le s {i = length r} (omega arith), append-nil r)
