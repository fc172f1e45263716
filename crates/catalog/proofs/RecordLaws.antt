-- The records of rows.
--
--   row-none, whole     the record of row i, where the bytes are too short for it and where they are not
--   row_past, row_in    the same, as the code finds it
--   records_to b n, filled_to b n ys     the records of the first n rows, and the records ys after a load of n
--   length_records, length_filled, filled_more, records_are     their number, a turn of the loop, and the records of rows that lie in the bytes
--   Filling, filling, filling_none     how many records a load fills, and with what
-- Assumes nothing.
use Rattle.std.specs.Prelude.{Ok, Err}
use mathlib.Core.Path.{◌≡◌, refl, sym, ap, ap₂, ◌∙◌}
use mathlib.Core.List.{List, [], ◌∷◌, ◌++◌, map, append_assoc}
use Prim.Native.Nat.{ℕ, zero, suc, ◌+◌, ◌*◌, ◌/◌, ◌<◌, ◌≤◌}
use native.Mathlib.Numerals.{add-one}
use native.Mathlib.Omega.{arith}
use lib.ListN.{length, take, drop, get_or, set, replicate, length-append, length-drop}
use lib.Seq.{take_all, drop-cons, drop-drop, set_at}
use borrow.Author.Tests.{le-leb, lt-leb}
use Rattle.std.specs.Simd.{first_chunks}
use Rattle.little_endian.specs.Bytes.{le_at}
use Rattle.lent_bytes.specs.Writing.{Writing}
use Rattle.refusals.specs.declared.Refusal.{Refusal}
use Rattle.catalog.specs.Catalog.{entry_count, rows_in}
use Rattle.catalog.specs.Calls.{record_of, row_at, loading_of, filled_by}
use Rattle.catalog.specs.declared.records.Row.{Row}
use Rattle.catalog.proofs.CatalogLaws.{is_catalog_lem}
use Rattle.catalog.proofs.RangeLaws.{Loads, loads, loads_not, loading_is}
use Rattle.catalog.proofs.RowLaws.{chunk-row}

module _ (b : List ℕ) (i : ℕ) where
  pub row-none : length b < 16 + 28 * (i + 1) → row_at b i ≡ record { file = 0; size = 0; md5 = replicate 16 0 }
  unfolding row_at
  row-none h = simp (lt-leb (16 + 28 * (i + 1)) (length b) h)

  pub whole : 16 + 28 * (i + 1) ≤ length b → row_at b i ≡ record_of (take 28 (drop (16 + 28 * i) b))
  unfolding row_at
  whole h = simp (le-leb (16 + 28 * (i + 1)) (length b) h)

  -- of the rows that the bytes after the head are cut into
  module _ {part : List ℕ} {rows : List (List ℕ)} (part_is : part ≡ take (length b) (drop 16 b))
      (count : length rows ≡ length part / 28) (rows_are : rows ≡ first_chunks 28 (length part / 28) part) where
    after_head : part ≡ drop 16 b
    after_head = part_is ∙ take_all (length b) (drop 16 b) (omega (arith, length-drop 16 b))

    pub row_past : length rows ≤ i → row_at b i ≡ record { file = 0; size = 0; md5 = replicate 16 0 }
    row_past h = row-none (omega (arith, count, ap length after_head, length-drop 16 b))

    pub row_in : {row hash : List ℕ} {number size : ℕ} → i < length rows → row ≡ get_or rows i [] → number ≡ le_at 4 row 0
        → size ≡ le_at 8 row 4 → hash ≡ take 16 (drop 12 row) → ◌≡◌ {A = Row} (record { file = number; size = size; md5 = hash }) (row_at b i)
    row_in {row} h row_is number_is size_is hash_is =
        let same : row ≡ take 28 (drop (16 + 28 * i) b) =
        row_is ∙ ap (λ (l : List (List ℕ)). get_or l i []) rows_are ∙ chunk-row i (length part / 28) part [] (omega (arith, count))
        ∙ ap (λ (q : List ℕ). take 28 (drop (28 * i) q)) after_head ∙ ap (take 28) (drop-drop (28 * i) 16 b) in
        (λ j. record { file = number_is j; size = size_is j; md5 = hash_is j })
        ∙ ap (λ (r : List ℕ). record_of r) same ∙ sym (whole (omega (arith, count, ap length after_head, length-drop 16 b)))

-- ---- filled one after another

-- the records of the first n rows
unfoldable pub records_to : List ℕ → ℕ → List Row
records_to b zero = []
records_to b (suc n) = records_to b n ++ (row_at b n ∷ [])

-- the records after a load of n
abbrev pub filled_to : List ℕ → ℕ → List Row → List Row
filled_to b n ys = records_to b n ++ drop n ys

length_records : (b : List ℕ) (n : ℕ) → length (records_to b n) ≡ n
unfolding records_to
length_records b zero = refl
length_records b (suc n) = omega (arith, length-append (records_to b n) (row_at b n ∷ []), length_records b n)

pub length_filled : (b : List ℕ) (n : ℕ) (ys : List Row) → n ≤ length ys → length (filled_to b n ys) ≡ length ys
length_filled b n ys l = omega (arith, length-append (records_to b n) (drop n ys), length_records b n, length-drop n ys)

-- a turn: row i is stored at i
pub filled_more : (b : List ℕ) (i : ℕ) (ys : List Row) (r : Row) → r ≡ row_at b i → i < length ys → set (filled_to b i ys) i r ≡ filled_to b (i + 1) ys
unfolding records_to
filled_more b i ys r e l =
    ap (λ (zs : List Row). set (records_to b i ++ zs) i r) (drop-cons ys i r l)
    ∙ set_at (records_to b i) (get_or ys i r) (drop (suc i) ys) r i (length_records b i)
    ∙ ap (λ (q : Row). records_to b i ++ (q ∷ drop (suc i) ys)) e
    ∙ sym (append_assoc (records_to b i) (row_at b i ∷ []) (drop (suc i) ys))
    ∙ ap (λ (n : ℕ). filled_to b n ys) (sym (add-one i))

rows_last : (n : ℕ) (s : List ℕ) → rows_in (suc n) s ≡ rows_in n s ++ (take 28 (drop (28 * n) s) ∷ [])
unfolding rows_in
rows_last zero s = refl
rows_last (suc n) s = let e : 28 + 28 * n ≡ 28 * suc n = omega arith in
    simp (rows_last n (drop 28 s), drop-drop (28 * n) 28 s, e)

map-append : (f : List ℕ → Row) (xs ys : List (List ℕ)) → map f (xs ++ ys) ≡ map f xs ++ map f ys
map-append f [] ys = refl
map-append f (x ∷ xs) ys = ap (λ (l : List Row). f x ∷ l) (map-append f xs ys)

-- the records of rows that lie in the bytes
records_are : (b : List ℕ) (n : ℕ) → 16 + 28 * n ≤ length b → records_to b n ≡ map (λ r. record_of r) (rows_in n (drop 16 b))
unfolding records_to rows_in
records_are b zero h = refl
records_are b (suc n) h = let e : 28 * n + 16 ≡ 16 + 28 * n = omega arith in
    let here : row_at b n ≡ record_of (take 28 (drop (28 * n) (drop 16 b))) = simp (whole b n (omega arith), drop-drop) in
    ap₂ (λ (l : List Row) (r : Row). l ++ (r ∷ [])) (records_are b n (omega arith)) here
    ∙ sym (ap (map (λ r. record_of r)) (rows_last n (drop 16 b)) ∙ map-append (λ r. record_of r) (rows_in n (drop 16 b)) (take 28 (drop (28 * n) (drop 16 b)) ∷ []))

-- ---- loading

-- how many records are filled, and with what
pub record Filling (b : List ℕ) (ys : List Row) (count : ℕ) : Type 0 where
  pub most : count ≤ length ys
  pub filled_is : filled_to b count ys ≡ filled_by (loading_of b (length ys)) b ys

module _ (b : List ℕ) (ys : List Row) where
  pub filling : (n : ℕ) → loading_of b (length ys) ≡ Ok n → Filling b ys n
  filling n e = by (loading_of b (length ys)) (loading_is b (length ys)) e refl
    where
      by : (w : Writing) → Loads b (length ys) w → w ≡ Ok n → loading_of b (length ys) ≡ w → Filling b ys n
      by (Ok k) (loads c few) z y = let count : entry_count b ≡ n = cc in
          let within = (is_catalog_lem b c).within in
          record {
            most = omega arith;
            filled_is = ap (λ (l : List Row). l ++ drop n ys) (records_are b n (omega arith)
                ∙ ap (λ (m : ℕ). map (λ r. record_of r) (rows_in m (drop 16 b))) (sym count)) ∙ ap (λ (w : Writing). filled_by w b ys) (sym e);
          }
      by (Err r) (loads_not low) z y = absurd (let n : ◌≡◌ {A = ℕ} 0 1 = cc in omega arith)

  pub filling_none : {r : Refusal} → loading_of b (length ys) ≡ Err r → Filling b ys 0
  unfolding records_to
  filling_none e = record { most = omega arith; filled_is = ap (λ (w : Writing). filled_by w b ys) (sym e) }
