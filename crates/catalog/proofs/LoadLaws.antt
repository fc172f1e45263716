-- What loading tells of each entry of the list.
--
--   loads      the records are filled in the order of the list, each with the file number, size and hash of its entry
-- Assumes nothing.
use Rattle.std.specs.Prelude.{Ok}
use mathlib.Core.Path.{◌≡◌, refl, sym, ap, ap₂, ◌∙◌, subst}
use mathlib.Core.Bool.{Bool, true, false, cond}
use mathlib.Core.List.{List, [], ◌∷◌, ◌++◌, map}
use Prim.Native.Nat.{ℕ, zero, suc, ◌+◌, ◌≤◌, ◌<◌}
use native.Mathlib.Nat.{zero-add}
use native.Mathlib.Omega.{arith}
use lib.ListN.{length, take, drop, get_or, length-append, length-drop, length-map, get_or-append}
use lib.Seq.{length-take-le, drop_at}
use lib.Dec.{leb}
use borrow.Author.Tests.{leb-true, le-leb}
use Rattle.cut_lists.proofs.AllLaws.{all_at}
use Rattle.refusals.specs.Limits.{max_file_size}
use Rattle.entries.specs.Entry.{status_of, file_size_of, md5_of, is_saved, saved_count}
use Rattle.entries.specs.Claim.{Keeps}
use Rattle.entries.specs.Numbering.{saved_of, file_number}
use Rattle.entries.proofs.EntryLaws.{sized}
use Rattle.entries.proofs.KeepLaws.{keep_at}
use Rattle.par1_read.specs.Reading.{entries_in}
use Rattle.catalog.specs.Rows.{entry_row, rows_after, rows_for}
use Rattle.catalog.specs.Catalog.{entry_count, entry_rows, is_catalog}
use Rattle.catalog.specs.Calls.{record_of, loading_of, load_of}
use Rattle.catalog.specs.Claim.{record_for, Loaded}
use Rattle.catalog.specs.declared.records.Row.{Row}
use Rattle.catalog.proofs.FileRows.{FileRows}
use Rattle.catalog.proofs.RowLaws.{number_row, size_row, hash_row}

-- ---- the rows of the entries, by place

-- the file number of entry k, where m saved ones stand before the list
abbrev number_after : ℕ → List (List ℕ) → ℕ → ℕ
number_after m es k = cond (is_saved (status_of (get_or es k []))) (m + length (saved_of (take k es)) + 1) 0

number_next : (b t : Bool) (m n : ℕ) (e : List ℕ) (es : List (List ℕ)) → length es ≡ n
    → cond b (m + cond t 1 0 + n + 1) 0 ≡ cond b (m + length (cond t (e ∷ es) es) + 1) 0
number_next true true m n e es h = omega arith
number_next true false m n e es h = omega arith
number_next false t m n e es h = refl

row_at : (m : ℕ) (es : List (List ℕ)) (k : ℕ) → k < length es → get_or (rows_after m es) k [] ≡ entry_row (number_after m es k) (get_or es k [])
unfolding rows_after
row_at m [] k h = absurd (omega arith)
row_at m (e ∷ es) zero h = let n : m + 1 ≡ m + 0 + 1 = omega arith in
    ap (λ (k : ℕ). entry_row (cond (is_saved (status_of e)) k 0) e) n
row_at m (e ∷ es) (suc k) h =
    row_at (m + saved_count (status_of e)) es k (omega arith)
    ∙ ap (λ (n : ℕ). entry_row n (get_or es k []))
    (number_next (is_saved (status_of (get_or es k []))) (is_saved (status_of e)) m (length (saved_of (take k es))) e (saved_of (take k es)) refl)

get_d_mapped : (f : List ℕ → Row) (l : List (List ℕ)) (k : ℕ) (d : Row) → k < length l → get_or (map f l) k d ≡ f (get_or l k [])
get_d_mapped f [] k d h = absurd (omega arith)
get_d_mapped f (x ∷ l) zero d h = refl
get_d_mapped f (x ∷ l) (suc k) d h = get_d_mapped f l k d (omega arith)

-- ---- the records

module _ (f : List ℕ) (r : FileRows f) where
  abbrev es : List (List ℕ)
  es = entries_in f

  number_low : (k : ℕ) → k < length es → file_number es k ≤ 255
  number_low k h = by (is_saved (status_of (get_or es k []))) refl
    where
      by : (t : Bool) → is_saved (status_of (get_or es k [])) ≡ t → cond t (length (saved_of (take k es)) + 1) 0 ≤ 255
      by true z = let at = keep_at (λ e. is_saved (status_of e)) [] es k h z in omega (arith, at.within, r.saved_few)
      by false z = omega arith

  record_at : (k : ℕ) → k < length es → record_of (get_or (rows_for es) k []) ≡ record_for es k
  record_at k h = let e : List ℕ = get_or es k [] in
      let n : ℕ = file_number es k in
      let keeps : Keeps e = all_at [] r.keep_rules k h in
      let long : 58 ≤ length e = (sized (length e) (length e) keeps.size_right).low in
      let size : file_size_of e ≤ max_file_size = leb-true _ _ keeps.file_size_right in
      let hash : length (md5_of e) ≡ 16 = length-take-le 16 (drop 24 e) (omega (arith, length-drop 24 e)) in
      let number : number_after 0 es k ≡ n =
      ap (λ (m : ℕ). cond (is_saved (status_of e)) (m + 1) 0) (zero-add (length (saved_of (take k es)))) in
      ap (λ (x : List ℕ). record_of x) (row_at 0 es k h ∙ ap (λ (m : ℕ). entry_row m e) number)
      ∙ fields (number_row n (file_size_of e) (md5_of e) (omega (arith, number_low k h))) (size_row n (file_size_of e) (md5_of e) (omega arith))
      (hash_row n (file_size_of e) (md5_of e) hash)
    where
      fields : {a b c d : ℕ} {x y : List ℕ} → a ≡ b → c ≡ d → x ≡ y → ◌≡◌ {A = Row} (record { file = a; size = c; md5 = x }) (record { file = b; size = d; md5 = y })
      fields p q s = cc

  pub loads : (room : List ℕ) (rows : List Row) → is_catalog room ≡ true → entry_count room ≡ length es → entry_rows room ≡ rows_for es
      → length es ≤ length rows → Loaded es rows (load_of room rows)
  unfolding loading_of
  loads room rows is count entries fits =
      let right : leb (entry_count room) (length rows) ≡ true = le-leb (entry_count room) (length rows) (omega (arith, count)) in
      let records : List Row = map (λ r. record_of r) (rows_for es) in
      let many : length records ≡ length es = length-map (rows_for es) (λ r. record_of r) ∙ r.count in
      let after : List Row = records ++ drop (length es) rows in
      let gives : load_of room rows ≡ (Ok (length es), after) =
      simp (is, right) (ap₂ (λ (n : ℕ) (l : List (List ℕ)). (Ok n, map (λ r. record_of r) l ++ drop n rows)) count entries) in
      subst (Loaded es rows) (sym gives) (record {
        answer_is = refl;
        in_order = λ k h other. get_or-append records (drop (length es) rows) other k (omega arith)
            ∙ get_d_mapped (λ r. record_of r) (rows_for es) k other (omega (arith, r.count)) ∙ record_at k h;
        length_kept = omega (arith, length-append records (drop (length es) rows), length-drop (length es) rows);
        past_kept = drop_at records (drop (length es) rows) (length es) many;
      })
