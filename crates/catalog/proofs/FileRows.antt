-- The rows of an accepted file and of the volumes of its set.
--
--   RowsRight k es       the rows of the entries es, after k saved ones, may stand in a catalog
--   FileRows f           the rows of the file f, which is read
--   VolumeRow n g vol    the row of the volume vol, which is read, may stand in a catalog of n saved files of at most g bytes
-- Assumes nothing.
use Rattle.std.specs.Prelude.{Ok}
use mathlib.Core.Path.{◌≡◌, refl, sym, ap, ◌∙◌}
use mathlib.Core.Bool.{Bool, true, false}
use mathlib.Core.List.{List, ◌∷◌}
use Prim.Native.Nat.{ℕ, suc, ◌+◌, ◌≤◌, ◌<◌, max}
use native.Mathlib.Omega.{arith}
use lib.Dec.{leb, eqb}
use lib.ListN.{length}
use Rattle.computed_tests.proofs.Tests.{and_both}
use borrow.Author.Tests.{leb-true, le-leb, eqb-true, eq-eqb, ne_eqb}
use Rattle.cut_lists.specs.All.{All, all_none, all_more}
use Rattle.cut_lists.proofs.AllLaws.{all_map}
use Rattle.cut_lists.proofs.CutLaws.{cut_all}
use Rattle.refusals.specs.Limits.{max_files, max_file_size}
use Rattle.entries.specs.Claim.{Keeps}
use Rattle.entries.specs.Entry.{status_of, file_size_of, md5_of, is_saved, is_counted, length_of}
use Rattle.entries.specs.Numbering.{saved_of}
use Rattle.entries.specs.Walk.{greatest_of}
use Rattle.entries.proofs.FirstFaults.{keeps_first}
use Rattle.par1_read.specs.Reading.{entries_in, read_of}
use Rattle.par1_read.specs.declared.reading.Parts.{Parts}
use Rattle.par1_rules.specs.Layout.{volume_number_of, data_size_of, list_of}
use Rattle.par1_rules.specs.Rules.{number_allowed, data_allowed}
use Rattle.catalog.specs.Rows.{row, number_of, size_of, rows_after, rows_for, volume_row}
use Rattle.catalog.specs.Catalog.{saved_rows, greatest_size, entry_rows_allowed}
use Rattle.catalog.proofs.ListLaws.{length-rows-after, rows_sized_for}
use Rattle.catalog.proofs.ReadLaws.{told, length_volume_row, volume_row_number, volume_row_size}
use Rattle.catalog.proofs.RowLaws.{Sized, number_row, size_row}

pub record RowsRight (k : ℕ) (es : List (List ℕ)) : Type 0 where
  pub allowed : entry_rows_allowed k (rows_after k es) ≡ true
  pub saved : length (saved_rows (rows_after k es)) ≡ length (saved_of es)
  pub greatest : greatest_size (rows_after k es) ≡ greatest_of es

-- ---- an entry more

module _ (k : ℕ) (e : List ℕ) (es : List (List ℕ)) (size_right : file_size_of e ≤ max_file_size) (few : k + length (saved_of (e ∷ es)) ≤ max_files) where
  abbrev First : ℕ → List ℕ
  First number = row number (file_size_of e) (md5_of e)

  first_number : (number : ℕ) → number ≤ 255 → number_of (First number) ≡ number
  first_number number h = number_row number (file_size_of e) (md5_of e) (omega arith)

  first_size : (number : ℕ) → size_of (First number) ≡ file_size_of e
  first_size number = size_row number (file_size_of e) (md5_of e) (omega arith)

  saved_more : is_saved (status_of e) ≡ true → RowsRight (k + 1) es → RowsRight k (e ∷ es)
  unfolding rows_after entry_rows_allowed is_counted
  saved_more z m = let low : k + 1 ≤ 255 = let n = simp z at few in omega arith in
      let number : number_of (First (k + 1)) ≡ k + 1 = first_number (k + 1) low in
      let some : eqb (k + 1) 0 ≡ false = ne_eqb (k + 1) 0 (λ h. omega arith) in
      let next : eqb (k + 1) (k + 1) ≡ true = eq-eqb (k + 1) (k + 1) refl in
      let size : size_of (First (k + 1)) ≡ file_size_of e = first_size (k + 1) in
      let right : leb (file_size_of e) max_file_size ≡ true = le-leb _ _ size_right in
      record {
        allowed = simp (z, number, some, next, size, right) m.allowed;
        saved = simp (z, number, some) (ap suc m.saved);
        greatest = simp (z, number, some, size) (ap (max (file_size_of e)) m.greatest);
      }

  other_more : is_saved (status_of e) ≡ false → RowsRight k es → RowsRight k (e ∷ es)
  unfolding rows_after entry_rows_allowed is_counted
  other_more z m = let number : number_of (First 0) ≡ 0 = first_number 0 (omega arith) in
      let size : size_of (First 0) ≡ file_size_of e = first_size 0 in
      let right : leb (file_size_of e) max_file_size ≡ true = le-leb _ _ size_right in
      let same : k + 0 ≡ k = omega arith in
      record {
        allowed = simp (z, number, size, right, same) m.allowed;
        saved = simp (z, number, same) m.saved;
        greatest = simp (z, number, same) m.greatest;
      }

rows_right : (k : ℕ) {es : List (List ℕ)} → All (λ e. file_size_of e ≤ max_file_size) es → k + length (saved_of es) ≤ max_files → RowsRight k es
unfolding rows_after entry_rows_allowed is_counted
rows_right k all_none h = record { allowed = le-leb k max_files (omega arith); saved = refl; greatest = refl }
rows_right k (all_more {x = e} {xs = es} r rs) h = by (is_saved (status_of e)) refl (rows_right (k + 1) rs) (rows_right k rs)
  where
    by : (t : Bool) → is_saved (status_of e) ≡ t → (k + 1 + length (saved_of es) ≤ max_files → RowsRight (k + 1) es)
        → (k + length (saved_of es) ≤ max_files → RowsRight k es) → RowsRight k (e ∷ es)
    by true z one none = saved_more k e es r h z (one (let n = simp z at h in omega arith))
    by false z one none = other_more k e es r h z (none (simp z at h))

-- ---- a file

pub record FileRows (f : List ℕ) : Type 0 where
  pub keep_rules : All Keeps (entries_in f)
  pub saved_few : length (saved_of (entries_in f)) ≤ max_files
  pub count : length (rows_for (entries_in f)) ≡ length (entries_in f)
  pub sized : All Sized (rows_for (entries_in f))
  pub rows : RowsRight 0 (entries_in f)

number_few : (v n : ℕ) → number_allowed v n ≡ true → n ≤ max_files
unfolding number_allowed
number_few v n e = leb-true _ _ (and_both (leb n max_files) _ e).0

pub file_rows : (f : List ℕ) {p : Parts} → read_of f ≡ Ok p → FileRows f
file_rows f e = let keeps = cut_all length_of Keeps keeps_first (list_of f) in
    let few : length (saved_of (entries_in f)) ≤ max_files = number_few _ _ (told f e).number_right in
    record {
      keep_rules = keeps;
      saved_few = few;
      count = length-rows-after 0 (entries_in f);
      sized = rows_sized_for (list_of f);
      rows = rows_right 0 (all_map (λ e k. leb-true _ _ k.file_size_right) keeps) (omega arith);
    }

-- ---- a volume

-- an accepted volume, and the number of its saved files and their greatest size, by the rows
pub record VolumeRow (n g : ℕ) (vol : List ℕ) : Type 0 where
  pub sized : Sized (volume_row vol)
  pub number_is : number_of (volume_row vol) ≡ volume_number_of vol
  pub low : 0 < volume_number_of vol
  pub number_right : number_allowed (volume_number_of vol) n ≡ true
  pub size_is : size_of (volume_row vol) ≡ g

pub volume_row_lem : (es : List (List ℕ)) (vol : List ℕ) {p : Parts} → read_of vol ≡ Ok p → rows_for (entries_in vol) ≡ es
    → 0 < volume_number_of vol → VolumeRow (length (saved_rows es)) (greatest_size es) vol
unfolding data_allowed
volume_row_lem es vol e same low = let t = told vol e in
    let r = (file_rows vol e).rows in
    let n : length (saved_of (entries_in vol)) ≡ length (saved_rows es) = sym r.saved ∙ ap (λ (rs : List (List ℕ)). length (saved_rows rs)) same in
    let g : greatest_of (entries_in vol) ≡ greatest_size es = sym r.greatest ∙ ap (λ (rs : List (List ℕ)). greatest_size rs) same in
    let none : eqb (volume_number_of vol) 0 ≡ false = ne_eqb (volume_number_of vol) 0 (λ z. omega arith) in
    let size : eqb (data_size_of vol) (greatest_of (entries_in vol)) ≡ true = simp none at t.data_right in
    record {
      sized = length_volume_row vol t;
      number_is = volume_row_number vol t;
      low = low;
      number_right = ap (number_allowed (volume_number_of vol)) (sym n) ∙ t.number_right;
      size_is = volume_row_size vol t ∙ eqb-true _ _ size ∙ g;
    }
