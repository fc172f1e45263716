-- A list and volumes made for rows that may stand in a catalog.
--
--   made_entry r        an entry with the size of the entry row r, saved where r says so
--   made_list rs        the list of the entries made for the rows rs
--   Plain r            the row r begins with its number and its size
--   MadeFile rs n d f  the file f is read, with the list made for rs, as number n with d bytes of data
--   made_index rs, made_volume rs r     the files
-- Assumes nothing.
use Rattle.std.specs.Prelude.{Ok}
use mathlib.Core.Path.{◌≡◌, refl, sym, ap, ap₂, ◌∙◌, subst}
use mathlib.Core.Bool.{Bool, true, false, cond, not, ◌||◌}
use mathlib.Core.List.{List, [], ◌∷◌, ◌++◌, map, foldr, flatten, append_assoc}
use Prim.Native.Nat.{ℕ, zero, suc, ◌+◌, ◌*◌, ◌^◌, ◌≤◌, ◌<◌, max}
use native.Mathlib.Omega.{arith}
use lib.Dec.{eqb}
use lib.ListN.{length, take, drop, replicate, length-append, length-map, length-replicate, length-drop}
use lib.Seq.{take_at, take-add, length-take-le}
use borrow.Author.Tests.{leb-true, le-leb, eqb-true, eq-eqb, ne_eqb}
use Rattle.codes.specs.declared.Code.TheVariants.{Powers}
use Rattle.computed_tests.proofs.Tests.{and_both}
use Rattle.cut_lists.specs.All.{All, all_none, all_more}
use Rattle.cut_lists.specs.Pieces.{Cut, before}
use Rattle.cut_lists.proofs.AllLaws.{all_map}
use Rattle.cut_lists.proofs.CutLaws.{cut-none}
use Rattle.refusals.specs.Limits.{max_files, max_file_size, max_entries}
use Rattle.lent_bytes.specs.Equal.{equal}
use Rattle.little_endian.specs.Bytes.{Bytes, from_le, to_le, le_at}
use Rattle.little_endian.proofs.Numbers.{length-to_le, bytes_take, bytes_drop, bytes_append}
use Rattle.little_endian.proofs.Reading.{to_le_at}
use Rattle.entries.specs.Entry.{status_of, file_size_of, md5_of, is_saved, saved_count, is_counted, name_allowed, unit_allowed, is_dots, units_of, file_size_allowed, length_of}
use Rattle.entries.specs.Numbering.{saved_of}
use Rattle.entries.specs.Walk.{entries_of, greatest_of, totals_of, walked_to, walk_of}
use Rattle.entries.proofs.KeepLaws.{all_keep, keep_same, keep-map}
use Rattle.par1_write.specs.EntryWriting.{entry_bytes}
use Rattle.par1_write.specs.VolumeWriting.{volume_bytes}
use Rattle.par1_write.proofs.EntryWritingLaws.{length-entry}
use Rattle.par1.specs.Claim.{EntryBack, ReadBack, parts_for}
use Rattle.par1.proofs.EntryWritten.{entry_back}
use Rattle.par1.proofs.ReadWritten.{volume_back}
use Rattle.par1_read.specs.Reading.{entries_in, read_of}
use Rattle.par1_read.specs.declared.reading.Parts.{Parts}
use Rattle.par1_rules.specs.Layout.{volume_number_of, data_size_of}
use Rattle.par1_rules.proofs.RuleLaws.{number_range}
use Rattle.par1_rules.specs.Rules.{number_allowed, data_allowed}
use Rattle.catalog.specs.Rows.{row, number_of, size_of, file_number_after, rows_after, volume_row}
use Rattle.catalog.specs.Catalog.{rows_in, is_saved_row, saved_rows, greatest_size, in_turn, entry_rows_allowed, volume_rows_allowed}
use Rattle.catalog.proofs.AlikeLaws.{Alike, alike_none, alike_more}
use Rattle.catalog.proofs.MadeBytes.{bytes_none, bytes_cons, bytes_zeros, bytes_entry, bytes_volume}
use Rattle.catalog.proofs.PlaceLaws.{first_row}
use Rattle.catalog.proofs.ReadLaws.{told}

-- ---- the first 12 bytes of a row

abbrev pub Plain : List ℕ → Type 0
Plain r = take 12 r ≡ to_le 4 (number_of r) ++ to_le 8 (size_of r)

plain_row : (r : List ℕ) → Bytes r → 12 ≤ length r → Plain r
plain_row r b h = simp (take-add 4 8 r, to_le_at 4 r 0 b (omega arith), to_le_at 8 r 4 b (omega arith))

pub plain_rows : (n : ℕ) (s : List ℕ) → Bytes s → 28 * n ≤ length s → All Plain (rows_in n s)
unfolding rows_in
plain_rows zero s b h = all_none
plain_rows (suc n) s b h =
    all_more (plain_row (take 28 s) (bytes_take 28 s b) (omega (arith, length-take-le 28 s (omega arith))))
    (plain_rows n (drop 28 s) (bytes_drop 28 s b) (omega (arith, length-drop 28 s)))

plain_made : (n m : ℕ) (h : List ℕ) → take 12 (row n m h) ≡ to_le 4 n ++ to_le 8 m
unfolding row flatten
plain_made n m h =
    ap (take 12) (sym (append_assoc (to_le 4 n) (to_le 8 m) (h ++ [])))
    ∙ take_at (to_le 4 n ++ to_le 8 m) (h ++ []) 12 (omega (arith, length-append (to_le 4 n) (to_le 8 m), length-to_le 4 n, length-to_le 8 m))

made_alike : (n m : ℕ) (h r : List ℕ) → Plain r → n ≡ number_of r → m ≡ size_of r → take 12 (row n m h) ≡ take 12 r
made_alike n m h r p e f = plain_made n m h ∙ ap₂ (λ (x y : ℕ). to_le 4 x ++ to_le 8 y) e f ∙ sym p

-- ---- an entry

-- "A"
abbrev one_name : List ℕ
one_name = 65 ∷ 0 ∷ []

abbrev made_status : List ℕ → ℕ
made_status r = cond (is_saved_row r) 1 0

unfoldable pub made_entry : List ℕ → List ℕ
made_entry r = entry_bytes (replicate (size_of r) 0) (made_status r) one_name

pub record Made (r : List ℕ) : Type 0 where
  pub saved_is : is_saved (status_of (made_entry r)) ≡ is_saved_row r
  pub size_is : file_size_of (made_entry r) ≡ size_of r
  pub entries_are : (rest : List ℕ) → entries_of (made_entry r ++ rest) ≡ before (made_entry r) (entries_of rest)

abbrev SizeRight : List ℕ → Type 0
SizeRight r = file_size_allowed (size_of r) ≡ true

made : (r : List ℕ) → SizeRight r → Made r
unfolding made_entry name_allowed unit_allowed is_dots equal units_of le_at from_le
made r h = let m : List ℕ = replicate (size_of r) 0 in
    let back : EntryBack (entry_bytes m (made_status r) one_name) m (made_status r) one_name =
    entry_back m (made_status r) one_name
    (ap (λ (k : ℕ). file_size_allowed k) (length-replicate (size_of r) 0) ∙ h) (low (is_saved_row r)) refl
    (omega (arith, length-entry m (made_status r) one_name)) in
    record {
      saved_is = ap (λ (k : ℕ). is_saved k) back.status_is ∙ bit (is_saved_row r);
      size_is = back.size_is ∙ length-replicate (size_of r) 0;
      entries_are = back.entries_are;
    }
  where
    low : (t : Bool) → cond t 1 0 < 2 ^ 64
    low true = omega arith
    low false = omega arith

    bit : (t : Bool) → is_saved (cond t 1 0) ≡ t
    bit true = refl
    bit false = refl

length_made : (r : List ℕ) → length (made_entry r) ≡ 58
unfolding made_entry
length_made r = length-entry (replicate (size_of r) 0) (made_status r) one_name

bytes_made : (r : List ℕ) → Bytes (made_entry r)
unfolding made_entry
bytes_made r =
    bytes_entry (replicate (size_of r) 0) (made_status r) one_name (bytes_cons 65 (0 ∷ []) (omega arith) (bytes_cons 0 [] (omega arith) bytes_none))

-- ---- a list

abbrev pub made_entries : List (List ℕ) → List (List ℕ)
made_entries rs = map (λ r. made_entry r) rs

unfoldable pub made_list : List (List ℕ) → List ℕ
made_list rs = flatten (made_entries rs)

length_list : (rs : List (List ℕ)) → length (made_list rs) ≡ 58 * length rs
unfolding made_list flatten
length_list [] = refl
length_list (r ∷ rs) = omega (arith, length-append (made_entry r) (made_list rs), length_made r, length_list rs)

bytes_list : (rs : List (List ℕ)) → Bytes (made_list rs)
unfolding made_list flatten
bytes_list [] = bytes_none
bytes_list (r ∷ rs) = bytes_append (made_entry r) (made_list rs) (bytes_made r) (bytes_list rs)

entries_made : {rs : List (List ℕ)} → All Made rs → entries_of (made_list rs) ≡ record { pieces = made_entries rs; rest = [] }
unfolding made_list flatten
entries_made all_none = cut-none length_of
entries_made (all_more {x} {xs} m ms) = m.entries_are (made_list xs) ∙ ap (before (made_entry x)) (entries_made ms)

saved_made : {rs : List (List ℕ)} → All Made rs → saved_of (made_entries rs) ≡ made_entries (saved_rows rs)
saved_made {rs} ms = simp (keep-map (λ e. is_saved (status_of e)) (λ r. made_entry r) rs, keep_same (all_map (λ r m. m.saved_is) ms))

sizes_made : {rs : List (List ℕ)} → All Made rs → foldr max 0 (map (λ e. file_size_of e) (made_entries rs)) ≡ foldr max 0 (map (λ r. size_of r) rs)
sizes_made all_none = refl
sizes_made (all_more m ms) = ap₂ max m.size_is (sizes_made ms)

greatest_made : {rs : List (List ℕ)} → All Made rs → greatest_of (made_entries rs) ≡ greatest_size rs
unfolding is_counted
greatest_made {rs} ms = simp (saved_made, sizes_made (all_keep (λ r. is_saved_row r) ms))

-- ---- rows that may stand in a catalog

record FirstEntry (k : ℕ) (r : List ℕ) (rs : List (List ℕ)) : Type 0 where
  turn : in_turn k (number_of r) ≡ true
  size_right : SizeRight r
  others : entry_rows_allowed (cond (is_saved_row r) (k + 1) k) rs ≡ true

first_entry : (k : ℕ) (r : List ℕ) (rs : List (List ℕ)) → entry_rows_allowed k (r ∷ rs) ≡ true → FirstEntry k r rs
unfolding entry_rows_allowed
first_entry k r rs e = let t₂ = and_both _ (entry_rows_allowed (cond (is_saved_row r) (k + 1) k) rs) e in
    let t₁ = and_both (in_turn k (number_of r)) (file_size_allowed (size_of r)) t₂.0 in
    record { turn = t₁.0; size_right = t₁.1; others = t₂.1 }

sizes_right : (k : ℕ) (rs : List (List ℕ)) → entry_rows_allowed k rs ≡ true → All SizeRight rs
sizes_right k [] e = all_none
sizes_right k (r ∷ rs) e = let f = first_entry k r rs e in all_more f.size_right (sizes_right (cond (is_saved_row r) (k + 1) k) rs f.others)

saved_few : (k : ℕ) (rs : List (List ℕ)) → entry_rows_allowed k rs ≡ true → k + length (saved_rows rs) ≤ max_files
unfolding entry_rows_allowed
saved_few k [] e = omega (arith, leb-true k max_files e)
saved_few k (r ∷ rs) e = let f = first_entry k r rs e in by (is_saved_row r) (saved_few (cond (is_saved_row r) (k + 1) k) rs f.others)
  where
    by : (t : Bool) → cond t (k + 1) k + length (saved_rows rs) ≤ max_files → k + length (cond t (r ∷ saved_rows rs) (saved_rows rs)) ≤ max_files
    by true h = omega arith
    by false h = h

-- the file number is that of the row
turn_number : (k n : ℕ) → in_turn k n ≡ true → cond (not (eqb n 0)) (k + 1) 0 ≡ n
turn_number k n e = by (eqb n 0) refl e
  where
    by : (t : Bool) → t ≡ eqb n 0 → (t || eqb n (k + 1)) ≡ true → cond (not t) (k + 1) 0 ≡ n
    by true z f = sym (eqb-true n 0 (sym z))
    by false z f = sym (eqb-true n (k + 1) f)

one_more : (t : Bool) (k : ℕ) → k + cond t 1 0 ≡ cond t (k + 1) k
one_more true k = refl
one_more false k = omega arith

pub rows_made : (k : ℕ) {rs : List (List ℕ)} → All Made rs → All Plain rs → entry_rows_allowed k rs ≡ true → Alike (rows_after k (made_entries rs)) rs
unfolding rows_after
rows_made k all_none all_none e = alike_none
rows_made k (all_more {x = r} {xs = rs} m ms) (all_more p ps) e = let f = first_entry k r rs e in
    let number : file_number_after k (status_of (made_entry r)) ≡ number_of r = simp (m.saved_is, turn_number k (number_of r) f.turn) in
    let next : k + saved_count (status_of (made_entry r)) ≡ cond (is_saved_row r) (k + 1) k = simp (m.saved_is, one_more) in
    alike_more (made_alike _ _ (md5_of (made_entry r)) r p number m.size_is)
    (rows_made (k + saved_count (status_of (made_entry r))) ms ps (ap (λ (j : ℕ). entry_rows_allowed j rs) next ∙ f.others))

greatest_most : {rs : List (List ℕ)} → All SizeRight rs → foldr max 0 (map (λ r. size_of r) rs) ≤ max_file_size
greatest_most all_none = omega arith
greatest_most (all_more {x = r} h hs) = omega (arith, leb-true (size_of r) max_file_size h, greatest_most hs)

-- ---- the files

pub record MadeFile (rs : List (List ℕ)) (number size : ℕ) (f : List ℕ) : Type 0 where
  pub parts : Parts
  pub read : read_of f ≡ Ok parts
  pub entries_are : entries_in f ≡ made_entries rs
  pub number_is : volume_number_of f ≡ number
  pub size_is : data_size_of f ≡ size
  pub bytes : Bytes f

abbrev pub made_index : List (List ℕ) → List ℕ
made_index rs = volume_bytes Powers 0 0 (made_list rs) []

abbrev pub made_volume : List (List ℕ) → List ℕ → List ℕ
made_volume rs r = volume_bytes Powers 0 (number_of r) (made_list rs) (replicate (greatest_size rs) 0)

-- the volume of the row r
pub record VolumeMade (rs : List (List ℕ)) (r : List ℕ) : Type 0 where
  pub file : MadeFile rs (number_of r) (size_of r) (made_volume rs r)
  pub some : 0 < number_of r

pub volumes_alike : (rs : List (List ℕ)) {vs : List (List ℕ)} → All (VolumeMade rs) vs → All Plain vs
    → Alike (map (λ vol. volume_row vol) (map (λ r. made_volume rs r) vs)) vs
volumes_alike rs all_none all_none = alike_none
volumes_alike rs (all_more {x = r} m ms) (all_more p ps) =
    alike_more (made_alike _ _ _ r p m.file.number_is m.file.size_is) (volumes_alike rs ms ps)

module _ (rs : List (List ℕ)) (allowed : entry_rows_allowed 0 rs ≡ true) (few : length rs ≤ max_entries) where
  pub all_made : All Made rs
  all_made = all_map (λ r h. made r h) (sizes_right 0 rs allowed)

  size_most : greatest_size rs ≤ max_file_size
  size_most = greatest_most (all_keep (λ r. is_saved_row r) (sizes_right 0 rs allowed))

  walk_made : walk_of (made_list rs) ≡ Ok (totals_of (made_entries rs))
  unfolding walk_of
  walk_made = ap (λ (c : Cut). walked_to (totals_of c.pieces) c.rest) (entries_made all_made)

  made_file : (number : ℕ) (area : List ℕ) → number < 2 ^ 64 → Bytes area → length area ≤ max_file_size
      → number_allowed number (length (saved_rows rs)) ≡ true → data_allowed number (greatest_size rs) (length area) ≡ true
      → MadeFile rs number (length area) (volume_bytes Powers 0 number (made_list rs) area)
  made_file number area small b short number_right data_right = let list : List ℕ = made_list rs in
      let f : List ℕ = volume_bytes Powers 0 number list area in
      let saved : length (saved_of (made_entries rs)) ≡ length (saved_rows rs) = ap length (saved_made all_made) ∙ length-map (saved_rows rs) (λ r. made_entry r) in
      let back : ReadBack f Powers 0 number list area =
      volume_back Powers 0 number list area (omega arith) small
      (record {
        totals_of_lem = totals_of (made_entries rs);
        walk_is = walk_made;
        tests = record {
          number_right = ap (number_allowed number) saved ∙ number_right;
          data_right = ap (λ (g : ℕ). data_allowed number g (length area)) (greatest_made all_made) ∙ data_right;
          size = record { low = omega arith; high = omega (arith, length_list rs) };
        };
      }) in
      let t = told f back.read_is in
      record {
        parts = parts_for Powers 0 number list area;
        read = back.read_is;
        entries_are = ap (λ (l : List ℕ). (entries_of l).pieces) back.list_is ∙ ap (λ (c : Cut). c.pieces) (entries_made all_made);
        number_is = sym t.number_is;
        size_is = sym t.size_is;
        bytes = bytes_volume Powers 0 number list area (bytes_list rs) b;
      }

  pub index_made : MadeFile rs 0 0 (made_index rs)
  unfolding data_allowed number_allowed
  index_made = let most : length (saved_rows rs) ≤ max_files = omega (arith, saved_few 0 rs allowed) in
      made_file 0 [] (omega arith) bytes_none (omega arith) (simp (le-leb (length (saved_rows rs)) max_files most)) refl

  volume_made : (r : List ℕ) → 0 < number_of r → number_allowed (number_of r) (length (saved_rows rs)) ≡ true → size_of r ≡ greatest_size rs → VolumeMade rs r
  unfolding data_allowed
  volume_made r some right size = let g : ℕ = greatest_size rs in
      let long : length (replicate {A = ℕ} g 0) ≡ g = length-replicate g 0 in
      let other : eqb (number_of r) 0 ≡ false = ne_eqb (number_of r) 0 (λ z. omega arith) in
      let data_right : data_allowed (number_of r) g (length (replicate {A = ℕ} g 0)) ≡ true = simp (other, eq-eqb _ _ long) in
      let f = made_file (number_of r) (replicate g 0) (omega (arith, (number_range (number_of r) _ right).0)) (bytes_zeros g) (omega (arith, size_most)) right data_right in
      record { file = subst (λ (n : ℕ). MadeFile rs (number_of r) n (made_volume rs r)) (long ∙ sym size) f; some = some }

  pub volumes_made : (v : ℕ) (vs : List (List ℕ)) → volume_rows_allowed (length (saved_rows rs)) (greatest_size rs) v vs ≡ true → All (VolumeMade rs) vs
  volumes_made v [] e = all_none
  volumes_made v (r ∷ vs) e = let f = first_row (length (saved_rows rs)) (greatest_size rs) v r vs e in
      all_more (volume_made r (omega (arith, f.above)) f.number_right f.size_is) (volumes_made (number_of r) vs f.others)
