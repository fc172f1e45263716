-- What is in a catalog that stands in a room.
--
--   catalog_of h          the catalog with h in it
--   VolumeIn es vol      the volume vol is read, and may stand in a catalog with the entry rows es
--   In h                 what is in the catalog may stand in it
--   Invariant h room     and it stands in the room's first bytes
-- Assumes nothing.
use Rattle.std.specs.Prelude.{Ok}
use mathlib.Core.Path.{◌≡◌, refl, sym, ap, ◌∙◌, subst}
use mathlib.Core.Bool.{true}
use mathlib.Core.List.{List, ◌++◌, map, Permᴰ}
use Prim.Native.Nat.{ℕ, suc, ◌≤◌, ◌<◌}
use native.Mathlib.Omega.{arith}
use lib.ListN.{length, length-map}
use Rattle.cut_lists.specs.All.{All, all_none, all_more}
use Rattle.cut_lists.proofs.AllLaws.{all_map}
use Rattle.refusals.specs.Limits.{max_entries}
use Rattle.par1_read.specs.Reading.{entries_in, read_of}
use Rattle.par1_read.specs.declared.reading.Parts.{Parts}
use Rattle.par1_rules.specs.Layout.{volume_number_of}
use Rattle.par1_rules.specs.Rules.{number_allowed}
use Rattle.catalog.specs.Rows.{number_of, rows_for, volume_row, catalog_bytes}
use Rattle.catalog.specs.Catalog.{saved_rows, greatest_size, entry_rows_allowed, volume_rows_allowed, is_catalog}
use Rattle.catalog.specs.Runs.{Held, held_length}
use Rattle.catalog.proofs.BackLaws.{Back, catalog_back, back_catalog}
use Rattle.catalog.proofs.CallLaws.{count_low}
use Rattle.catalog.proofs.ChangeLaws.{length_catalog}
use Rattle.catalog.proofs.FileRows.{file_rows, VolumeRow, volume_row_lem}
use Rattle.catalog.proofs.OrderLaws.{sort_rows, Other, Distinct, distinct_more, all_perm, sort_perm, holds-none}
use Rattle.catalog.proofs.PlaceLaws.{no_rows, insert_allowed}
use Rattle.catalog.proofs.RowLaws.{Sized}

-- ---- what is in a catalog

abbrev pub rows_of : List (List ℕ) → List (List ℕ)
rows_of vs = map (λ vol. volume_row vol) vs

abbrev pub entries_of : Held → List (List ℕ)
entries_of h = rows_for (entries_in h.file)

abbrev pub catalog_of : Held → List ℕ
catalog_of h = catalog_bytes (entries_of h) (sort_rows (rows_of h.volumes))

pub record VolumeIn (es : List (List ℕ)) (vol : List ℕ) : Type 0 where
  pub parts : Parts
  pub read : read_of vol ≡ Ok parts
  pub same : rows_for (entries_in vol) ≡ es
  pub low : 0 < volume_number_of vol

pub record In (h : Held) : Type 0 where
  pub parts : Parts
  pub read : read_of h.file ≡ Ok parts
  pub few : length (entries_in h.file) ≤ max_entries
  pub each : All (VolumeIn (entries_of h)) h.volumes
  pub once : Distinct (rows_of h.volumes)

pub record Invariant (h : Held) (room : List ℕ) : Type 0 where
  pub inside : In h
  pub rest : List ℕ
  pub room_is : room ≡ catalog_of h ++ rest

-- ---- the rows of the volumes

pub perm_length : {xs ys : List (List ℕ)} → Permᴰ xs ys → length xs ≡ length ys
perm_length mathlib.Core.List.Permᴰ.nil = refl
perm_length (mathlib.Core.List.Permᴰ.cons e p) = ap suc (perm_length p)
perm_length (mathlib.Core.List.Permᴰ.swap e f) = refl
perm_length (mathlib.Core.List.Permᴰ.trans p q) = perm_length p ∙ perm_length q

pub each_row : (es : List (List ℕ)) {vs : List (List ℕ)} → All (VolumeIn es) vs → All (VolumeRow (length (saved_rows es)) (greatest_size es)) vs
each_row es a = all_map (λ vol v. volume_row_lem es vol v.read v.same v.low) a

rows_all : {P : List ℕ → Type 0} {vs : List (List ℕ)} → All (λ vol. P (volume_row vol)) vs → All P (rows_of vs)
rows_all all_none = all_none
rows_all {P} (all_more p a) = all_more p (rows_all a)

sort_allowed : (n g : ℕ) {vs : List (List ℕ)} → All (VolumeRow n g) vs → Distinct (rows_of vs) → volume_rows_allowed n g 0 (sort_rows (rows_of vs)) ≡ true
sort_allowed n g all_none d = no_rows n g 0
sort_allowed n g (all_more {x = vol} {xs = vs} v a) (distinct_more o d) =
    let others : All (Other (number_of (volume_row vol))) (sort_rows (rows_of vs)) = all_perm (mathlib.Core.List.Permᴰ.symm (sort_perm (rows_of vs))) o in
    insert_allowed n g 0 (sort_rows (rows_of vs)) (volume_row vol) (sort_allowed n g a d) (omega (arith, v.low, v.number_is))
    (ap (λ (k : ℕ). number_allowed k n) v.number_is ∙ v.number_right) v.size_is (holds-none _ others)

-- what is in it, as rows
pub record Rows (h : Held) : Type 0 where
  pub entries_sized : All Sized (entries_of h)
  pub volumes_sized : All Sized (sort_rows (rows_of h.volumes))
  pub count : length (entries_of h) ≡ length (entries_in h.file)
  pub volumes_count : length (sort_rows (rows_of h.volumes)) ≡ length h.volumes
  pub entries_right : entry_rows_allowed 0 (entries_of h) ≡ true
  pub volumes_right : volume_rows_allowed (length (saved_rows (entries_of h))) (greatest_size (entries_of h)) 0 (sort_rows (rows_of h.volumes)) ≡ true
  pub size : length (catalog_of h) ≡ held_length h

pub in_rows : (h : Held) → In h → Rows h
in_rows h i = let f = file_rows h.file i.read in
    let es : List (List ℕ) = entries_of h in
    let rows : All (VolumeRow (length (saved_rows es)) (greatest_size es)) h.volumes = each_row es i.each in
    let sorted : Permᴰ (sort_rows (rows_of h.volumes)) (rows_of h.volumes) = sort_perm (rows_of h.volumes) in
    let sized : All Sized (sort_rows (rows_of h.volumes)) = all_perm (mathlib.Core.List.Permᴰ.symm sorted) (rows_all {P = Sized} (all_map (λ vol v. v.sized) rows)) in
    let many : length (sort_rows (rows_of h.volumes)) ≡ length h.volumes = perm_length sorted ∙ length-map h.volumes (λ vol. volume_row vol) in
    record {
      entries_sized = f.sized;
      volumes_sized = sized;
      count = f.count;
      volumes_count = many;
      entries_right = f.rows.allowed;
      volumes_right = sort_allowed _ _ rows i.once;
      size = omega (arith, length_catalog f.sized sized, f.count);
    }

-- read back from the room
pub read_back : {h : Held} {room : List ℕ} → Invariant h room → Back (entries_of h) (sort_rows (rows_of h.volumes)) room
read_back {h} {room} i = let r = in_rows h i.inside in
    let few : length (entries_of h) ≤ max_entries = omega (arith, r.count, i.inside.few) in
    let less : length (sort_rows (rows_of h.volumes)) ≤ 256 = omega (arith, count_low _ _ 0 (sort_rows (rows_of h.volumes)) r.volumes_right (omega arith)) in
    subst (Back (entries_of h) (sort_rows (rows_of h.volumes))) (sym i.room_is)
    (catalog_back (entries_of h) (sort_rows (rows_of h.volumes)) i.rest r.entries_sized r.volumes_sized few less)

pub stands_catalog : {h : Held} {room : List ℕ} → Invariant h room → is_catalog room ≡ true
stands_catalog {h} i = let r = in_rows h i.inside in
    back_catalog (read_back i) (omega (arith, r.count, i.inside.few)) r.entries_right r.volumes_right
