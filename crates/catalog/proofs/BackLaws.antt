-- A catalog's bytes read back.
--
--   Back es vs b       b begins with the catalog of the entry rows es and the volume rows vs
--   catalog_back       so do its bytes, with anything after them
--   number_within      the number of a volume, by the number of saved files
--   back_catalog       it is a catalog, where the rows may stand in one
-- Assumes nothing.
use mathlib.Core.Path.{◌≡◌, refl, sym, ap, ap₂, ◌∙◌}
use mathlib.Core.Bool.{Bool, true, false, ◌&&◌, ◌||◌}
use mathlib.Core.List.{List, [], ◌∷◌, ◌++◌, flatten, append_assoc}
use Prim.Native.Nat.{ℕ, ◌+◌, ◌*◌, ◌≤◌, ◌<◌}
use native.Mathlib.Omega.{arith}
use lib.Dec.{leb, eqb}
use lib.ListN.{length, drop, length-append}
use lib.Seq.{drop_at, drop-drop}
use borrow.Author.Tests.{leb-true, eqb-true}
use Rattle.cut_lists.specs.All.{All}
use Rattle.computed_tests.proofs.Tests.{and_both}
use Rattle.refusals.specs.Limits.{max_files, max_entries}
use Rattle.little_endian.specs.Bytes.{to_le}
use Rattle.little_endian.proofs.Numbers.{length-to_le}
use Rattle.lent_bytes.proofs.PartsInRow.{At, at_start, at_next, at_number, at_last}
use Rattle.par1_rules.specs.Rules.{number_allowed}
use Rattle.catalog.specs.Rows.{catalog_head, catalog_bytes}
use Rattle.catalog.specs.Catalog.{entry_count, volume_count, entry_start, volume_start, rows_in, entry_rows, volume_rows, saved_rows, greatest_size}
use Rattle.catalog.specs.Catalog.{entry_rows_allowed, volume_rows_allowed, is_catalog}
use Rattle.catalog.proofs.CatalogLaws.{catalog_is}
use Rattle.catalog.proofs.ChangeLaws.{length_catalog}
use Rattle.catalog.proofs.RowLaws.{Sized, rows_back, length-flatten}

pub record Back (es vs : List (List ℕ)) (b : List ℕ) : Type 0 where
  pub count : entry_count b ≡ length es
  pub volumes_count : volume_count b ≡ length vs
  pub starts : entry_start b ≡ 16
  pub volumes_start : volume_start b ≡ 16 + 28 * length es
  pub entries_are : entry_rows b ≡ es
  pub volumes_are : volume_rows b ≡ vs
  pub fits : 16 + 28 * (length es + length vs) ≤ length b

module _ (es vs : List (List ℕ)) (t : List ℕ) where
  abbrev Whole : List ℕ
  Whole = catalog_bytes es vs ++ t

  abbrev Heads : List (List ℕ)
  Heads = to_le 4 (length es) ∷ to_le 4 (length vs) ∷ to_le 4 16 ∷ to_le 4 (16 + 28 * length es) ∷ []

  pub in_catalog : At Whole 0 (Heads ++ ((flatten es ++ (flatten vs ++ t)) ∷ []))
  unfolding catalog_bytes catalog_head
  in_catalog = at_start Heads (flatten es ++ (flatten vs ++ t)) (simp append_assoc)

  after_four : At Whole 4 (to_le 4 (length vs) ∷ to_le 4 16 ∷ to_le 4 (16 + 28 * length es) ∷ (flatten es ++ (flatten vs ++ t)) ∷ [])
  after_four = at_next 4 (length-to_le 4 (length es)) in_catalog

  pub after_eight : At Whole 8 (to_le 4 16 ∷ to_le 4 (16 + 28 * length es) ∷ (flatten es ++ (flatten vs ++ t)) ∷ [])
  after_eight = at_next 4 (length-to_le 4 (length vs)) after_four

  pub after_twelve : At Whole 12 (to_le 4 (16 + 28 * length es) ∷ (flatten es ++ (flatten vs ++ t)) ∷ [])
  after_twelve = at_next 4 (length-to_le 4 16) after_eight

  pub after_head : drop 16 Whole ≡ flatten es ++ (flatten vs ++ t)
  after_head = at_last (at_next 4 (length-to_le 4 (16 + 28 * length es)) after_twelve)

  module _ (e : All Sized es) (v : All Sized vs) (few : length es ≤ max_entries) (less : length vs ≤ 256) where
    pub catalog_back : Back es vs Whole
    catalog_back = let count : entry_count Whole ≡ length es = at_number 4 (length es) (omega arith) in_catalog in
        let volumes : volume_count Whole ≡ length vs = at_number 4 (length vs) (omega arith) after_four in
        let past : drop (16 + 28 * length es) Whole ≡ flatten vs ++ t =
        sym (drop-drop (28 * length es) 16 Whole) ∙ ap (drop (28 * length es)) after_head
        ∙ drop_at (flatten es) (flatten vs ++ t) (28 * length es) (length-flatten e) in
        record {
          count = count;
          volumes_count = volumes;
          starts = at_number 4 16 (omega arith) after_eight;
          volumes_start = at_number 4 (16 + 28 * length es) (omega arith) after_twelve;
          entries_are = ap₂ (λ (n : ℕ) (s : List ℕ). rows_in n s) count after_head ∙ rows_back e (flatten vs ++ t);
          volumes_are =
              ap (λ (n : ℕ). rows_in (volume_count Whole) (drop (16 + 28 * n) Whole)) count ∙ ap₂ (λ (n : ℕ) (s : List ℕ). rows_in n s) volumes past
              ∙ rows_back v t;
          fits = omega (arith, length-append (catalog_bytes es vs) t, length_catalog e v);
        }

-- ---- the rows that may stand in one

pub number_within : (v n : ℕ) → 0 < v → number_allowed v n ≡ true → v + n ≤ 255
unfolding number_allowed
number_within v n h e = by (eqb v 0) refl (and_both (leb n max_files) _ e).1
  where
    by : (t : Bool) → t ≡ eqb v 0 → (t || (leb 1 n && leb (v + n) 255)) ≡ true → v + n ≤ 255
    by true z f = absurd (omega (arith, eqb-true v 0 (sym z)))
    by false z f = leb-true _ _ (and_both (leb 1 n) (leb (v + n) 255) f).1

pub back_catalog : {es vs : List (List ℕ)} {b : List ℕ} → Back es vs b → length es ≤ max_entries → entry_rows_allowed 0 es ≡ true
    → volume_rows_allowed (length (saved_rows es)) (greatest_size es) 0 vs ≡ true → is_catalog b ≡ true
back_catalog {es} {vs} {b} k few e v =
    catalog_is b (record {
      within = omega (arith, k.count, k.volumes_count, k.fits);
      few = omega (arith, k.count);
      starts = k.starts;
      volumes_start = omega (arith, k.count, k.volumes_start);
      entries_right = ap (entry_rows_allowed 0) k.entries_are ∙ e;
      volumes_right =
          ap₂ (λ (x y : List (List ℕ)). volume_rows_allowed (length (saved_rows x)) (greatest_size x) 0 y) k.entries_are k.volumes_are ∙ v;
    })
