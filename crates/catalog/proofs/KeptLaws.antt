-- What adding and dropping leave as it was.
--
--   allowed_ascend     the volume rows of a catalog ascend
--   Changed            a catalog that is written over another, with its entry rows and other volume rows
--   open_kept, add_kept, drop_kept     the claims
-- Assumes nothing.
use Rattle.std.specs.Prelude.{Ok, Err}
use mathlib.Core.Path.{◌≡◌, refl, sym, ap, ◌∙◌, subst}
use mathlib.Core.Bool.{true}
use mathlib.Core.List.{List, [], ◌∷◌, ◌++◌, flatten}
use Prim.Native.Nat.{ℕ, ◌+◌, ◌*◌, ◌≤◌, ◌<◌}
use native.Mathlib.Numerals.{add-one}
use native.Mathlib.Omega.{arith}
use lib.Dec.{ltb, eqb}
use lib.ListN.{length, take, drop, get_or, length-append, length-drop, take-append-drop}
use lib.Seq.{take_at, drop_at, split_at}
use borrow.Author.Tests.{eqb-true}
use Rattle.computed_tests.proofs.Tests.{and_both}
use Rattle.cut_lists.specs.All.{All, all_none, all_more}
use Rattle.cut_lists.proofs.AllLaws.{all_map}
use Rattle.entries.proofs.KeepLaws.{all_keep}
use Rattle.refusals.specs.Tests.{bare}
use Rattle.refusals.specs.declared.Refusal.{Refusal}
use Rattle.little_endian.specs.Bytes.{Bytes, to_le, le_at}
use Rattle.little_endian.proofs.Numbers.{length-to_le}
use Rattle.little_endian.proofs.Reading.{to_le_at}
use Rattle.lent_bytes.proofs.PartsInRow.{at_part}
use Rattle.lent_bytes.proofs.WritingLaws.{Accepted, unless_tells}
use Rattle.par1_read.specs.Reading.{entries_in, read_of}
use Rattle.par1_read.specs.Reading.{Reading}
use Rattle.par1_read.proofs.ReadingLaws.{refused_some}
use Rattle.catalog.specs.Rows.{number_of, rows_for, volume_row, catalog_bytes}
use Rattle.catalog.specs.Catalog.{entry_count, volume_count, catalog_length, entry_rows, volume_rows, volume_rows_allowed, holds, insert_row, remove_row}
use Rattle.catalog.specs.Calls.{open_refusal, open_of, add_refusal, added_bytes, add_of, drop_number, dropped_bytes, drop_of}
use Rattle.catalog.specs.Plan.{place_of}
use Rattle.catalog.specs.Runs.{Ascend, ascend_none, ascend_more}
use Rattle.catalog.specs.Claim.{Moved, Kept, OpenKept, AddKept, DropKept}
use Rattle.catalog.proofs.BackLaws.{Back, in_catalog, after_eight, after_twelve, after_head, catalog_back}
use Rattle.catalog.proofs.CallLaws.{length-opened, drop_passed, held_within, volumes_few}
use Rattle.catalog.proofs.CatalogLaws.{Catalog, is_catalog_lem}
use Rattle.catalog.proofs.ChangeLaws.{length_catalog, all_insert, entries_sized, volumes_sized, length_inserted, length_removed, length_added, length_dropped}
use Rattle.catalog.proofs.StepLaws.{add_passed}
use Rattle.catalog.proofs.OrderLaws.{Other, insert_ascend, none_held}
use Rattle.catalog.proofs.PlaceLaws.{first_row, insert_at, remove_at, holds-place}
use Rattle.catalog.proofs.ReadLaws.{told, length_volume_row, volume_row_number}
use Rattle.catalog.proofs.RowLaws.{Sized, length-rows, flatten-rows, length-flatten}

-- ---- ascending rows

module _ (n g : ℕ) where
  all_above : (v : ℕ) (rs : List (List ℕ)) → volume_rows_allowed n g v rs ≡ true → All (λ x. v < number_of x) rs
  all_above v [] e = all_none
  all_above v (r ∷ rs) e = let f = first_row n g v r rs e in
      let low : v < number_of r = f.above in
      all_more low (all_map (λ x h. omega arith) (all_above (number_of r) rs f.others))

  pub allowed_ascend : (v : ℕ) (rs : List (List ℕ)) → volume_rows_allowed n g v rs ≡ true → Ascend rs
  allowed_ascend v [] e = ascend_none
  allowed_ascend v (r ∷ rs) e =
      let f = first_row n g v r rs e in ascend_more (all_above (number_of r) rs f.others) (allowed_ascend (number_of r) rs f.others)

-- ---- the room

past_same : {m : Refusal} {s out : List ℕ} {n : ℕ} {room : List ℕ} → Accepted m s out n room → (length room ≡ length out) × (drop n room ≡ drop n out)
past_same {s = s} {out = out} {n = n} w =
    let t : List ℕ = drop (length s) out in (
      omega (arith, ap length w.room_is, length-append s t, length-drop (length s) out, w.fits),
      ap (drop n) w.room_is ∙ drop_at s t n (sym w.length_is) ∙ ap (λ (k : ℕ). drop k out) (sym w.length_is),
    )

-- ---- a catalog over another

record Changed (b room : List ℕ) (n : ℕ) (ws : List (List ℕ)) : Type 0 where
  kept : Kept b room n
  volumes_are : volume_rows room ≡ ws
  volumes_count : volume_count room ≡ length ws
  answer_is : n ≡ catalog_length room

module _ (b : List ℕ) (c : Catalog b) (ws : List (List ℕ)) (sized : All Sized ws) (less : length ws ≤ 256) (bytes : Bytes b) where
  abbrev es : List (List ℕ)
  es = entry_rows b

  count : length es ≡ entry_count b
  count = length-rows (entry_count b) (drop 16 b)

  es_sized : All Sized es
  es_sized = entries_sized b c

  module _ (t : List ℕ) where
    back : Back es ws (catalog_bytes es ws ++ t)
    back = catalog_back es ws t es_sized sized (omega (arith, count, c.few)) less

    -- a number of the head
    number_kept : (n i : ℕ) → i + 4 ≤ 16 → le_at 4 b i ≡ n → take 4 (drop i (catalog_bytes es ws ++ t)) ≡ to_le 4 n
        → take 4 (drop i (catalog_bytes es ws ++ t)) ≡ take 4 (drop i b)
    number_kept n i h is e = e ∙ ap (to_le 4) (sym is) ∙ to_le_at 4 b i bytes (omega (arith, c.within))

    rows_same : take (28 * entry_count b) (drop 16 (catalog_bytes es ws ++ t)) ≡ take (28 * entry_count b) (drop 16 b)
    rows_same =
        rw (after_head, take_at (flatten es) (flatten ws ++ t) (28 * entry_count b) (omega (arith, length-flatten es_sized, count)), flatten-rows)

  changed : {m : Refusal} {n : ℕ} {room : List ℕ} → Accepted m (catalog_bytes es ws) b n room → Changed b room n ws
  changed {m} {n} {room} w = let s : List ℕ = catalog_bytes es ws in
      let t : List ℕ = drop (length s) b in
      let k : Back es ws (s ++ t) = back t in
      let past = past_same w in
      let all : Changed b (s ++ t) n ws = record {
        kept = record {
          entries_kept = number_kept t (length es) 0 (omega arith) (sym count) (at_part 4 (length-to_le 4 (length es)) (in_catalog es ws t));
          starts_kept = number_kept t 16 8 (omega arith) c.starts (at_part 4 (length-to_le 4 16) (after_eight es ws t));
          volumes_start_kept =
              number_kept t (16 + 28 * length es) 12 (omega arith) (c.volumes_start ∙ ap (λ (k : ℕ). 16 + 28 * k) (sym count))
              (at_part 4 (length-to_le 4 (16 + 28 * length es)) (after_twelve es ws t));
          rows_kept = rows_same t;
          length_kept = sym (ap length w.room_is) ∙ past.0;
          past_kept = sym (ap (drop n) w.room_is) ∙ past.1;
        };
        volumes_are = k.volumes_are;
        volumes_count = k.volumes_count;
        answer_is = omega (arith, w.length_is, length_catalog es_sized sized, k.count, k.volumes_count);
      } in
      subst (λ (l : List ℕ). Changed b l n ws) (sym w.room_is) all

-- ---- opening

pub open_kept : OpenKept
unfolding open_of
open_kept f out room n e = let w = unless_tells (open_refusal f (read_of f)) (catalog_bytes (rows_for (entries_in f)) []) out e in
    let same = past_same w in
    (w.length_is ∙ length-opened f out, w.written_is, same.0, same.1)

-- ---- adding

module _ (b vol room : List ℕ) (n : ℕ) (bytes : Bytes b) where
  abbrev inserted : List (List ℕ)
  inserted = insert_row (volume_row vol) (volume_rows b)

  by_reading : Accepted (add_refusal b vol (read_of vol)) (added_bytes b vol) b n room → (k : Reading) → read_of vol ≡ k → (add_refusal b vol k).number ≡ 0
      → Kept b room n × (n ≡ catalog_length b + 28) × (n ≡ catalog_length room) × (volume_count room ≡ volume_count b + 1)
      × Moved (volume_row vol) (volume_rows b) (volume_rows room)
  by_reading w (Err r) is z = absurd (refused_some vol is z)
  by_reading w (Ok p) is z = let a = add_passed b vol z in
      let c = is_catalog_lem b a.catalog in
      let t = told vol is in
      let r : List ℕ = volume_row vol in
      let sized : All Sized inserted = all_insert {P = Sized} r (length_volume_row vol t) (volumes_sized b c) in
      let many : length inserted ≡ volume_count b + 1 = length_inserted b c r in
      let k = changed b c inserted sized (omega (arith, many, volumes_few b c)) bytes w in
      let others : All (Other (number_of r)) (volume_rows b) =
      none_held (number_of r) (volume_rows b) (ap (λ (v : ℕ). holds v (volume_rows b)) (volume_row_number vol t) ∙ a.new) in
      let place : ℕ = place_of (number_of r) (volume_rows b) in
      let moved : Moved r (volume_rows b) inserted = record {
        front = take place (volume_rows b);
        back = drop place (volume_rows b);
        others = sym (take-append-drop place (volume_rows b));
        with_row = insert_at r (volume_rows b);
        ascend = insert_ascend r (allowed_ascend _ _ 0 (volume_rows b) c.volumes_right) others;
      } in (
        k.kept,
        w.length_is ∙ length_added b c r (length_volume_row vol t),
        k.answer_is,
        k.volumes_count ∙ many,
        subst (Moved r (volume_rows b)) (sym k.volumes_are) moved,
      )

pub add_kept : AddKept
unfolding add_of
add_kept b vol room n bytes e =
    let w = unless_tells (add_refusal b vol (read_of vol)) (added_bytes b vol) b e in by_reading b vol room n bytes w (read_of vol) refl w.none

-- ---- dropping

pub drop_kept : DropKept
unfolding drop_of
drop_kept b v room n bytes e = let w = unless_tells (bare (drop_number b v)) (dropped_bytes b v) b e in
    let passed = drop_passed b v w.none in
    let c = passed.0 in
    let vs : List (List ℕ) = volume_rows b in
    let place : ℕ = place_of v vs in
    let within : place < volume_count b = held_within b c v passed.1 in
    let total : length vs ≡ volume_count b = length-rows (volume_count b) (drop (16 + 28 * entry_count b) b) in
    let r : List ℕ = get_or vs place [] in
    let found = and_both (ltb place (length vs)) (eqb (number_of r) v) (sym (holds-place _ _ 0 vs v c.volumes_right) ∙ passed.1) in
    let remains : List (List ℕ) = remove_row v vs in
    let sized : All Sized remains = all_keep _ (volumes_sized b c) in
    let many : length remains + 1 ≡ volume_count b = length_removed b c v passed.1 within in
    let k = changed b c remains sized (omega (arith, many, volumes_few b c)) bytes w in
    let split : vs ≡ take place vs ++ (r ∷ drop (place + 1) vs) = rw add-one (split_at vs place [] (omega arith)) in
    let moved : Moved r remains vs = record {
      front = take place vs;
      back = drop (place + 1) vs;
      others = remove_at _ _ 0 vs v c.volumes_right passed.1;
      with_row = split;
      ascend = allowed_ascend _ _ 0 vs c.volumes_right;
    } in (
      r,
      k.kept,
      omega (arith, w.length_is, length_dropped b c v passed.1 within),
      k.answer_is,
      omega (arith, k.volumes_count, many),
      eqb-true _ _ found.1,
      subst (λ (l : List (List ℕ)). Moved r l vs) (sym k.volumes_are) moved,
    )
