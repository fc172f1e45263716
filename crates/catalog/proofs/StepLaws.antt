-- What a call makes of the catalog in a room.
--
--   Next h n room        h is in the catalog then, and n is its length
--   open_next, add_next, drop-next, call_next     so it is after an accepted call
--   open_accepted, add_accepted     what may stand in it is accepted, where there is room
--   AddPassed b vol      the volume vol, which is read, passes the tests of adding
--   refused-same         a refused call leaves the room
--   step                 any call keeps that what is in the catalog stands in the room
-- Assumes nothing.
use Rattle.std.specs.Prelude.{Ok, Err}
use mathlib.Core.Path.{◌≡◌, refl, sym, ap, ap₂, ◌∙◌, subst}
use mathlib.Core.Bool.{true, false, not}
use mathlib.Core.List.Permᴰ
use mathlib.Core.List.{List, [], ◌∷◌, ◌++◌, flatten}
use Prim.Native.Nat.{ℕ, ◌+◌, ◌-◌, ◌≤◌}
use native.Mathlib.Omega.{arith}
use lib.Dec.{leb, eqb}
use lib.ListN.{length, drop}
use borrow.Author.Tests.{leb-true, le-leb, not-true}
use Rattle.cut_lists.specs.All.{All, all_none, all_more}
use Rattle.cut_lists.proofs.AllLaws.{all_map}
use Rattle.computed_tests.proofs.Tests.{one_to_in, one_to_inside}
use Rattle.refusals.specs.Limits.{max_entries}
use Rattle.refusals.specs.Tests.{bare}
use Rattle.refusals.specs.declared.Refusal.{Refusal}
use Rattle.refusals.proofs.TestLaws.{test_passed}
use Rattle.lent_bytes.specs.Equal.{equal}
use Rattle.lent_bytes.specs.Writing.{accepted}
use Rattle.lent_bytes.specs.Writing.{Writing}
use Rattle.lent_bytes.proofs.EqualLaws.{equal-same, equal_true}
use Rattle.lent_bytes.proofs.WritingLaws.{Accepted, unless_accepted, unless_tells, unless_same}
use Rattle.entries.specs.Numbering.{keep}
use Rattle.entries.proofs.KeepLaws.{all_keep, keep_same, keep-map}
use Rattle.par1_read.specs.Reading.{entries_in, read_of}
use Rattle.par1_read.specs.declared.reading.Parts.{Parts}
use Rattle.par1_read.specs.Reading.{Reading}
use Rattle.par1_read.proofs.ReadingLaws.{refused_some}
use Rattle.par1_rules.specs.Layout.{volume_number_of}
use Rattle.catalog.specs.Rows.{number_of, rows_for, volume_row, catalog_bytes}
use Rattle.catalog.specs.Catalog.{rows_in, entry_rows, volume_rows, saved_rows, is_catalog, holds, insert_row, remove_row}
use Rattle.catalog.specs.Calls.{open_refusal, open_of, volume_in_range, add_number, add_refusal, added_bytes, add_of, drop_number, dropped_bytes, drop_of}
use Rattle.catalog.specs.Runs.{Call, opening, adding, dropping, given, Held, newly_opened, held_after, held_length}
use Rattle.catalog.proofs.BackLaws.{Back, number_within}
use Rattle.catalog.proofs.ChangeLaws.{length_catalog}
use Rattle.catalog.proofs.FileRows.{file_rows, volume_row_lem}
use Rattle.catalog.proofs.OrderLaws.{sort_rows, Other, Distinct, distinct_none, distinct_more, all_perm, sort_perm, sort_remove, distinct_remove, holds-none, none_held}
use Rattle.catalog.proofs.RowLaws.{Sized, rows_back, length-flatten}
use Rattle.catalog.proofs.HeldLaws.{rows_of, entries_of, catalog_of, VolumeIn, In, Invariant, each_row, in_rows, read_back, stands_catalog}

-- what stands in the room after it, and its answer
pub record Next (h : Held) (n : ℕ) (room : List ℕ) : Type 0 where
  pub invariant : Invariant h room
  pub answer_is : n ≡ held_length h

made : {m : Refusal} {s out : List ℕ} {n : ℕ} {room : List ℕ} (h : Held) → In h → Accepted m s out n room → s ≡ catalog_of h → Next h n room
made {s = s} {out = out} h i w e = record {
  invariant = record { inside = i; rest = drop (length s) out; room_is = w.room_is ∙ ap (λ (l : List ℕ). l ++ drop (length s) out) e };
  answer_is = w.length_is ∙ ap length e ∙ (in_rows h i).size;
}

-- ---- opening

pub open_next : (f out : List ℕ) {n : ℕ} {room : List ℕ} → open_of f out ≡ (Ok n, room) → Next (newly_opened f) n room
unfolding open_of
open_next f out {n} {room} e =
    let w = unless_tells (open_refusal f (read_of f)) (catalog_bytes (rows_for (entries_in f)) []) out e in made (newly_opened f) (by (read_of f) refl w.none) w refl
  where
    by : (k : Reading) → read_of f ≡ k → (open_refusal f k).number ≡ 0 → In (newly_opened f)
    by (Ok p) is z = let passed = test_passed 26 (leb (length (entries_in f)) max_entries) 0 (omega arith) z in
        record { parts = p; read = is; few = leb-true _ _ passed.0; each = all_none; once = distinct_none }
    by (Err r) is z = absurd (refused_some f is z)

-- a file that may be in it is opened from, where there is room
pub open_accepted : {h : Held} → In h → (out : List ℕ) → held_length (newly_opened h.file) ≤ length out
    → open_of h.file out ≡ accepted (catalog_bytes (entries_of h) []) out
unfolding open_of
open_accepted {h} i out fits = let f : List ℕ = h.file in
    let r = file_rows f i.read in
    let none : (open_refusal f (read_of f)).number ≡ 0 =
    ap (λ (k : Reading). (open_refusal f k).number) i.read ∙ simp (le-leb (length (entries_in f)) max_entries i.few) in
    unless_accepted (open_refusal f (read_of f)) (catalog_bytes (entries_of h) []) out none
    (omega (arith, length_catalog r.sized all_none, r.count))

-- ---- adding

pub record AddPassed (b vol : List ℕ) : Type 0 where
  pub catalog : is_catalog b ≡ true
  pub range : volume_in_range (volume_number_of vol) b ≡ true
  pub rows : equal (flatten (rows_for (entries_in vol))) (flatten (entry_rows b)) ≡ true
  pub few : leb (length (entries_in vol)) max_entries ≡ true
  pub new : holds (volume_number_of vol) (volume_rows b) ≡ false

module _ (b vol : List ℕ) where
  pub add_passed : add_number b vol ≡ 0 → AddPassed b vol
  unfolding add_number
  add_passed z = let t₃₀ = test_passed 30 (is_catalog b) _ (omega arith) z in
      let t₁₀ = test_passed 10 (volume_in_range (volume_number_of vol) b) _ (omega arith) t₃₀.1 in
      let t₂₅ = test_passed 25 (equal (flatten (rows_for (entries_in vol))) (flatten (entry_rows b))) _ (omega arith) t₁₀.1 in
      let t₂₆ = test_passed 26 (leb (length (entries_in vol)) max_entries) _ (omega arith) t₂₅.1 in
      let t₁₁ = test_passed 11 (not (holds (volume_number_of vol) (volume_rows b))) 0 (omega arith) t₂₆.1 in
      record { catalog = t₃₀.0; range = t₁₀.0; rows = t₂₅.0; few = t₂₆.0; new = not-true _ t₁₁.0 }

  pub passed_none : AddPassed b vol → add_number b vol ≡ 0
  unfolding add_number
  passed_none a = simp (a.catalog, a.range, a.rows, a.few, a.new)

pub rows-equal : {xs ys : List (List ℕ)} → All Sized xs → All Sized ys → flatten xs ≡ flatten ys → xs ≡ ys
rows-equal {xs} {ys} a b e = let n : length xs ≡ length ys = omega (arith, length-flatten a, length-flatten b, ap length e) in
    sym (rows_back a []) ∙ ap₂ (λ (k : ℕ) (l : List ℕ). rows_in k (l ++ [])) n e ∙ rows_back b []

module _ {h : Held} {room : List ℕ} (i : Invariant h room) (vol : List ℕ) where
  abbrev With : Held
  With = record { file = h.file; volumes = vol ∷ h.volumes }

  back : Back (entries_of h) (sort_rows (rows_of h.volumes)) room
  back = read_back i

  with_bytes : added_bytes room vol ≡ catalog_of With
  with_bytes = ap₂ (λ (x y : List (List ℕ)). catalog_bytes x (insert_row (volume_row vol) y)) back.entries_are back.volumes_are

  with_in : VolumeIn (entries_of h) vol → holds (volume_number_of vol) (volume_rows room) ≡ false → In With
  with_in v none = let r = volume_row_lem (entries_of h) vol v.read v.same v.low in
      let rows : List (List ℕ) = rows_of h.volumes in
      let new : holds (number_of (volume_row vol)) (sort_rows rows) ≡ false =
      ap₂ (λ (k : ℕ) (l : List (List ℕ)). holds k l) r.number_is (sym back.volumes_are) ∙ none in
      let others : All (Other (number_of (volume_row vol))) rows = all_perm (sort_perm rows) (none_held _ (sort_rows rows) new) in
      let j = i.inside in
      record { parts = j.parts; read = j.read; few = j.few; each = all_more v j.each; once = distinct_more others j.once }

  volume_in : {p : Parts} → read_of vol ≡ Ok p → AddPassed room vol → VolumeIn (entries_of h) vol
  volume_in {p} read a = let f = file_rows vol read in
      let r = in_rows h i.inside in
      let same : flatten (rows_for (entries_in vol)) ≡ flatten (entries_of h) = equal_true _ _ a.rows ∙ ap flatten back.entries_are in
      let low = (one_to_inside (255 - length (saved_rows (entry_rows room))) (volume_number_of vol) a.range).0 in
      record { parts = p; read = read; same = rows-equal f.sized r.entries_sized same; low = omega arith }

  pub add_next : {n : ℕ} {after : List ℕ} → add_of room vol ≡ (Ok n, after) → Next With n after
  unfolding add_of
  add_next {n} {after} e = let w = unless_tells (add_refusal room vol (read_of vol)) (added_bytes room vol) room e in
      made With (by (read_of vol) refl w.none) w with_bytes
    where
      by : (k : Reading) → read_of vol ≡ k → (add_refusal room vol k).number ≡ 0 → In With
      by (Ok p) is z = let a = add_passed room vol z in with_in (volume_in is a) a.new
      by (Err r) is z = absurd (refused_some vol is z)

  -- a volume that is not in it yet is added, where there is room
  pub add_accepted : VolumeIn (entries_of h) vol → All (Other (number_of (volume_row vol))) (rows_of h.volumes) → held_length h + 28 ≤ length room
      → add_of room vol ≡ accepted (added_bytes room vol) room
  unfolding add_of
  add_accepted v o fits = let r = volume_row_lem (entries_of h) vol v.read v.same v.low in
      let rows : List (List ℕ) = rows_of h.volumes in
      let f = file_rows vol v.read in
      let g = in_rows h i.inside in
      let new : holds (volume_number_of vol) (volume_rows room) ≡ false =
      ap₂ (λ (k : ℕ) (l : List (List ℕ)). holds k l) (sym r.number_is) back.volumes_are
      ∙ holds-none _ (all_perm (Permᴰ.symm (sort_perm rows)) o) in
      let files : length (saved_rows (entry_rows room)) ≡ length (saved_rows (entries_of h)) = ap (λ (l : List (List ℕ)). length (saved_rows l)) back.entries_are in
      let high : volume_number_of vol + length (saved_rows (entries_of h)) ≤ 255 = number_within _ _ v.low r.number_right in
      let few : length (entries_in vol) ≤ max_entries = omega (arith, f.count, ap length v.same, g.count, i.inside.few) in
      let passed : AddPassed room vol = record {
        catalog = stands_catalog i;
        range = one_to_in (255 - length (saved_rows (entry_rows room))) (volume_number_of vol) (omega (arith, v.low)) (omega arith);
        rows = equal-same (ap flatten (v.same ∙ sym back.entries_are));
        few = le-leb _ _ few;
        new = new;
      } in
      let size : length (added_bytes room vol) ≡ held_length With = ap length with_bytes ∙ (in_rows With (with_in v new)).size in
      unless_accepted (add_refusal room vol (read_of vol)) (added_bytes room vol) room
      (ap (λ (k : Reading). (add_refusal room vol k).number) v.read ∙ passed_none room vol passed) (omega arith)

-- ---- dropping

module _ {h : Held} {room : List ℕ} (i : Invariant h room) (v : ℕ) where
  abbrev Without : Held
  Without = record { file = h.file; volumes = keep (λ vol. not (eqb (volume_number_of vol) v)) h.volumes }

  remaining : remove_row v (rows_of h.volumes) ≡ rows_of Without.volumes
  remaining = let rows = each_row (entries_of h) i.inside.each in
      keep-map (λ r. not (eqb (number_of r) v)) (λ vol. volume_row vol) h.volumes
      ∙ ap rows_of (keep_same (all_map (λ vol r. ap (λ (k : ℕ). not (eqb k v)) r.number_is) rows))

  without_bytes : dropped_bytes room v ≡ catalog_of Without
  without_bytes = let b = read_back i in
      simp (b.entries_are, b.volumes_are, sort_remove v i.inside.once, remaining)

  without_in : In Without
  without_in = let j = i.inside in
      record {
        parts = j.parts;
        read = j.read;
        few = j.few;
        each = all_keep _ j.each;
        once = subst Distinct remaining (distinct_remove v j.once);
      }

  drop-next : {n : ℕ} {after : List ℕ} → drop_of room v ≡ (Ok n, after) → Next Without n after
  unfolding drop_of
  drop-next e = made Without without_in (unless_tells (bare (drop_number room v)) (dropped_bytes room v) room e) without_bytes

-- ---- any call

pub refused-same : (c : Call) (room : List ℕ) {r : Refusal} {after : List ℕ} → given c room ≡ (Err r, after) → after ≡ room
unfolding open_of add_of drop_of
refused-same (opening f) room e = unless_same _ _ room e
refused-same (adding vol) room e = unless_same _ _ room e
refused-same (dropping v) room e = unless_same _ _ room e

pub call_next : {h : Held} {room : List ℕ} → Invariant h room → (c : Call) {n : ℕ} {after : List ℕ} → given c room ≡ (Ok n, after)
    → Next (held_after c (Ok n) h) n after
call_next i (opening f) e = open_next f _ e
call_next i (adding vol) e = add_next i vol e
call_next i (dropping v) e = drop-next i v e

pub step : {h : Held} {room : List ℕ} → Invariant h room → (c : Call) → Invariant (held_after c (given c room).0 h) (given c room).1
step {h} {room} i c = by (given c room).0 (given c room).1 refl
  where
    by : (w : Writing) (after : List ℕ) → given c room ≡ (w, after) → Invariant (held_after c w h) after
    by (Ok n) after e = (call_next i c e).invariant
    by (Err r) after e = subst (Invariant h) (sym (refused-same c room e)) i
