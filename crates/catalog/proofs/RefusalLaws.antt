-- Which refusal a call on a catalog gives.
--
--   out_range, in_range_lem     10, as a test
--   has_held, held_has      11, as a test
--   Decided c room          one of the tests fails, or the call is accepted
--   call_refuses, load_refuses     the refusal that holds first is given
--   call_refused, load_refused     the claims
-- A test is passed where it does not hold.
-- Assumes nothing.
use Rattle.std.specs.Prelude.{Ok, Err}
use mathlib.Core.Path.{◌≡◌, refl, sym, ap, ◌∙◌, subst}
use mathlib.Core.Bool.{Bool, true, false, cond, ◌||◌, true≢false}
use mathlib.Core.List.{List, [], ◌∷◌, ◌++◌, flatten}
use Prim.Native.Nat.{ℕ, ◌+◌, ◌-◌, ◌*◌, ◌≤◌, ◌<◌}
use native.Mathlib.Decide.{dec_lt}
use native.Mathlib.Omega.{arith}
use lib.Dec.{leb, eqb}
use lib.ListN.{length, drop}
use borrow.Author.Tests.{le-leb, lt-leb, leb-false, eqb-true, eq-eqb}
use Rattle.computed_tests.specs.Numbers.{one_to}
use Rattle.computed_tests.proofs.Tests.{test_fails, one_to_in, one_to_outside}
use Rattle.refusals.specs.Limits.{max_entries}
use Rattle.refusals.specs.Tests.{bare, test}
use Rattle.refusals.specs.declared.Refusal.{Refusal}
use Rattle.lent_bytes.specs.Equal.{equal}
use Rattle.lent_bytes.specs.Writing.{refused, accepted, writing_refusal}
use Rattle.lent_bytes.specs.Writing.{Writing}
use Rattle.lent_bytes.proofs.EqualLaws.{equal-same, equal_true}
use Rattle.lent_bytes.proofs.WritingLaws.{written_short, unless_none, unless_refused, unless_accepted}
use Rattle.par1_read.specs.Reading.{entries_in, read_of}
use Rattle.par1_read.specs.declared.reading.Parts.{Parts}
use Rattle.par1_read.specs.Reading.{Reading}
use Rattle.par1_rules.specs.Layout.{volume_number_of, list_of}
use Rattle.catalog.specs.Rows.{number_of, rows_for, catalog_bytes}
use Rattle.catalog.specs.Catalog.{entry_count, catalog_length, entry_rows, volume_rows, is_catalog, holds}
use Rattle.catalog.specs.Calls.{open_refusal, open_of, volume_in_range, add_number, add_refusal, added_bytes, add_of, drop_number, dropped_bytes, drop_of, loading_of, filled_by, load_of}
use Rattle.catalog.specs.Runs.{Call, opening, adding, dropping, given}
use Rattle.catalog.specs.Claim as claim
use Rattle.catalog.specs.Claim.{OutOfRange, HasRow, files_in, AddFails, Refuses, CallRefused, LoadRefuses, LoadRefused}
use Rattle.catalog.specs.declared.records.Row.{Row}
use Rattle.catalog.proofs.CallLaws.{length-opened, added_length, open_unread, add_unread, held_within}
use Rattle.catalog.proofs.CatalogLaws.{Catalog, is_catalog_lem}
use Rattle.catalog.proofs.ChangeLaws.{entries_sized, length_dropped}
use Rattle.catalog.proofs.StepLaws.{passed_none, rows-equal, refused-same}
use Rattle.catalog.proofs.ListLaws.{rows_sized_for}
use Rattle.catalog.proofs.RowLaws.{length-rows}

-- ---- the tests

module _ (v n : ℕ) where
  out_range : OutOfRange v n → one_to (255 - n) v ≡ false
  out_range (claim.number_none z) = one_to_outside (255 - n) v (λ h k. omega arith)
  out_range (claim.number_high z) = one_to_outside (255 - n) v (λ h k. omega arith)

  in_range_lem : (OutOfRange v n → ⊥) → one_to (255 - n) v ≡ true
  in_range_lem h = by (dec_lt 0 v) (dec_lt (255 - n) v)
    where
      by : Dec (0 < v) → Dec (255 - n < v) → one_to (255 - n) v ≡ true
      by (no z) k = absurd (h (claim.number_none (omega arith)))
      by (yes z) (yes k) = absurd (h (claim.number_high k))
      by (yes z) (no k) = one_to_in (255 - n) v (omega arith) (omega arith)

  range_told : one_to (255 - n) v ≡ false → OutOfRange v n
  range_told e = by (dec_lt 0 v) (dec_lt (255 - n) v)
    where
      by : Dec (0 < v) → Dec (255 - n < v) → OutOfRange v n
      by (no z) k = claim.number_none (omega arith)
      by (yes z) (yes k) = claim.number_high k
      by (yes z) (no k) = absurd (true≢false (sym (one_to_in (255 - n) v (omega arith) (omega arith)) ∙ e))

  range_not : one_to (255 - n) v ≡ true → OutOfRange v n → ⊥
  range_not e o = true≢false (sym e ∙ out_range o)

module _ (v : ℕ) where
  held_in : (front : List (List ℕ)) (r : List ℕ) (back : List (List ℕ)) → number_of r ≡ v → holds v (front ++ (r ∷ back)) ≡ true
  unfolding holds
  held_in [] r back e = simp (eq-eqb _ _ e)
  held_in (x ∷ front) r back e = by (eqb (number_of x) v) (held_in front r back e)
    where
      by : (t : Bool) → holds v (front ++ (r ∷ back)) ≡ true → (t || holds v (front ++ (r ∷ back))) ≡ true
      by true m = refl
      by false m = m

  has_held : (rs : List (List ℕ)) → HasRow v rs → holds v rs ≡ true
  has_held rs h = ap (holds v) h.rows_are ∙ held_in h.front h.row h.back h.number_is

  held_has : (rs : List (List ℕ)) → holds v rs ≡ true → HasRow v rs
  unfolding holds
  held_has [] e = absurd (true≢false (sym e))
  held_has (x ∷ rs) e = by (eqb (number_of x) v) refl e (held_has rs)
    where
      by : (t : Bool) → t ≡ eqb (number_of x) v → (t || holds v rs) ≡ true → (holds v rs ≡ true → HasRow v rs) → HasRow v (x ∷ rs)
      by true z f m = record { front = []; row = x; back = rs; rows_are = refl; number_is = eqb-true _ _ (sym z) }
      by false z f m = let k = m f in
          record { front = x ∷ k.front; row = k.row; back = k.back; rows_are = ap (λ (l : List (List ℕ)). x ∷ l) k.rows_are; number_is = k.number_is }

  not_held : (rs : List (List ℕ)) → (HasRow v rs → ⊥) → holds v rs ≡ false
  not_held rs h = test_fails (holds v rs) (λ e. h (held_has rs e))

  held_not : (rs : List (List ℕ)) → holds v rs ≡ false → HasRow v rs → ⊥
  held_not rs e h = true≢false (sym (has_held rs h) ∙ e)

-- 25, of a catalog
module _ (b vol : List ℕ) (c : Catalog b) where
  rows_alike : equal (flatten (rows_for (entries_in vol))) (flatten (entry_rows b)) ≡ true → rows_for (entries_in vol) ≡ entry_rows b
  rows_alike e = rows-equal (rows_sized_for (list_of vol)) (entries_sized b c) (equal_true _ _ e)

  rows_unlike : (rows_for (entries_in vol) ≡ entry_rows b → ⊥) → equal (flatten (rows_for (entries_in vol))) (flatten (entry_rows b)) ≡ false
  rows_unlike h = test_fails _ (λ e. h (rows_alike e))

-- ---- adding

module _ (b vol : List ℕ) {p : Parts} (read : read_of vol ≡ Ok p) where
  gives_number : {k : ℕ} → add_number b vol ≡ k → add_refusal b vol (read_of vol) ≡ bare k
  gives_number e = ap (λ (r : Reading). add_refusal b vol r) read ∙ ap bare e

  number_refused : (k : ℕ) → (k ≡ 0 → ⊥) → add_number b vol ≡ k → add_of b vol ≡ refused (bare k) b
  unfolding add_of
  number_refused k some e = sym (unless_refused (added_bytes b vol) b (sym (gives_number e)) some refl)

  passed : is_catalog b ≡ true → volume_in_range (volume_number_of vol) b ≡ true → rows_for (entries_in vol) ≡ entry_rows b
      → length (entries_in vol) ≤ max_entries → holds (volume_number_of vol) (volume_rows b) ≡ false → add_number b vol ≡ 0
  passed is r same few none =
      passed_none b vol (record { catalog = is; range = r; rows = equal-same (ap flatten same); few = le-leb _ _ few; new = none })

  add_fails : {k : ℕ} → AddFails b vol k → add_of b vol ≡ refused (bare k) b
  unfolding add_number add_of
  add_fails (claim.other_bytes z) = number_refused 30 (λ h. omega arith) (simp z)
  add_fails (claim.out_of_range is o) = number_refused 10 (λ h. omega arith) (simp (is, out_range _ _ o))
  add_fails (claim.other_rows is o unlike) =
      number_refused 25 (λ h. omega arith) (simp (is, in_range_lem _ _ o, rows_unlike b vol (is_catalog_lem b is) unlike))
  add_fails (claim.more_entries is o same many) =
      number_refused 26 (λ h. omega arith) (simp (is, in_range_lem _ _ o, equal-same (ap flatten same), lt-leb _ _ many))
  add_fails (claim.added_twice is o same few has) =
      number_refused 11 (λ h. omega arith)
      (simp (is, in_range_lem _ _ o, equal-same (ap flatten same), le-leb _ _ few, has_held _ (volume_rows b) has))
  add_fails (claim.no_room_to_add is o same few has short) =
      let none = passed is (in_range_lem _ _ o) same few (not_held _ (volume_rows b) has) in
      sym (unless_none (added_bytes b vol) b (sym (gives_number none)) refl
      (written_short (added_bytes b vol) b (omega (arith, added_length b vol read (is_catalog_lem b is)))))

-- ---- the other calls

module _ (f room : List ℕ) {p : Parts} (read : read_of f ≡ Ok p) where
  abbrev opened : List ℕ
  opened = catalog_bytes (rows_for (entries_in f)) []

  opens_with : {k : ℕ} → test 26 (leb (length (entries_in f)) max_entries) 0 ≡ k → open_refusal f (read_of f) ≡ bare k
  opens_with e = ap (λ (r : Reading). open_refusal f r) read ∙ ap bare e

  open_many : max_entries < length (entries_in f) → open_of f room ≡ refused (bare 26) room
  unfolding open_of
  open_many h = sym (unless_refused opened room (sym (opens_with (simp (lt-leb _ _ h)))) (λ z. omega arith) refl)

  module _ (few : length (entries_in f) ≤ max_entries) where
    none : open_refusal f (read_of f) ≡ bare 0
    none = opens_with (simp (le-leb _ _ few))

    open_short : length room < 16 + 28 * length (entries_in f) → open_of f room ≡ refused (bare 14) room
    unfolding open_of
    open_short h = sym (unless_none opened room (sym none) refl (written_short opened room (omega (arith, length-opened f room))))

    open_fits : 16 + 28 * length (entries_in f) ≤ length room → open_of f room ≡ accepted opened room
    unfolding open_of
    open_fits h =
        unless_accepted (open_refusal f (read_of f)) opened room (ap (λ (r : Refusal). r.number) none) (omega (arith, length-opened f room))

drop_number_lem : (room : List ℕ) (v k : ℕ) → (k ≡ 0 → ⊥) → drop_number room v ≡ k → drop_of room v ≡ refused (bare k) room
unfolding drop_of
drop_number_lem room v k some e = sym (unless_refused (dropped_bytes room v) room (sym (ap bare e)) some refl)

call_refuses : (c : Call) (room : List ℕ) (r : Refusal) → Refuses c room r → given c room ≡ refused r room
unfolding drop_number
call_refuses c room r (claim.open_unread {f} e) = sym (open_unread f room e)
call_refuses c room r (claim.open_many {f} e h) = open_many f room e h
call_refuses c room r (claim.open_short {f} e few h) = open_short f room e few h
call_refuses c room r (claim.add_unread {vol} e) = sym (add_unread room vol e)
call_refuses c room r (claim.add_fails {vol} e fails) = add_fails room vol e fails
call_refuses c room r (claim.drop_other {v} z) = drop_number_lem room v 30 (λ h. omega arith) (simp z)
call_refuses c room r (claim.drop_range {v} is o) = drop_number_lem room v 10 (λ h. omega arith) (simp (is, out_range _ _ o))
call_refuses c room r (claim.drop_absent {v} is o h) =
    drop_number_lem room v 11 (λ h. omega arith) (simp (is, in_range_lem _ _ o, not_held _ (volume_rows room) h))

-- ---- one of the tests fails, or the call is accepted

data Decided (c : Call) (room : List ℕ) : Type 0 where
  refuses : {r : Refusal} → Refuses c room r → Decided c room
  accepts : {n : ℕ} {after : List ℕ} → given c room ≡ (Ok n, after) → Decided c room

open_decided : (f room : List ℕ) → Decided (opening f) room
open_decided f room = by (read_of f) refl (dec_lt max_entries (length (entries_in f))) (dec_lt (length room) (16 + 28 * length (entries_in f)))
  where
    by : (k : Reading) → read_of f ≡ k → Dec (max_entries < length (entries_in f)) → Dec (length room < 16 + 28 * length (entries_in f))
        → Decided (opening f) room
    by (Err r) e m s = refuses (claim.open_unread e)
    by (Ok p) e (yes m) s = refuses (claim.open_many e m)
    by (Ok p) e (no m) (yes s) = refuses (claim.open_short e (omega arith) s)
    by (Ok p) e (no m) (no s) = accepts (open_fits f room e (omega arith) (omega arith))

add_decided : (vol room : List ℕ) → Decided (adding vol) room
unfolding add_of
add_decided vol room =
    by (read_of vol) refl (is_catalog room) refl (volume_in_range (volume_number_of vol) room) refl
    (equal (flatten (rows_for (entries_in vol))) (flatten (entry_rows room))) refl (dec_lt max_entries (length (entries_in vol)))
    (holds (volume_number_of vol) (volume_rows room)) refl (dec_lt (length room) (catalog_length room + 28))
  where
    by : (k : Reading) → read_of vol ≡ k → (i : Bool) → is_catalog room ≡ i → (r : Bool) → volume_in_range (volume_number_of vol) room ≡ r
        → (q : Bool) → equal (flatten (rows_for (entries_in vol))) (flatten (entry_rows room)) ≡ q → Dec (max_entries < length (entries_in vol))
        → (h : Bool) → holds (volume_number_of vol) (volume_rows room) ≡ h → Dec (length room < catalog_length room + 28) → Decided (adding vol) room
    by (Err e) x i is r range q same m h has s = refuses (claim.add_unread x)
    by (Ok p) x false is r range q same m h has s = refuses (claim.add_fails x (claim.other_bytes is))
    by (Ok p) x true is false range q same m h has s =
        refuses (claim.add_fails x (claim.out_of_range is (range_told (volume_number_of vol) (files_in room) range)))
    by (Ok p) x true is true range false same m h has s =
        refuses (claim.add_fails x (claim.other_rows is (range_not (volume_number_of vol) (files_in room) range)
        (λ z. true≢false (sym (equal-same (ap flatten z)) ∙ same))))
    by (Ok p) x true is true range true same (yes m) h has s =
        refuses (claim.add_fails x (claim.more_entries is (range_not (volume_number_of vol) (files_in room) range)
        (rows_alike room vol (is_catalog_lem room is) same) m))
    by (Ok p) x true is true range true same (no m) true has s =
        refuses (claim.add_fails x (claim.added_twice is (range_not (volume_number_of vol) (files_in room) range)
        (rows_alike room vol (is_catalog_lem room is) same) (omega arith) (held_has (volume_number_of vol) (volume_rows room) has)))
    by (Ok p) x true is true range true same (no m) false has (yes s) =
        refuses (claim.add_fails x (claim.no_room_to_add is (range_not (volume_number_of vol) (files_in room) range)
        (rows_alike room vol (is_catalog_lem room is) same) (omega arith) (held_not (volume_number_of vol) (volume_rows room) has) s))
    by (Ok p) x true is true range true same (no m) false has (no s) =
        let none = passed room vol x is range (rows_alike room vol (is_catalog_lem room is) same) (omega arith) has in
        accepts (unless_accepted (add_refusal room vol (read_of vol)) (added_bytes room vol) room
        (ap (λ (r : Refusal). r.number) (gives_number room vol x none)) (omega (arith, added_length room vol x (is_catalog_lem room is))))

drop_decided : (v : ℕ) (room : List ℕ) → Decided (dropping v) room
unfolding drop_number drop_of
drop_decided v room = by (is_catalog room) refl (volume_in_range v room) refl (holds v (volume_rows room)) refl
  where
    by : (i : Bool) → is_catalog room ≡ i → (r : Bool) → volume_in_range v room ≡ r → (h : Bool) → holds v (volume_rows room) ≡ h
        → Decided (dropping v) room
    by false is r range h has = refuses (claim.drop_other is)
    by true is false range h has = refuses (claim.drop_range is (range_told v (files_in room) range))
    by true is true range false has = refuses (claim.drop_absent is (range_not v (files_in room) range) (held_not v (volume_rows room) has))
    by true is true range true has = let c = is_catalog_lem room is in
        let none : drop_number room v ≡ 0 = simp (is, range, has) in
        accepts (unless_accepted (bare (drop_number room v)) (dropped_bytes room v) room none
        (omega (arith, c.within, length_dropped room c v has (held_within room c v has))))

pub call_refused : CallRefused
call_refused c room r = (call_refuses c room r, λ after e. (by e (decided c), refused-same c room e))
  where
    decided : (c : Call) → Decided c room
    decided (opening f) = open_decided f room
    decided (adding vol) = add_decided vol room
    decided (dropping v) = drop_decided v room

    by : {after : List ℕ} → given c room ≡ (Err r, after) → Decided c room → Refuses c room r
    by e (refuses {r = q} h) =
        subst (Refuses c room) (ap (λ (p : Writing × List ℕ). writing_refusal p.0) (sym (call_refuses c room q h) ∙ e)) h
    by e (accepts {n} a) = let answer : Ok n ≡ Err r = ap (λ (p : Writing × List ℕ). p.0) (sym a ∙ e) in
        absurd (let z : ◌≡◌ {A = ℕ} 0 1 = cc in omega arith)

-- ---- loading

entries_count : (b : List ℕ) → length (entry_rows b) ≡ entry_count b
entries_count b = length-rows (entry_count b) (drop 16 b)

load_refuses : (b : List ℕ) (rows : List Row) (r : Refusal) → LoadRefuses b (length rows) r → load_of b rows ≡ (Err r, rows)
unfolding loading_of
load_refuses b rows r (claim.load_other z) = simp z
load_refuses b rows r (claim.load_short is h) =
    let short : leb (entry_count b) (length rows) ≡ false = lt-leb (entry_count b) (length rows) (omega (arith, entries_count b)) in simp (is, short)

pub load_refused : LoadRefused
unfolding loading_of
load_refused b rows r = (load_refuses b rows r, λ after e. by (is_catalog b) refl (leb (entry_count b) (length rows)) refl e)
  where
    answer : Bool → Bool → Writing
    answer i s = cond i (cond s (Ok (entry_count b)) (Err (bare 14))) (Err (bare 30))

    by : {after : List Row} (i : Bool) → is_catalog b ≡ i → (s : Bool) → leb (entry_count b) (length rows) ≡ s
        → ◌≡◌ {A = Writing × List Row} (answer i s, filled_by (answer i s) b rows) (Err r, after)
        → LoadRefuses b (length rows) r × (after ≡ rows)
    by false is s short e = (
      subst (LoadRefuses b (length rows)) (ap (λ (p : Writing × List Row). writing_refusal p.0) e) (claim.load_other is),
      sym (ap (λ (p : Writing × List Row). p.1) e),
    )
    by true is false short e =
        let h : length rows < length (entry_rows b) = omega (arith, leb-false (entry_count b) (length rows) short, entries_count b) in (
          subst (LoadRefuses b (length rows)) (ap (λ (p : Writing × List Row). writing_refusal p.0) e) (claim.load_short is h),
          sym (ap (λ (p : Writing × List Row). p.1) e),
        )
    by true is true short e = let told : Ok (entry_count b) ≡ Err r = ap (λ (p : Writing × List Row). p.0) e in
        absurd (let z : ◌≡◌ {A = ℕ} 0 1 = cc in omega arith)
