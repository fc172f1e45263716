-- What the calls give, from what their parts give.
--
--   plan_drop_is, plan_drop_other, plan_add_is, plan_add_other     what dropping and adding a volume plan, of a catalog and of other bytes
--   Planning         what a plan tells: no test fails, and the place
--   drop_passed, add_catalog     the tests passed
--   held_within      a row that is there lies before the end
--   count_low, volumes_few     a catalog has at most 255 volumes
--   Dropping, dropping, drop-over, drop_refuses     dropping, from its plan
--   Adding, adding, add_over, add_short, add_refuses, add_unread     adding, from its plan
--   length-opened, open_over, open_short, open_many, open_unread     opening
--   loading_whole, loading_short, loading_other     loading
-- Assumes nothing.
use Rattle.std.specs.Prelude.{Ok, Err, Result, MatchResult}
use Rattle.std.specs.Result.{IsErrAnd}
use Rattle.std.proofs.lemmas.Result.{err_from_is_err_and}
use mathlib.Core.Path.{◌≡◌, refl, sym, ap, ap₂, ◌∙◌, subst}
use mathlib.Core.Bool.{Bool, true, false, cond, not, ◌&&◌, true≢false}
use mathlib.Core.List.{List, [], ◌∷◌, ◌++◌, flatten, append-nil}
use Prim.Native.Nat.{ℕ, ◌+◌, ◌-◌, ◌*◌, ◌≤◌, ◌<◌}
use native.Mathlib.Omega.{arith}
use lib.Dec.{leb, ltb, eqb}
use lib.ListN.{length, take, drop, get_or}
use lib.Seq.{sets}
use borrow.Author.Tests.{le-leb, lt-leb, eqb-true, eqb-false, ltb-true}
use Rattle.computed_tests.specs.Numbers.{one_to}
use Rattle.refusals.specs.Limits.{max_entries}
use Rattle.refusals.specs.Tests.{bare, test}
use Rattle.refusals.specs.declared.Refusal.{Refusal}
use Rattle.refusals.proofs.TestLaws.{test_passed}
use Rattle.lent_bytes.specs.Equal.{equal}
use Rattle.lent_bytes.proofs.StoreLaws.{sets_over}
use Rattle.lent_bytes.proofs.WritingLaws.{written_fits, written_short, unless_none, unless_refused, unless_accepted}
use Rattle.little_endian.proofs.Stores.{sets_append}
use Rattle.cut_lists.specs.All.{all_none}
use Rattle.entries.specs.Walk.{entries_of}
use Rattle.par1_read.specs.Reading.{entries_in, read_of}
use Rattle.par1_read.specs.declared.reading.Parts.{Parts}
use Rattle.par1_read.specs.Reading.{Reading}
use Rattle.par1_read.proofs.ReadingLaws.{refused_some}
use Rattle.par1_rules.specs.Layout.{volume_number_of, list_of}
use Rattle.par1_rules.proofs.RuleLaws.{number_range}
use Rattle.catalog.specs.Rows.{number_of, rows_for, volume_row, catalog_head, catalog_bytes}
use Rattle.catalog.specs.Catalog.{entry_count, volume_count, catalog_length, entry_rows, volume_rows, volume_rows_allowed, is_catalog, holds}
use Rattle.catalog.specs.Calls.{open_refusal, open_of, volume_in_range, add_number, add_refusal, added_bytes, add_of, drop_number, dropped_bytes, drop_of, loading_of}
use Rattle.catalog.specs.Plan.{counts_of, place_of, place_in, plan_by, plan_add, plan_drop, spread, closed}
use Rattle.catalog.specs.declared.checking.Counts.{Counts}
use Rattle.catalog.specs.declared.planning.Place.{Place}
use Rattle.catalog.proofs.CatalogLaws.{Catalog, is_catalog_lem}
use Rattle.catalog.proofs.ChangeLaws.{length_head, at_most, length_catalog, length_added, length_dropped, inserted-over, removed-over}
use Rattle.catalog.proofs.ListLaws.{length-rows-after, rows_sized_for}
use Rattle.catalog.proofs.PlaceLaws.{holds-place, first_row}
use Rattle.catalog.proofs.ReadLaws.{Told, told, length_volume_row, volume_row_number}
use Rattle.catalog.proofs.RowLaws.{flatten-rows, length-rows}

-- ---- plans

module _ (b : List ℕ) where
  pub plan_drop_other : (v : ℕ) → is_catalog b ≡ false → Err 30 ≡ plan_drop b v
  unfolding plan_drop drop_number
  plan_drop_other v z = simp z

  pub plan_add_other : (vol : List ℕ) → is_catalog b ≡ false → Err 30 ≡ plan_add b vol
  unfolding plan_add add_number
  plan_add_other vol z = simp z

  module _ (yes : is_catalog b ≡ true) {k : Counts} (counts : k ≡ counts_of b) where
    pub plan_drop_is : (v : ℕ) {p : Place} {r : Bool} {t n : ℕ} {x : Result Place ℕ} → p ≡ place_in b v → t ≡ test 11 p.present 0
        → r ≡ one_to (255 - k.saved) v → n ≡ test 10 r t → x ≡ plan_by n p → x ≡ plan_drop b v
    unfolding plan_drop drop_number
    plan_drop_is v {p} {r} {t} {n} place eleven range ten plan =
        let e₁₁ : t ≡ test 11 (holds v (volume_rows b)) 0 = eleven ∙ ap (λ (q : Place). test 11 q.present 0) place in
        let e₁₀ : r ≡ volume_in_range v b = range ∙ ap (λ (q : Counts). one_to (255 - q.saved) v) counts in
        let number : n ≡ drop_number b v = ten ∙ ap₂ (λ (a : Bool) (m : ℕ). test 10 a m) e₁₀ e₁₁ ∙ simp yes in
        plan ∙ ap₂ plan_by number place

    pub plan_add_is : (vol : List ℕ) {parts : Parts} {p : Place} {list rows : List ℕ} {r g : Bool} {t₁₁ t₂₆ t₂₅ n : ℕ} {x : Result Place ℕ}
        → Told vol parts → p ≡ place_in b parts.number → list ≡ take parts.list_size (drop 96 vol) → rows ≡ take (28 * k.entries) (drop 16 b)
        → t₁₁ ≡ test 11 (not p.present) 0 → t₂₆ ≡ test 26 (leb parts.entries 1024) t₁₁
        → g ≡ equal (flatten (rows_for (entries_of list).pieces)) rows → t₂₅ ≡ test 25 g t₂₆
        → r ≡ one_to (255 - k.saved) parts.number → n ≡ test 10 r t₂₅ → x ≡ plan_by n p → x ≡ plan_add b vol
    unfolding plan_add add_number
    plan_add_is vol {parts} {p} {list} {rows} {r} {g} {t₁₁} {t₂₆} {t₂₅} {n} told place list_is rows_are eleven twenty_six same twenty-five range ten plan =
        let at : p ≡ place_in b (volume_number_of vol) = place ∙ ap (place_in b) told.number_is in
        let e₁₁ : t₁₁ ≡ test 11 (not (holds (volume_number_of vol) (volume_rows b))) 0 = eleven ∙ ap (λ (q : Place). test 11 (not q.present) 0) at in
        let e₂₆ : t₂₆ ≡ test 26 (leb (length (entries_in vol)) max_entries) _ =
        twenty_six ∙ ap₂ (λ (a m : ℕ). test 26 (leb a 1024) m) told.entries_are e₁₁ in
        let e_rows : rows ≡ flatten (entry_rows b) = simp (rows_are, counts, flatten-rows) in
        let e_same : g ≡ equal (flatten (rows_for (entries_in vol))) (flatten (entry_rows b)) = cc in
        let e₂₅ = twenty-five ∙ ap₂ (λ (a : Bool) (m : ℕ). test 25 a m) e_same e₂₆ in
        let e₁₀ : r ≡ volume_in_range (volume_number_of vol) b = cc in
        let number : n ≡ add_number b vol = ten ∙ ap₂ (λ (a : Bool) (m : ℕ). test 10 a m) e₁₀ e₂₅ ∙ simp yes in
        plan ∙ ap₂ plan_by number at

-- what a plan tells
pub record Planning (b : List ℕ) (number v : ℕ) (p : Place) : Type 0 where
  pub none : number ≡ 0
  pub place_is : p ≡ place_in b v

plan_tells : (b : List ℕ) (number v : ℕ) {p : Place} → plan_by number (place_in b v) ≡ Ok p → Planning b number v p
plan_tells b number v {p} e = by (eqb number 0) refl e
  where
    by : (t : Bool) → t ≡ eqb number 0 → cond t (Ok (place_in b v)) (Err number) ≡ Ok p → Planning b number v p
    by true z f = record { none = eqb-true number 0 (sym z); place_is = cc }
    by false z f = absurd (let n : ◌≡◌ {A = ℕ} 0 1 = cc in omega arith)

plan_refuses : (b : List ℕ) (number v : ℕ) {n : ℕ} → plan_by number (place_in b v) ≡ Err n → (n ≡ number) × (number ≡ 0 → ⊥)
plan_refuses b number v {n} e = by (eqb number 0) refl e
  where
    by : (t : Bool) → t ≡ eqb number 0 → cond t (Ok (place_in b v)) (Err number) ≡ Err n → (n ≡ number) × (number ≡ 0 → ⊥)
    by true z f = absurd (let n : ◌≡◌ {A = ℕ} 0 1 = cc in omega arith)
    by false z f = (cc, eqb-false number 0 (sym z))

-- ---- the tests that a change passed

pub drop_passed : (b : List ℕ) (v : ℕ) → drop_number b v ≡ 0 → Catalog b × (holds v (volume_rows b) ≡ true)
unfolding drop_number
drop_passed b v e = let first = test_passed 30 (is_catalog b) _ (omega arith) e in
    let range = test_passed 10 (volume_in_range v b) _ (omega arith) first.1 in
    (is_catalog_lem b first.0, (test_passed 11 (holds v (volume_rows b)) 0 (omega arith) range.1).0)

pub add_catalog : (b vol : List ℕ) → add_number b vol ≡ 0 → Catalog b
unfolding add_number
add_catalog b vol e = is_catalog_lem b (test_passed 30 (is_catalog b) _ (omega arith) e).0

-- a row that is there lies before the end
pub held_within : (b : List ℕ) (c : Catalog b) (v : ℕ) → holds v (volume_rows b) ≡ true → place_of v (volume_rows b) < volume_count b
held_within b c v h = by (ltb (place_of v vs) (length vs)) refl (sym (holds-place _ _ 0 vs v c.volumes_right) ∙ h)
  where
    vs : List (List ℕ)
    vs = volume_rows b

    by : (t : Bool) → t ≡ ltb (place_of (v) vs) (length vs) → (t && eqb (number_of (get_or vs (place_of v vs) [])) v) ≡ true → place_of v vs < volume_count b
    by true z f = omega (arith, ltb-true (place_of v vs) (length vs) (sym z), length-rows (volume_count b) (drop (16 + 28 * entry_count b) b))
    by false z f = absurd (true≢false (sym f))

-- so few are the volumes
pub count_low : (n g u : ℕ) (rs : List (List ℕ)) → volume_rows_allowed n g u rs ≡ true → u ≤ 255 → u + length rs ≤ 255
count_low n g u [] e h = omega arith
count_low n g u (r ∷ rs) e h = let f = first_row n g u r rs e in
    let low = (number_range (number_of r) n f.number_right).0 in
    omega (arith, count_low n g (number_of r) rs f.others low, f.above)

pub volumes_few : (b : List ℕ) → Catalog b → volume_count b ≤ 255
volumes_few b c = omega (arith, count_low _ _ 0 (volume_rows b) c.volumes_right (omega arith), length-rows (volume_count b) (drop (16 + 28 * entry_count b) b))

-- ---- dropping

module _ (b : List ℕ) (v : ℕ) where
  pub record Dropping (p : Place) : Type 0 where
    pub number_none : drop_number b v ≡ 0
    pub catalog_is : Catalog b
    pub held : holds v (volume_rows b) ≡ true
    pub place_is : p ≡ place_in b v
    pub within : p.at + 28 ≤ p.to
    pub fits : p.to ≤ length b
    pub entries_few : p.entries ≤ 1024
    pub volumes_low : 1 ≤ p.volumes
    pub volumes_high : p.volumes ≤ 255

  pub dropping : {p : Place} → plan_drop b v ≡ Ok p → Dropping p
  unfolding plan_drop
  dropping {p} e = let t = plan_tells b (drop_number b v) v e in
      let d = drop_passed b v t.none in
      let c = d.0 in
      let less = held_within b c v d.1 in
      subst Dropping (sym t.place_is) record {
        number_none = t.none;
        catalog_is = c;
        held = d.1;
        place_is = refl;
        within = omega arith;
        fits = omega (arith, c.within);
        entries_few = omega (arith, c.few);
        volumes_low = omega arith;
        volumes_high = omega (arith, volumes_few b c);
      }

  pub drop-over : {p : Place} {t u : List ℕ} → plan_drop b v ≡ Ok p → t ≡ closed p.at p.to b
      → u ≡ sets t 0 (catalog_head p.entries (p.volumes - 1)) → (Ok (p.to - 28), u) ≡ drop_of b v
  unfolding drop_of
  drop-over {p} {t} {u} e down put = let d = dropping e in
      let c = d.catalog_is in
      let less = held_within b c v d.held in
      let down' : t ≡ closed (place_in b v).at (place_in b v).to b = down ∙ ap (λ (q : Place). closed q.at q.to b) d.place_is in
      let put' : u ≡ sets t 0 (catalog_head (entry_count b) (volume_count b - 1)) = simp (put, d.place_is) in
      let made = removed-over b c v d.held less down' put' in
      let over : length (dropped_bytes b v) ≤ length b = omega (arith, c.within, length_dropped b c v d.held less) in
      simp (d.place_is, made, unless_accepted (bare (drop_number b v)) (dropped_bytes b v) b d.number_none over)

  pub drop_refuses : {n : ℕ} {r : Refusal} → plan_drop b v ≡ Err n → r ≡ bare n → (Err r, b) ≡ drop_of b v
  unfolding plan_drop drop_of
  drop_refuses {n} {r} e is = let t = plan_refuses b (drop_number b v) v e in
      unless_refused (dropped_bytes b v) b (is ∙ ap bare t.0) (λ z. t.1 (sym (ap (λ (q : Refusal). q.number) (is ∙ ap bare t.0)) ∙ z)) refl

-- ---- a refusal's number made a refusal

module _ {A B C : Type 0} (P : B → C → Type 0) {s : Result A C} where
  pub mapped_ok : (r : Result A B) {x : A} → MatchResult r (λ y. s ≡ Ok y) (λ e. IsErrAnd s (P e)) → s ≡ Ok x → r ≡ Ok x
  mapped_ok (Ok y) {x} m e = let same : ◌≡◌ {A = Result A C} (Ok y) (Ok x) = sym m ∙ e in cc
  mapped_ok (Err d) {x} m e = let p = err_from_is_err_and s m in
      let other : ◌≡◌ {A = Result A C} (Err p.0) (Ok x) = sym p.1 ∙ e in cc

  pub mapped_err : (r : Result A B) {q : C} → MatchResult r (λ y. s ≡ Ok y) (λ e. IsErrAnd s (P e)) → s ≡ Err q → (d : B) × (r ≡ Err d) × P d q
  mapped_err (Ok y) {q} m e = let other : ◌≡◌ {A = Result A C} (Ok y) (Err q) = sym m ∙ e in cc
  mapped_err (Err d) {q} m e = let p = err_from_is_err_and s m in
      let other : ◌≡◌ {A = Result A C} (Err p.0) (Err q) = sym p.1 ∙ e in
      let same : p.0 ≡ q = cc in
      (d, refl, subst (P d) same p.2)

-- ---- adding

module _ (b vol : List ℕ) {parts : Parts} (read : read_of vol ≡ Ok parts) where
  pub record Adding (p : Place) : Type 0 where
    pub number_none : add_number b vol ≡ 0
    pub catalog_is : Catalog b
    pub place_is : p ≡ place_in b (volume_number_of vol)
    pub within : p.at ≤ p.to
    pub fits : p.to ≤ length b
    pub entries_few : p.entries ≤ 1024
    pub volumes_high : p.volumes ≤ 255
    pub to_is : p.to ≡ catalog_length b

  pub adding : {p : Place} → plan_add b vol ≡ Ok p → Adding p
  unfolding plan_add
  adding {p} e = let t = plan_tells b (add_number b vol) (volume_number_of vol) e in
      let c = add_catalog b vol t.none in
      let most = at_most b c (volume_number_of vol) in
      subst Adding (sym t.place_is) record {
        number_none = t.none;
        catalog_is = c;
        place_is = refl;
        within = omega arith;
        fits = omega (arith, c.within);
        entries_few = omega (arith, c.few);
        volumes_high = omega (arith, volumes_few b c);
        to_is = refl;
      }

  -- the bytes that are to be written
  pub added_length : Catalog b → length (added_bytes b vol) ≡ catalog_length b + 28
  added_length c = length_added b c (volume_row vol) (length_volume_row vol (told vol read))

  add_none : add_number b vol ≡ 0 → (add_refusal b vol (read_of vol)).number ≡ 0
  add_none z = ap (λ (r : Reading). (add_refusal b vol r).number) read ∙ z

  pub add_short : {p : Place} {r : Refusal} → plan_add b vol ≡ Ok p → r ≡ bare 14 → length b < p.to + 28 → (Err r, b) ≡ add_of b vol
  unfolding add_of
  add_short {p} {r} e is short = let d = adding e in
      unless_none (added_bytes b vol) b refl (add_none d.number_none)
      (ap (λ (q : Refusal). (Err q, b)) is
      ∙ written_short (added_bytes b vol) b (omega (arith, added_length d.catalog_is, d.to_is)))

  pub add_over : {p : Place} {r t u : List ℕ} → plan_add b vol ≡ Ok p → p.to + 28 ≤ length b → r ≡ volume_row vol
      → t ≡ spread p.at p.to r b → u ≡ sets t 0 (catalog_head p.entries (p.volumes + 1)) → (Ok (p.to + 28), u) ≡ add_of b vol
  unfolding add_of
  add_over {p} {r} {t} {u} e fits is up put = let d = adding e in
      let c = d.catalog_is in
      let i = told vol read in
      let n : number_of (volume_row vol) ≡ volume_number_of vol = volume_row_number vol i in
      let up' : t ≡ spread (16 + 28 * (entry_count b + place_of (number_of (volume_row vol)) (volume_rows b))) (catalog_length b) (volume_row vol) b =
      cc in
      let put' : u ≡ sets t 0 (catalog_head (entry_count b) (volume_count b + 1)) = cc in
      let made = inserted-over b c (volume_row vol) (length_volume_row vol i) (omega (arith, d.to_is)) up' put' in
      ap (λ (q : Place). (Ok (q.to + 28), u)) d.place_is ∙ made
      ∙ sym (unless_accepted (add_refusal b vol (read_of vol)) (added_bytes b vol) b (add_none d.number_none) (omega (arith, added_length c, d.to_is)))

  pub add_refuses : {n : ℕ} {r : Refusal} → plan_add b vol ≡ Err n → r ≡ bare n → (Err r, b) ≡ add_of b vol
  unfolding plan_add add_of
  add_refuses {n} {r} e is = let t = plan_refuses b (add_number b vol) (volume_number_of vol) e in
      let same : r ≡ add_refusal b vol (read_of vol) = is ∙ ap bare t.0 ∙ sym (ap (λ (q : Reading). add_refusal b vol q) read) in
      unless_refused (added_bytes b vol) b same (λ z. t.1 (sym (ap (λ (q : Refusal). q.number) (is ∙ ap bare t.0)) ∙ z)) refl

pub add_unread : (b vol : List ℕ) {r : Refusal} → read_of vol ≡ Err r → (Err r, b) ≡ add_of b vol
unfolding add_of
add_unread b vol {r} e = unless_refused (added_bytes b vol) b (sym (ap (λ (q : Reading). add_refusal b vol q) e)) (refused_some vol e) refl

-- ---- opening

module _ (f out : List ℕ) where
  abbrev opened : List ℕ
  opened = catalog_bytes (rows_for (entries_in f)) []

  pub length-opened : length opened ≡ 16 + 28 * length (entries_in f)
  length-opened = omega (arith, length_catalog (rows_sized_for (list_of f)) all_none, length-rows-after 0 (entries_in f))

  pub open_unread : {r : Refusal} → read_of f ≡ Err r → (Err r, out) ≡ open_of f out
  unfolding open_of
  open_unread {r} e = unless_refused opened out (sym (ap (λ (q : Reading). open_refusal f q) e)) (refused_some f e) refl

  module _ {parts : Parts} (read : read_of f ≡ Ok parts) where
    entries_are : parts.entries ≡ length (entries_in f)
    entries_are = (told f read).entries_are

    open_refusal_lem : open_refusal f (read_of f) ≡ bare (test 26 (leb (length (entries_in f)) max_entries) 0)
    open_refusal_lem = ap (λ (r : Reading). open_refusal f r) read

    few_none : parts.entries ≤ 1024 → (open_refusal f (read_of f)).number ≡ 0
    few_none h = ap (λ (r : Refusal). r.number) open_refusal_lem ∙ simp (le-leb (length (entries_in f)) max_entries (omega (arith, entries_are)))

    pub open_many : {r : Refusal} → 1024 < parts.entries → r ≡ bare 26 → (Err r, out) ≡ open_of f out
    unfolding open_of
    open_many {r} h is =
        let many : test 26 (leb (length (entries_in f)) max_entries) 0 ≡ 26 = simp (lt-leb (length (entries_in f)) max_entries (omega (arith, entries_are))) in
        let same : r ≡ open_refusal f (read_of f) = is ∙ sym (ap bare many) ∙ sym open_refusal_lem in
        unless_refused opened out same (λ z. omega (arith, sym (ap (λ (q : Refusal). q.number) is) ∙ z)) refl

    pub open_short : {r : Refusal} → parts.entries ≤ 1024 → length out < 16 + 28 * parts.entries → r ≡ bare 14 → (Err r, out) ≡ open_of f out
    unfolding open_of
    open_short {r} h short is =
        unless_none opened out refl (few_none h)
        (ap (λ (q : Refusal). (Err q, out)) is ∙ written_short opened out (omega (arith, length-opened, entries_are)))

    pub open_over : {list t u : List ℕ} → parts.entries ≤ 1024 → 16 + 28 * parts.entries ≤ length out → list ≡ take parts.list_size (drop 96 f)
        → t ≡ sets out 0 (catalog_head parts.entries 0) → u ≡ sets t 16 (flatten (rows_for (entries_of list).pieces))
        → (Ok (16 + 28 * parts.entries), u) ≡ open_of f out
    unfolding open_of catalog_bytes flatten
    open_over {list} {t} {u} h fits list_is head rows = let es : List (List ℕ) = rows_for (entries_in f) in
        let n : length es ≡ parts.entries = length-rows-after 0 (entries_in f) ∙ sym entries_are in
        let hd : List ℕ = catalog_head parts.entries 0 in
        let size : length hd ≡ 16 = length_head parts.entries 0 in
        let at : 0 + length hd ≡ 16 = omega arith in
        let over : u ≡ sets out 0 (hd ++ flatten es) = simp (rows, head, list_is, (told f read).list_is, sets_append, at) in
        let whole : opened ≡ hd ++ flatten es =
        ap₂ (λ (k : ℕ) (l : List ℕ). catalog_head k 0 ++ l) n (append-nil (flatten es)) in
        let sized : length opened ≡ 16 + 28 * parts.entries = omega (arith, length-opened, entries_are) in
        unless_none opened out refl (few_none h)
        (written_fits opened out (omega arith) (sym sized)
        (over ∙ ap (sets out 0) (sym whole) ∙ sets_over out opened (omega arith)))

-- ---- loading

module _ (b : List ℕ) (n : ℕ) where
  pub loading_other : {r : Refusal} → is_catalog b ≡ false → r ≡ bare 30 → Err r ≡ loading_of b n
  unfolding loading_of
  loading_other z is = simp z (ap Err is)

  module _ (yes : is_catalog b ≡ true) {k : Counts} (counts : k ≡ counts_of b) where
    count : k.entries ≡ entry_count b
    count = ap (λ (q : Counts). q.entries) counts

    pub loading_short : {r : Refusal} → n < k.entries → r ≡ bare 14 → Err r ≡ loading_of b n
    unfolding loading_of
    loading_short h is = simp (yes, lt-leb (entry_count b) n (omega (arith, count))) (ap Err is)

    pub loading_whole : k.entries ≤ n → Ok k.entries ≡ loading_of b n
    unfolding loading_of
    loading_whole h = simp (yes, le-leb (entry_count b) n (omega (arith, count))) (ap Ok count)
