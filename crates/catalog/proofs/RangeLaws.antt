-- Which refusals and lengths the calls on a catalog give.
--
--   Low n r        the refusal r has a number of at most 30, and the place of an entry of 58 bytes or more in n bytes
-- Assumes nothing.
use Rattle.std.specs.Prelude.{Ok, Err}
use mathlib.Core.Path.{◌≡◌, refl, sym, ap}
use mathlib.Core.Bool.{Bool, true, false, cond, not}
use mathlib.Core.List.{List, [], flatten}
use Prim.Native.Nat.{ℕ, ◌+◌, ◌/◌, ◌≤◌}
use native.Mathlib.Omega.{arith}
use lib.Dec.{leb}
use lib.ListN.{length}
use borrow.Author.Tests.{leb-true}
use Rattle.refusals.specs.Limits.{max_entries}
use Rattle.refusals.specs.Tests.{bare, test}
use Rattle.refusals.specs.declared.Refusal.{Refusal}
use Rattle.refusals.proofs.TestLaws.{test_passed}
use Rattle.lent_bytes.specs.Equal.{equal}
use Rattle.lent_bytes.specs.Writing.{Writing}
use Rattle.par1_read.specs.Reading.{entries_in, read_of}
use Rattle.par1_read.specs.Reading.{Reading}
use Rattle.par1_read.proofs.RangeLaws.{refusal_within}
use Rattle.par1_read.proofs.ReadingLaws.{refused_is, refused_some}
use Rattle.par1_rules.specs.Layout.{volume_number_of}
use Rattle.catalog.specs.Rows.{rows_for, volume_row, catalog_bytes}
use Rattle.catalog.specs.Catalog.{entry_count, entry_rows, volume_rows, is_catalog, holds}
use Rattle.catalog.specs.Calls.{open_refusal, volume_in_range, add_number, add_refusal, added_bytes, drop_number, dropped_bytes, loading_of}
use Rattle.catalog.proofs.CallLaws.{length-opened, add_catalog, drop_passed, held_within, volumes_few}
use Rattle.catalog.proofs.ChangeLaws.{length_added, length_dropped}
use Rattle.catalog.proofs.ReadLaws.{told, length_volume_row}

pub record Low (n : ℕ) (r : Refusal) : Type 0 where
  pub number_low : r.number ≤ 30
  pub place_low : r.place ≤ n / 58 + 1

bare_low : (n k : ℕ) → k ≤ 30 → Low n (bare k)
bare_low n k h = record { number_low = h; place_low = omega arith }

test_low : (n : ℕ) (ok : Bool) (m : ℕ) → n ≤ 30 → m ≤ 30 → test n ok m ≤ 30
test_low n true m h k = k
test_low n false m h k = h

read_low : (f : List ℕ) {r : Refusal} → read_of f ≡ Err r → Low (length f) r
read_low f {r} e = let w = refusal_within f in
    let same = refused_is f e in
    let number = ap (λ (r : Refusal). r.number) same in
    let place = ap (λ (r : Refusal). r.place) same in
    record { number_low = omega (arith, w.number_most); place_low = omega (arith, w.place_most) }

-- ---- opening

module _ (f : List ℕ) where
  pub open_low : (q : Reading) → read_of f ≡ q → Low (length f) (open_refusal f q)
  open_low (Err r) e = read_low f e
  open_low (Ok p) e = bare_low (length f) _ (test_low 26 (leb (length (entries_in f)) max_entries) 0 (omega arith) (omega arith))

  pub open_length : (q : Reading) → read_of f ≡ q → (open_refusal f q).number ≡ 0 → length (catalog_bytes (rows_for (entries_in f)) []) ≤ 65536
  open_length (Err r) e z = absurd (refused_some f e z)
  open_length (Ok p) e z =
      let few = leb-true (length (entries_in f)) max_entries (test_passed 26 _ 0 (omega arith) z).0 in omega (arith, length-opened f [])

-- ---- adding

module _ (b vol : List ℕ) where
  pub add_low : (q : Reading) → read_of vol ≡ q → Low (length vol) (add_refusal b vol q)
  unfolding add_number
  add_low (Err r) e = read_low vol e
  add_low (Ok p) e = bare_low (length vol) _
      (test_low 30 (is_catalog b) _ (omega arith) (test_low 10 (volume_in_range (volume_number_of vol) b) _ (omega arith)
      (test_low 25 (equal (flatten (rows_for (entries_in vol))) (flatten (entry_rows b))) _ (omega arith)
      (test_low 26 (leb (length (entries_in vol)) max_entries) _ (omega arith)
      (test_low 11 (not (holds (volume_number_of vol) (volume_rows b))) 0 (omega arith) (omega arith))))))

  pub add_length : (q : Reading) → read_of vol ≡ q → (add_refusal b vol q).number ≡ 0 → length (added_bytes b vol) ≤ 65536
  add_length (Err r) e z = absurd (refused_some vol e z)
  add_length (Ok p) e z = let c = add_catalog b vol z in
      omega (arith, length_added b c (volume_row vol) (length_volume_row vol (told vol e)), c.few, volumes_few b c)

-- ---- dropping

module _ (b : List ℕ) (v : ℕ) where
  pub drop_low : Low 0 (bare (drop_number b v))
  unfolding drop_number
  drop_low = bare_low 0 _ (test_low 30 (is_catalog b) _ (omega arith)
      (test_low 10 (volume_in_range v b) _ (omega arith) (test_low 11 (holds v (volume_rows b)) 0 (omega arith) (omega arith))))

  pub drop-length : drop_number b v ≡ 0 → length (dropped_bytes b v) ≤ 65536
  drop-length z = let d = drop_passed b v z in
      let c = d.0 in
      omega (arith, length_dropped b c v d.1 (held_within b c v d.1), c.few, volumes_few b c)

-- ---- loading

pub data Loads (b : List ℕ) (n : ℕ) : Writing → Type 0 where
  loads : is_catalog b ≡ true → entry_count b ≤ n → Loads b n (Ok (entry_count b))
  loads_not : {r : Refusal} → Low 0 r → Loads b n (Err r)

pub loading_is : (b : List ℕ) (n : ℕ) → Loads b n (loading_of b n)
unfolding loading_of
loading_is b n = by (is_catalog b) refl (leb (entry_count b) n) refl
  where
    by : (s : Bool) → s ≡ is_catalog b → (t : Bool) → t ≡ leb (entry_count b) n
        → Loads b n (cond s (cond t (Ok (entry_count b)) (Err (bare 14))) (Err (bare 30)))
    by true e true f = loads (sym e) (leb-true _ _ (sym f))
    by true e false f = loads_not (bare_low 0 14 (omega arith))
    by false e t f = loads_not (bare_low 0 30 (omega arith))
