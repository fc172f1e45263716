-- What the test of a catalog tells.
--
--   Catalog b      b begins with a catalog
-- Assumes nothing.
use Rattle.std.specs.Prelude.{Option, Some, None, Result, Ok, Err}
use Rattle.std.specs.Bool.{then_some}
use Rattle.std.specs.Option.{ok_or}
use Rattle.catalog.specs.declared.checking.Counts.{Counts}
use mathlib.Core.Path.{◌≡◌, refl, sym, ap, ap₂, ◌∙◌}
use mathlib.Core.Bool.{Bool, true, false, cond, ◌&&◌}
use mathlib.Core.List.{List}
use Prim.Native.Nat.{ℕ, ◌+◌, ◌*◌, ◌≤◌}
use native.Mathlib.Omega.{arith}
use lib.Dec.{leb, eqb}
use lib.ListN.{length, drop}
use borrow.Author.Tests.{leb-true, eqb-true, le-leb, eq-eqb}
use Rattle.computed_tests.proofs.Tests.{test_fails, and_both}
use Rattle.refusals.specs.Limits.{max_entries}
use Rattle.catalog.specs.Catalog.{entry_count, volume_count, entry_start, volume_start, catalog_length, rows_in, entry_rows, volume_rows, saved_rows, greatest_size}
use Rattle.catalog.specs.Catalog.{entry_rows_allowed, volume_rows_allowed, is_catalog}
use Rattle.catalog.specs.Plan.{counts_of, found_of, entered_of}
use Rattle.catalog.specs.declared.checking.Entered.{Entered}

pub record Catalog (b : List ℕ) : Type 0 where
  pub within : catalog_length b ≤ length b
  pub few : entry_count b ≤ max_entries
  pub starts : entry_start b ≡ 16
  pub volumes_start : volume_start b ≡ 16 + 28 * entry_count b
  pub entries_right : entry_rows_allowed 0 (entry_rows b) ≡ true
  pub volumes_right : volume_rows_allowed (length (saved_rows (entry_rows b))) (greatest_size (entry_rows b)) 0 (volume_rows b) ≡ true

module _ (b : List ℕ) where
  pub is_catalog_lem : is_catalog b ≡ true → Catalog b
  unfolding is_catalog
  is_catalog_lem e =
      let t₆ = and_both _ (volume_rows_allowed (length (saved_rows (entry_rows b))) (greatest_size (entry_rows b)) 0 (volume_rows b)) e in
      let t₅ = and_both _ (entry_rows_allowed 0 (entry_rows b)) t₆.0 in
      let t₄ = and_both _ (eqb (volume_start b) (16 + 28 * entry_count b)) t₅.0 in
      let t₃ = and_both _ (eqb (entry_start b) 16) t₄.0 in
      let t₂ = and_both (leb (catalog_length b) (length b)) (leb (entry_count b) max_entries) t₃.0 in
      record {
        within = leb-true _ _ t₂.0;
        few = leb-true _ _ t₂.1;
        starts = eqb-true _ _ t₃.1;
        volumes_start = eqb-true _ _ t₄.1;
        entries_right = t₅.1;
        volumes_right = t₆.1;
      }

  pub catalog_is : Catalog b → is_catalog b ≡ true
  unfolding is_catalog
  catalog_is c =
      simp (le-leb _ _ c.within, le-leb _ _ c.few, eq-eqb _ _ c.starts, eq-eqb _ _ c.volumes_start, c.entries_right, c.volumes_right)

  no_catalog : (Catalog b → ⊥) → is_catalog b ≡ false
  no_catalog h = test_fails (is_catalog b) (λ e. h (is_catalog_lem e))

  -- ---- what is found

  pub found_other : (Catalog b → ⊥) → None ≡ found_of b
  unfolding found_of
  found_other h = simp (no_catalog h)

  -- of what is found, or else the refusal e
  module _ {E : Type 0} (e : E) {o : Option Counts} {r : Result Counts E} (is : o ≡ found_of b) (or : r ≡ ok_or o e) where
    here : r ≡ cond (is_catalog b) (Ok (counts_of b)) (Err e)
    unfolding found_of
    here = or ∙ ap (λ (q : Option Counts). ok_or q e) is ∙ by (is_catalog b)
      where
        by : (t : Bool) → ok_or (cond t (Some (counts_of b)) None) e ≡ cond t (Ok (counts_of b)) (Err e)
        by true = refl
        by false = refl

    pub find_tells : {k : Counts} → r ≡ Ok k → (is_catalog b ≡ true) × (k ≡ counts_of b)
    find_tells {k} f = by (is_catalog b) refl (sym here ∙ f)
      where
        by : (t : Bool) → t ≡ is_catalog b → cond t (Ok (counts_of b)) (Err e) ≡ Ok k → (is_catalog b ≡ true) × (k ≡ counts_of b)
        by true z f = (sym z, cc)
        by false z f = absurd (let n : ◌≡◌ {A = ℕ} 0 1 = cc in omega arith)

    pub find_other : {d : E} → r ≡ Err d → (is_catalog b ≡ false) × (d ≡ e)
    find_other {d} f = by (is_catalog b) refl (sym here ∙ f)
      where
        by : (t : Bool) → t ≡ is_catalog b → cond t (Ok (counts_of b)) (Err e) ≡ Err d → (is_catalog b ≡ false) × (d ≡ e)
        by false z f = (sym z, cc)
        by true z f = absurd (let n : ◌≡◌ {A = ℕ} 0 1 = cc in omega arith)

-- ---- what the entry rows tell

abbrev entered_by : List (List ℕ) → Entered
entered_by rs = record { saved = length (saved_rows rs); greatest = greatest_size rs }

pub then_cond : {A : Type 0} (t : Bool) (x : A) → then_some t x ≡ cond t (Some x) None
then_cond true x = refl
then_cond false x = refl

module _ (rs : List (List ℕ)) {e : Entered} where
  pub entered_rows : entered_of rs ≡ Some e → (entry_rows_allowed 0 rs ≡ true) × (e ≡ entered_by rs)
  unfolding entered_of
  entered_rows h = by (entry_rows_allowed 0 rs) refl h
    where
      by : (t : Bool) → t ≡ entry_rows_allowed 0 rs → cond t (Some (entered_by rs)) None ≡ Some e → (entry_rows_allowed 0 rs ≡ true) × (e ≡ entered_by rs)
      by true z f = (sym z, cc)
      by false z f = absurd (let n : ◌≡◌ {A = ℕ} 0 1 = cc in omega arith)

pub entered_other : (rs : List (List ℕ)) → entered_of rs ≡ None → entry_rows_allowed 0 rs ≡ true → ⊥
unfolding entered_of
entered_other rs e z = let f = simp z at e in let n : ◌≡◌ {A = ℕ} 0 1 = cc in omega arith

-- ---- what the code finds: n and v are the numbers of rows that the bytes b tell

abbrev headed : ℕ → ℕ → List ℕ → Bool
headed n v b = leb (16 + 28 * (n + v)) (length b) && leb n max_entries && eqb (entry_start b) 16 && eqb (volume_start b) (16 + 28 * n)

module _ (b : List ℕ) {n v : ℕ} (n_is : n ≡ entry_count b) (v_is : v ≡ volume_count b) where
  headed_is : headed n v b ≡ headed (entry_count b) (volume_count b) b
  headed_is = ap₂ (λ (i j : ℕ). headed i j b) n_is v_is

  pub found_unheaded : false ≡ headed n v b → None ≡ found_of b
  unfolding found_of is_catalog
  found_unheaded h = simp (sym (h ∙ headed_is))

  pub found_unread : entered_of (rows_in n (drop 16 b)) ≡ None → None ≡ found_of b
  found_unread e = found_other b (λ k. entered_other (entry_rows b) (ap (λ (i : ℕ). entered_of (rows_in i (drop 16 b))) (sym n_is) ∙ e) k.entries_right)

  pub found_read : {e : Entered} → true ≡ headed n v b → entered_of (rows_in n (drop 16 b)) ≡ Some e
      → then_some (volume_rows_allowed e.saved e.greatest 0 (rows_in v (drop (16 + 28 * n) b))) (record { entries = n; volumes = v; saved = e.saved }) ≡ found_of b
  unfolding found_of is_catalog
  found_read {e} h r = let told = entered_rows (entry_rows b) (ap (λ (i : ℕ). entered_of (rows_in i (drop 16 b))) (sym n_is) ∙ r) in
      let same : then_some (volume_rows_allowed e.saved e.greatest 0 (rows_in v (drop (16 + 28 * n) b))) (record { entries = n; volumes = v; saved = e.saved })
      ≡ then_some (volume_rows_allowed (length (saved_rows (entry_rows b))) (greatest_size (entry_rows b)) 0 (volume_rows b)) (counts_of b) =
      λ j. then_some (volume_rows_allowed (told.1 j).saved (told.1 j).greatest 0 (rows_in (v_is j) (drop (16 + 28 * n_is j) b)))
      (record { entries = n_is j; volumes = v_is j; saved = (told.1 j).saved }) in
      same ∙ then_cond _ (counts_of b) ∙ simp (sym (h ∙ headed_is), told.0)
