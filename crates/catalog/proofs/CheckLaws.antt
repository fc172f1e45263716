-- The tests of a catalog, row by row, as the code makes them.
--
--   entered_from k g rs    what the entry rows rs tell after those of k saved files of at most g bytes
-- Assumes nothing.
use Rattle.std.specs.Prelude.{Option, Some, None}
use Rattle.std.specs.Bool.{then_some}
use mathlib.Core.Path.{◌≡◌, refl, sym, ap, ap₂, ◌∙◌}
use mathlib.Core.Bool.{Bool, true, false, cond, not, ◌&&◌, true≢false}
use mathlib.Core.List.{List, [], ◌∷◌, map, foldr}
use Prim.Native.Nat.{ℕ, suc, ◌+◌, ◌<◌, max}
use native.Mathlib.Omega.{arith}
use lib.Dec.{ltb, leb, eqb}
use lib.ListN.{length, drop, get_or}
use lib.Seq.{drop-cons}
use native.Mathlib.Numerals.{add-one}
use borrow.Author.Tests.{ne_eqb, eq-eqb}
use Rattle.refusals.specs.Limits.{max_files}
use Rattle.entries.specs.Entry.{file_size_allowed}
use Rattle.par1_rules.specs.Rules.{number_allowed}
use Rattle.catalog.specs.Rows.{number_of, size_of}
use Rattle.catalog.specs.Catalog.{saved_rows, greatest_size, in_turn, entry_rows_allowed, volume_rows_allowed}
use Rattle.catalog.specs.Plan.{entered_of}
use Rattle.catalog.specs.declared.checking.Entered.{Entered}
use Rattle.catalog.proofs.CatalogLaws.{then_cond}

-- ---- entry rows

unfoldable pub entered_from : ℕ → ℕ → List (List ℕ) → Option Entered
entered_from k g rs = cond (entry_rows_allowed k rs) (Some (record { saved = k + length (saved_rows rs); greatest = max g (greatest_size rs) })) None

pub entered_start : (rs : List (List ℕ)) → entered_from 0 0 rs ≡ entered_of rs
unfolding entered_from entered_of
entered_start rs = let n : 0 + length (saved_rows rs) ≡ length (saved_rows rs) = omega arith in
    let g : max 0 (greatest_size rs) ≡ greatest_size rs = omega arith in
    ap₂ (λ (a b : ℕ). cond (entry_rows_allowed 0 rs) (Some (record { saved = a; greatest = b })) None) n g

module _ (k g : ℕ) where
  pub entered_end : {rs : List (List ℕ)} → rs ≡ [] → then_some (leb k max_files) (record { saved = k; greatest = g }) ≡ entered_from k g rs
  unfolding entered_from entry_rows_allowed
  entered_end e = let n : k + 0 ≡ k = omega arith in
      let m : max g 0 ≡ g = omega arith in
      then_cond _ _ ∙ sym (ap (entered_from k g) e ∙ ap₂ (λ (a b : ℕ). cond (leb k max_files) (Some (record { saved = a; greatest = b })) None) n m)

  -- a row more in front, which passes the tests, saved or not
  with_row : List ℕ → List (List ℕ) → Bool → Bool → Option Entered
  with_row r rs t b = let saved : List (List ℕ) = cond (not b) (r ∷ saved_rows rs) (saved_rows rs) in
      cond (t && entry_rows_allowed (cond (not b) (k + 1) k) rs)
      (Some (record { saved = k + length saved; greatest = max g (foldr max 0 (map (λ r. size_of r) saved)) })) None

  with_is : (b : Bool) (r : List ℕ) (rs : List (List ℕ)) → with_row r rs true b ≡ entered_from (cond b k (k + 1)) (cond b g (max g (size_of r))) rs
  unfolding with_row entered_from
  with_is true r rs = refl
  with_is false r rs = let s : List (List ℕ) = saved_rows rs in
      let n : k + suc (length s) ≡ k + 1 + length s = omega arith in
      let m : max g (max (size_of r) (greatest_size rs)) ≡ max (max g (size_of r)) (greatest_size rs) = omega arith in
      ap₂ (λ (a b : ℕ). cond (entry_rows_allowed (k + 1) rs) (Some (record { saved = a; greatest = b })) None) n m

  more_by : (b : Bool) (r : List ℕ) (rs : List (List ℕ)) → eqb (number_of r) 0 ≡ b → (in_turn k (number_of r) && file_size_allowed (size_of r)) ≡ true
      → entered_from k g (r ∷ rs) ≡ entered_from (cond b k (k + 1)) (cond b g (max g (size_of r))) rs
  unfolding entered_from entry_rows_allowed with_row
  more_by b r rs e h = ap₂ (with_row r rs) h e ∙ with_is b r rs

  stop_by : (a b : Bool) (r : List ℕ) (rs : List (List ℕ)) → in_turn k (number_of r) ≡ a → file_size_allowed (size_of r) ≡ b → (a && b) ≡ false
      → entered_from k g (r ∷ rs) ≡ None
  unfolding entered_from entry_rows_allowed
  stop_by true true r rs e f z = absurd (true≢false z)
  stop_by true false r rs e f z = simp (e, f)
  stop_by false b r rs e f z = simp e

  module _ (rs : List (List ℕ)) (i : ℕ) {number size : ℕ} (some : i < length rs)
      (number_is : number ≡ number_of (get_or rs i [])) (size_is : size ≡ size_of (get_or rs i [])) where
    pub entered_stop : (in_turn k number && file_size_allowed size) ≡ false → entered_from k g (drop i rs) ≡ None
    entered_stop z =
        ap (entered_from k g) (drop-cons rs i [] some)
        ∙ stop_by (in_turn k number) (file_size_allowed size) (get_or rs i []) _ (ap (in_turn k) (sym number_is))
        (ap (λ (n : ℕ). file_size_allowed n) (sym size_is)) z

    passed : {b : Bool} → (in_turn k number && file_size_allowed size) ≡ true → eqb number 0 ≡ b
        → entered_from (cond b k (k + 1)) (cond b g (max g size)) (drop (i + 1) rs) ≡ entered_from k g (drop i rs)
    passed {b} h z =
        let right = ap₂ (λ (a b : ℕ). in_turn k a && file_size_allowed b) (sym number_is) (sym size_is) ∙ h in
        sym (ap (entered_from k g) (drop-cons rs i [] some)
        ∙ more_by b (get_or rs i []) (drop (suc i) rs) (ap (λ (n : ℕ). eqb n 0) (sym number_is) ∙ z) right
        ∙ ap₂ (λ (m : ℕ) (j : ℕ). entered_from (cond b k (k + 1)) (cond b g (max g m)) (drop j rs)) (sym size_is) (sym (add-one i)))

    pub entered_more : {k' g' : ℕ} → (in_turn k number && file_size_allowed size) ≡ true → (number ≡ 0 → ⊥) → k' ≡ k + 1 → g' ≡ max g size
        → entered_from k' g' (drop (i + 1) rs) ≡ entered_from k g (drop i rs)
    entered_more h z e f = ap₂ (λ (a b : ℕ). entered_from a b (drop (i + 1) rs)) e f ∙ passed h (ne_eqb _ _ z)

    pub entered_same : {k' g' : ℕ} → (in_turn k number && file_size_allowed size) ≡ true → number ≡ 0 → k' ≡ k → g' ≡ g
        → entered_from k' g' (drop (i + 1) rs) ≡ entered_from k g (drop i rs)
    entered_same h z e f = ap₂ (λ (a b : ℕ). entered_from a b (drop (i + 1) rs)) e f ∙ passed h (eq-eqb _ _ z)

-- ---- volume rows

pub volumes_more : (n g v : ℕ) (rs : List (List ℕ)) (i : ℕ) {number size : ℕ} {b : Bool} → i < length rs → number ≡ number_of (get_or rs i [])
    → size ≡ size_of (get_or rs i []) → b ≡ (ltb v number && number_allowed number n && eqb size g)
    → volume_rows_allowed n g v (drop i rs) ≡ (b && volume_rows_allowed n g number (drop (i + 1) rs))
unfolding volume_rows_allowed
volumes_more n g v rs i {number} {size} {b} some number_is size_is test_is =
    simp (drop-cons rs i [] some, number_is, size_is, test_is, add-one)
