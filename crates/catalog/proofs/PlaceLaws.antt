-- The place of a volume's row among ascending ones.
--
--   place-within, insert_at    the place is within the rows, and an inserted row stands there
--   FirstRow, first_row, row_first, no_rows     what the test of the volume rows tells of the first one
--   none_below                 a number that is not above the lowest has no row
--   holds-place, remove_at     a row that is there stands at its place
--   insert_allowed             an inserted row keeps the order
-- Assumes nothing.
use mathlib.Core.Path.{◌≡◌, refl, sym, ap, ◌∙◌}
use mathlib.Core.Bool.{Bool, true, false, cond, not, ◌&&◌, ◌||◌, true≢false}
use mathlib.Core.List.{List, [], ◌∷◌, ◌++◌}
use Prim.Native.Nat.{ℕ, suc, ◌+◌, ◌≤◌, ◌<◌}
use native.Mathlib.Omega.{arith}
use lib.Dec.{ltb, eqb, leb-suc-suc}
use lib.ListN.{length, take, drop, get_or, length-take}
use borrow.Author.Tests.{eqb-true, eqb-false, ltb-true, ltb-false, eq-eqb, ne_eqb, lt-ltb}
use Rattle.computed_tests.proofs.Tests.{and_both}
use Rattle.par1_rules.specs.Rules.{number_allowed}
use Rattle.std.specs.List.{take_while, prefix_len}
use Rattle.catalog.specs.Rows.{number_of, size_of}
use Rattle.catalog.specs.Catalog.{volume_rows_allowed, holds, insert_row, remove_row}
use Rattle.catalog.specs.Plan.{place_of}

pub place-within : (v : ℕ) (rs : List (List ℕ)) → place_of v rs ≤ length rs
unfolding place_of
place-within v [] = omega arith
place-within v (r ∷ rs) = by (ltb (number_of r) v) (place-within v rs)
  where
    by : (t : Bool) → place_of v rs ≤ length rs → cond t (suc (place_of v rs)) 0 ≤ suc (length rs)
    by true h = omega arith
    by false h = omega arith

-- the place is the number of lower rows in front
lower_rows : (v : ℕ) (rs : List (List ℕ)) → prefix_len (λ r. ltb (number_of r) v) rs ≡ place_of v rs
unfolding place_of
lower_rows v [] = refl
lower_rows v (r ∷ rs) = by (ltb (number_of r) v) (lower_rows v rs)
  where
    by : (t : Bool) → prefix_len (λ r. ltb (number_of r) v) rs ≡ place_of v rs
        → cond t (1 + prefix_len (λ r. ltb (number_of r) v) rs) 0 ≡ cond t (suc (place_of v rs)) 0
    by true e = omega arith
    by false e = refl

pub place_counted : (v : ℕ) (rs : List (List ℕ)) → length (take_while (λ r. ltb (number_of r) v) rs) ≡ place_of v rs
place_counted v rs = omega (arith, length-take (prefix_len (λ r. ltb (number_of r) v) rs) rs, lower_rows v rs, place-within v rs)

-- ---- inserted

pub insert_at : (r : List ℕ) (rs : List (List ℕ)) → insert_row r rs ≡ take (place_of (number_of r) rs) rs ++ (r ∷ drop (place_of (number_of r) rs) rs)
unfolding insert_row place_of
insert_at r [] = refl
insert_at r (x ∷ rs) = by (ltb (number_of x) (number_of r)) (insert_at r rs)
  where
    by : (t : Bool) → insert_row r rs ≡ take (place_of (number_of r) rs) rs ++ (r ∷ drop (place_of (number_of r) rs) rs)
        → let p : ℕ = cond t (suc (place_of (number_of r) rs)) 0 in
        cond t (x ∷ insert_row r rs) (r ∷ x ∷ rs) ≡ take p (x ∷ rs) ++ (r ∷ drop p (x ∷ rs))
    by true e = ap (λ (l : List (List ℕ)). x ∷ l) e
    by false e = refl

-- ---- ascending rows

-- the first row, and the others
pub record FirstRow (n g v : ℕ) (r : List ℕ) (rs : List (List ℕ)) : Type 0 where
  pub above : v < number_of r
  pub number_right : number_allowed (number_of r) n ≡ true
  pub size_is : size_of r ≡ g
  pub others : volume_rows_allowed n g (number_of r) rs ≡ true

module _ (n g : ℕ) where
  pub first_row : (v : ℕ) (r : List ℕ) (rs : List (List ℕ)) → volume_rows_allowed n g v (r ∷ rs) ≡ true → FirstRow n g v r rs
  unfolding volume_rows_allowed
  first_row v r rs e = let t₃ = and_both _ (volume_rows_allowed n g (number_of r) rs) e in
      let t₂ = and_both _ (eqb (size_of r) g) t₃.0 in
      let t₁ = and_both (ltb v (number_of r)) (number_allowed (number_of r) n) t₂.0 in
      record { above = ltb-true _ _ t₁.0; number_right = t₁.1; size_is = eqb-true _ _ t₂.1; others = t₃.1 }

  row_first : (v : ℕ) (r : List ℕ) (rs : List (List ℕ)) → FirstRow n g v r rs → volume_rows_allowed n g v (r ∷ rs) ≡ true
  unfolding volume_rows_allowed
  row_first v r rs f = simp (lt-ltb _ _ f.above, f.number_right, eq-eqb _ _ f.size_is, f.others)

  pub no_rows : (v : ℕ) → volume_rows_allowed n g v [] ≡ true
  unfolding volume_rows_allowed
  no_rows v = refl

  -- no row has a number that is not above
  pub none_below : (u : ℕ) (rs : List (List ℕ)) (v : ℕ) → volume_rows_allowed n g u rs ≡ true → v ≤ u → holds v rs ≡ false
  unfolding holds
  none_below u [] v e h = refl
  none_below u (r ∷ rs) v e h = let f = first_row u r rs e in
      let other : number_of r ≡ v → ⊥ = λ z. omega (arith, f.above) in
      simp (ne_eqb _ _ other) (none_below (number_of r) rs v f.others (omega (arith, f.above)))

  pub holds-place : (u : ℕ) (rs : List (List ℕ)) (v : ℕ) → volume_rows_allowed n g u rs ≡ true
      → holds v rs ≡ (ltb (place_of v rs) (length rs) && eqb (number_of (get_or rs (place_of v rs) [])) v)
  unfolding holds place_of
  holds-place u [] v e = refl
  holds-place u (r ∷ rs) v e = let f = first_row u r rs e in
      by (ltb (number_of r) v) refl (holds-place (number_of r) rs v f.others) (λ h. none_below (number_of r) rs v f.others h)
    where
      or-false : (a b : Bool) → b ≡ false → (a || b) ≡ a
      or-false true b z = refl
      or-false false b z = z

      by : (t : Bool) → t ≡ ltb (number_of r) v → holds v rs ≡ (ltb (place_of v rs) (length rs) && eqb (number_of (get_or rs (place_of v rs) [])) v)
          → (v ≤ number_of r → holds v rs ≡ false)
          → let p : ℕ = cond t (suc (place_of v rs)) 0 in
          (eqb (number_of r) v || holds v rs) ≡ (ltb p (suc (length rs)) && eqb (number_of (get_or (r ∷ rs) p [])) v)
      by true z h g = let less = ltb-true (number_of r) v (sym z) in
          let other : number_of r ≡ v → ⊥ = λ y. omega arith in
          simp (ne_eqb _ _ other)
          (h ∙ ap (λ (t : Bool). t && eqb (number_of (get_or rs (place_of v rs) [])) v) (sym (leb-suc-suc (suc (place_of v rs)) (length rs))))
      by false z h g =
          simp (or-false (eqb (number_of r) v) (holds v rs) (g (ltb-false (number_of r) v (sym z))), lt-ltb 0 (suc (length rs)) (omega arith))

  pub remove_at : (u : ℕ) (rs : List (List ℕ)) (v : ℕ) → volume_rows_allowed n g u rs ≡ true → holds v rs ≡ true
      → remove_row v rs ≡ take (place_of v rs) rs ++ drop (place_of v rs + 1) rs
  unfolding holds place_of
  remove_at u [] v e h = absurd (true≢false (sym h))
  remove_at u (r ∷ rs) v e h = let f = first_row u r rs e in
      by (ltb (number_of r) v) refl (eqb (number_of r) v) refl h (λ k. remove_at (number_of r) rs v f.others k)
      (λ k. none_below (number_of r) rs v f.others k)
    where
      -- where there is none, none is removed
      kept : (rs : List (List ℕ)) → holds v rs ≡ false → remove_row v rs ≡ rs
      kept [] z = refl
      kept (x ∷ rs) z = also (eqb (number_of x) v) z (kept rs)
        where
          also : (t : Bool) → (t || holds v rs) ≡ false → (holds v rs ≡ false → remove_row v rs ≡ rs)
              → cond (not t) (x ∷ remove_row v rs) (remove_row v rs) ≡ x ∷ rs
          also true y k = absurd (true≢false y)
          also false y k = ap (λ (l : List (List ℕ)). x ∷ l) (k y)

      by : (t : Bool) → t ≡ ltb (number_of r) v → (s : Bool) → s ≡ eqb (number_of r) v → (s || holds v rs) ≡ true
          → (holds v rs ≡ true → remove_row v rs ≡ take (place_of v rs) rs ++ drop (place_of v rs + 1) rs) → (v ≤ number_of r → holds v rs ≡ false)
          → let p : ℕ = cond t (suc (place_of v rs)) 0 in
          cond (not s) (r ∷ remove_row v rs) (remove_row v rs) ≡ take p (r ∷ rs) ++ drop (p + 1) (r ∷ rs)
      by true z true y k m g = let less = ltb-true (number_of r) v (sym z) in
          let same = eqb-true (number_of r) v (sym y) in
          absurd (omega arith)
      by true z false y k m g = let up : suc (place_of v rs) + 1 ≡ suc (place_of v rs + 1) = omega arith in
          ap (λ (l : List (List ℕ)). r ∷ l) (m k) ∙ ap (λ (q : ℕ). r ∷ (take (place_of v rs) rs ++ drop q (r ∷ rs))) (sym up)
      by false z true y k m g = kept rs (g (ltb-false (number_of r) v (sym z)))
      by false z false y k m g = absurd (true≢false (sym k ∙ g (ltb-false (number_of r) v (sym z))))

  -- one more row
  pub insert_allowed : (u : ℕ) (rs : List (List ℕ)) (r : List ℕ) → volume_rows_allowed n g u rs ≡ true → u < number_of r
      → number_allowed (number_of r) n ≡ true → size_of r ≡ g → holds (number_of r) rs ≡ false → volume_rows_allowed n g u (insert_row r rs) ≡ true
  unfolding insert_row holds
  insert_allowed u [] r e h k s z = row_first u r [] (record { above = h; number_right = k; size_is = s; others = no_rows (number_of r) })
  insert_allowed u (x ∷ rs) r e h k s z = let f = first_row u x rs e in
      by (ltb (number_of x) (number_of r)) refl (eqb (number_of x) (number_of r)) refl z f
      (λ l y. insert_allowed (number_of x) rs r f.others l k s y)
    where
      by : (t : Bool) → t ≡ ltb (number_of x) (number_of r) → (same : Bool) → same ≡ eqb (number_of x) (number_of r) → (same || holds (number_of r) rs) ≡ false
          → FirstRow n g u x rs → (number_of x < number_of r → holds (number_of r) rs ≡ false → volume_rows_allowed n g (number_of x) (insert_row r rs) ≡ true)
          → volume_rows_allowed n g u (cond t (x ∷ insert_row r rs) (r ∷ x ∷ rs)) ≡ true
      by t y true w z f m = absurd (true≢false z)
      by true y false w z f m =
          row_first u x (insert_row r rs)
          (record { above = f.above; number_right = f.number_right; size_is = f.size_is; others = m (ltb-true _ _ (sym y)) z })
      by false y false w z f m = let low = ltb-false (number_of x) (number_of r) (sym y) in
          let other = eqb-false (number_of x) (number_of r) (sym w) in
          row_first u r (x ∷ rs) (record {
            above = h;
            number_right = k;
            size_is = s;
            others = row_first (number_of r) x rs (record { above = omega (arith, other); number_right = f.number_right; size_is = f.size_is; others = f.others });
          })
