-- A catalog with a row more and with one less, as bytes.
--
--   take-rows, drop-rows     the first rows, and the others
--   length_head, length_catalog     the lengths of a catalog and of its head
--   all_insert               what holds of each row, and of one that is put among them
--   entries_sized, volumes_sized     each row of a catalog has 28 bytes
--   at_most                  a place is at most the number of volumes
--   rows-over                the rows before a place, others from it on, and a new head: the bytes of a catalog
--   length_inserted, length_added, inserted-over     a row more: their number, their bytes, and what moving and storing give
--   length_removed, length_dropped, removed-over     a row less, likewise
--   present_is               whether a row is there, as the code sees it
-- Assumes nothing.
use Rattle.std.specs.Prelude.{Ok}
use mathlib.Core.Path.{◌≡◌, refl, sym, ap, ap₂, ◌∙◌}
use mathlib.Core.Bool.{Bool, true, false, cond, not, ◌&&◌}
use mathlib.Core.List.{List, [], ◌∷◌, ◌++◌, flatten, append_assoc}
use Prim.Native.Nat.{ℕ, zero, suc, ◌+◌, ◌-◌, ◌*◌, ◌≤◌, ◌<◌}
use native.Mathlib.Omega.{arith}
use lib.Dec.{ltb, eqb}
use lib.ListN.{length, take, drop, get_or, length-append, length-take, length-drop}
use lib.Seq.{sets, length-take-le, drop_at, take-add, drop-drop, drop-append-le}
use Rattle.cut_lists.specs.All.{All, all_none, all_more}
use Rattle.entries.proofs.KeepLaws.{all_keep}
use Rattle.little_endian.specs.Bytes.{to_le}
use Rattle.lent_bytes.specs.Writing.{accepted}
use Rattle.lent_bytes.proofs.StoreLaws.{sets_over}
use Rattle.lent_bytes.proofs.PartsInRow.{flatten-append}
use Rattle.catalog.specs.Rows.{number_of, catalog_head, catalog_bytes}
use Rattle.catalog.specs.Catalog.{entry_count, volume_count, catalog_length, rows_in, entry_rows, volume_rows, holds, insert_row, remove_row}
use Rattle.catalog.specs.Plan.{place_of, spread, closed}
use Rattle.catalog.proofs.RowLaws.{Sized, length-rows, flatten-rows, rows_sized, length-flatten}
use Rattle.catalog.proofs.CatalogLaws.{Catalog}
use Rattle.catalog.proofs.PlaceLaws.{place-within, insert_at, remove_at, holds-place}

-- ---- parts of rows

take-rows : (k n : ℕ) (s : List ℕ) → k ≤ n → take k (rows_in n s) ≡ rows_in k s
unfolding rows_in
take-rows zero n s h = refl
take-rows (suc k) zero s h = absurd (omega arith)
take-rows (suc k) (suc n) s h = ap (λ (l : List (List ℕ)). take 28 s ∷ l) (take-rows k n (drop 28 s) (omega arith))

drop-rows : (k n : ℕ) (s : List ℕ) → drop k (rows_in n s) ≡ rows_in (n - k) (drop (28 * k) s)
unfolding rows_in
drop-rows zero n s = let e : n ≡ n - 0 = omega arith in ap (λ (m : ℕ). rows_in m s) e
drop-rows (suc k) zero s = let e : 0 ≡ 0 - suc k = omega arith in ap (λ (m : ℕ). rows_in m (drop (28 * suc k) s)) e
drop-rows (suc k) (suc n) s = let e : 28 + 28 * k ≡ 28 * suc k = omega arith in
    let m : n - k ≡ suc n - suc k = omega arith in
    drop-rows k n (drop 28 s) ∙ ap₂ (λ (a : ℕ) (q : List ℕ). rows_in a q) m (drop-drop (28 * k) 28 s ∙ ap (λ (a : ℕ). drop a s) e)

row_at : (k n : ℕ) (s : List ℕ) → k < n → get_or (rows_in n s) k [] ≡ take 28 (drop (28 * k) s)
unfolding rows_in
row_at k zero s h = absurd (omega arith)
row_at zero (suc n) s h = refl
row_at (suc k) (suc n) s h = let e : 28 + 28 * k ≡ 28 * suc k = omega arith in
    row_at k n (drop 28 s) (omega arith) ∙ ap (take 28) (drop-drop (28 * k) 28 s ∙ ap (λ (a : ℕ). drop a s) e)

drop-take : (i k : ℕ) (s : List ℕ) → i ≤ length s → drop i (take (i + k) s) ≡ take k (drop i s)
drop-take i k s h = ap (drop i) (take-add i k s) ∙ drop_at (take i s) (take k (drop i s)) i (length-take-le i s h)

pub length_head : (n v : ℕ) → length (catalog_head n v) ≡ 16
unfolding catalog_head flatten to_le
length_head n v = refl

pub length_catalog : {es vs : List (List ℕ)} → All Sized es → All Sized vs → length (catalog_bytes es vs) ≡ 16 + 28 * (length es + length vs)
unfolding catalog_bytes
length_catalog {es} {vs} p q = simp (length-append, length_head, length-flatten p, length-flatten q) (omega arith)

pub all_insert : {P : List ℕ → Type 0} (r : List ℕ) {rs : List (List ℕ)} → P r → All P rs → All P (insert_row r rs)
unfolding insert_row
all_insert r p all_none = all_more p all_none
all_insert {P} r p (all_more {x} {xs} q qs) = by (ltb (number_of x) (number_of r)) (all_insert r p qs)
  where
    by : (t : Bool) → All P (insert_row r xs) → All P (cond t (x ∷ insert_row r xs) (r ∷ x ∷ xs))
    by true s = all_more q s
    by false s = all_more p (all_more q qs)

-- ---- the rows of a catalog

pub entries_sized : (b : List ℕ) → Catalog b → All Sized (entry_rows b)
entries_sized b c = rows_sized (entry_count b) (drop 16 b) (omega (arith, c.within, length-drop 16 b))

pub volumes_sized : (b : List ℕ) → Catalog b → All Sized (volume_rows b)
volumes_sized b c = rows_sized (volume_count b) (drop (16 + 28 * entry_count b) b) (omega (arith, c.within, length-drop (16 + 28 * entry_count b) b))

module _ (b : List ℕ) (c : Catalog b) where
  abbrev n : ℕ
  n = entry_count b

  abbrev m : ℕ
  m = volume_count b

  -- the rows before a place
  front : (p : ℕ) → p ≤ m → drop 16 (take (16 + 28 * (n + p)) b) ≡ flatten (entry_rows b) ++ flatten (take p (volume_rows b))
  front p h = let e : 28 * (n + p) ≡ 28 * n + 28 * p = omega arith in
      let vs : List ℕ = drop (16 + 28 * n) b in
      drop-take 16 (28 * (n + p)) b (omega (arith, c.within)) ∙ ap (λ (k : ℕ). take k (drop 16 b)) e ∙ take-add (28 * n) (28 * p) (drop 16 b)
      ∙ ap₂ (λ (x y : List ℕ). x ++ y) (sym (flatten-rows n (drop 16 b)))
      (ap (take (28 * p)) (drop-drop (28 * n) 16 b) ∙ sym (flatten-rows p vs) ∙ ap flatten (sym (take-rows p m vs h)))

  -- the rows from a place on
  back : (p : ℕ) → p ≤ m → take (28 * (m - p)) (drop (16 + 28 * (n + p)) b) ≡ flatten (drop p (volume_rows b))
  back p h = let vs : List ℕ = drop (16 + 28 * n) b in
      let e : 16 + 28 * n + 28 * p ≡ 16 + 28 * (n + p) = omega arith in
      simp (drop-rows, flatten-rows, drop-drop, e)

  -- the head put over what stands there
  headed : (at v : ℕ) (rest : List ℕ) {t u : List ℕ} → 16 ≤ at → at ≤ length b → t ≡ take at b ++ rest → u ≡ sets t 0 (catalog_head n v)
      → u ≡ catalog_head n v ++ (drop 16 (take at b) ++ rest)
  headed at v rest {t} {u} low fits e put = let h : List ℕ = catalog_head n v in
      let size : length h ≡ 16 = length_head n v in
      let a : length (take at b) ≡ at = length-take-le at b fits in
      let after : drop (length h) t ≡ drop 16 (take at b) ++ rest = simp (size, e, drop-append-le 16 (take at b) rest (omega arith)) in
      put ∙ sets_over t h (omega (arith, ap length e, length-append (take at b) rest)) ∙ ap (λ (l : List ℕ). h ++ l) after

  abbrev Place : ℕ → ℕ
  Place v = place_of v (volume_rows b)

  pub at_most : (v : ℕ) → Place v ≤ m
  at_most v = omega (arith, place-within v (volume_rows b), length-rows m (drop (16 + 28 * n) b))

  length_entries : length (entry_rows b) ≡ n
  length_entries = length-rows n (drop 16 b)

  -- the rows before place p, others from it on, and what stands past the catalog, under a head for v volumes
  rows-over : (p v k : ℕ) (z : List ℕ) (vs : List (List ℕ)) {t u : List ℕ} → p ≤ m → t ≡ take (16 + 28 * (n + p)) b ++ (z ++ drop k b)
      → u ≡ sets t 0 (catalog_head n v) → length vs ≡ v → flatten vs ≡ flatten (take p (volume_rows b)) ++ z → length (catalog_bytes (entry_rows b) vs) ≡ k
      → (Ok k, u) ≡ accepted (catalog_bytes (entry_rows b) vs) b
  unfolding catalog_bytes
  rows-over p v k z vs {t} {u} h e put count rows size = let head : List ℕ = catalog_head n v in
      let es : List ℕ = flatten (entry_rows b) in
      let x : List ℕ = flatten (take p (volume_rows b)) in
      let whole_is : catalog_bytes (entry_rows b) vs ≡ head ++ (es ++ (x ++ z)) = simp (length_entries, count, rows) in
      let u_is : u ≡ head ++ ((es ++ x) ++ (z ++ drop k b)) =
      simp (headed (16 + 28 * (n + p)) v (z ++ drop k b) (omega arith) (omega (arith, c.within)) e put, front) in
      let joined : head ++ ((es ++ x) ++ (z ++ drop k b)) ≡ (head ++ (es ++ (x ++ z))) ++ drop k b = simp append_assoc in
      cc

  -- ---- added

  pub length_inserted : (r : List ℕ) → length (insert_row r (volume_rows b)) ≡ m + 1
  length_inserted r = let h = at_most (number_of r) in
      ap length (insert_at r (volume_rows b)) ∙ simp (length-append, length-take, length-drop, length-rows) (omega arith)

  pub length_added : (r : List ℕ) → length r ≡ 28 → length (catalog_bytes (entry_rows b) (insert_row r (volume_rows b))) ≡ catalog_length b + 28
  length_added r h =
      omega (arith, length_catalog (entries_sized b c) (all_insert {P = Sized} r h (volumes_sized b c)), length_entries, length_inserted r)

  pub inserted-over : (r : List ℕ) {t u : List ℕ} → length r ≡ 28 → catalog_length b + 28 ≤ length b
      → t ≡ spread (16 + 28 * (n + Place (number_of r))) (catalog_length b) r b → u ≡ sets t 0 (catalog_head n (m + 1))
      → (Ok (catalog_length b + 28), u) ≡ accepted (catalog_bytes (entry_rows b) (insert_row r (volume_rows b))) b
  unfolding flatten
  inserted-over r size fits up put = let vs : List (List ℕ) = volume_rows b in
      let p : ℕ = Place (number_of r) in
      let h : p ≤ m = at_most (number_of r) in
      let at : ℕ = 16 + 28 * (n + p) in
      let to : ℕ = catalog_length b in
      let x : List ℕ = flatten (take p vs) in
      let y : List ℕ = flatten (drop p vs) in
      let k : to - at ≡ 28 * (m - p) = omega arith in
      let moved : take (to - at) (drop at b) ≡ y = ap (λ (k : ℕ). take k (drop at b)) k ∙ back p h in
      let rows : flatten (insert_row r vs) ≡ x ++ (r ++ y) = ap flatten (insert_at r vs) ∙ flatten-append (take p vs) (r ∷ drop p vs) in
      let regrouped : take at b ++ (r ++ (take (to - at) (drop at b) ++ drop (to + 28) b)) ≡ take at b ++ ((r ++ y) ++ drop (to + 28) b) =
      rw moved (simp append_assoc) in
      rows-over p (m + 1) (to + 28) (r ++ y) (insert_row r vs) h (up ∙ regrouped) put (length_inserted r) rows (length_added r size)

  -- ---- dropped

  pub length_removed : (v : ℕ) → holds v (volume_rows b) ≡ true → Place v < m → length (remove_row v (volume_rows b)) + 1 ≡ m
  length_removed v held h = let e = ap length (remove_at _ _ 0 (volume_rows b) v c.volumes_right held) in
      omega (arith, simp (length-append, length-take, length-drop, length-rows) at e)

  pub length_dropped : (v : ℕ) → holds v (volume_rows b) ≡ true → Place v < m
      → length (catalog_bytes (entry_rows b) (remove_row v (volume_rows b))) + 28 ≡ catalog_length b
  length_dropped v held h = let rows = all_keep (λ r. not (eqb (number_of r) v)) (volumes_sized b c) in
      omega (arith, length_catalog (entries_sized b c) rows, length_entries, length_removed v held h)

  pub removed-over : (v : ℕ) {t u : List ℕ} → holds v (volume_rows b) ≡ true → Place v < m
      → t ≡ closed (16 + 28 * (n + Place v)) (catalog_length b) b → u ≡ sets t 0 (catalog_head n (m - 1))
      → (Ok (catalog_length b - 28), u) ≡ accepted (catalog_bytes (entry_rows b) (remove_row v (volume_rows b))) b
  removed-over v held less down put = let vs : List (List ℕ) = volume_rows b in
      let p : ℕ = Place v in
      let at : ℕ = 16 + 28 * (n + p) in
      let to : ℕ = catalog_length b in
      let k : to - (at + 28) ≡ 28 * (m - (p + 1)) = omega arith in
      let a' : at + 28 ≡ 16 + 28 * (n + (p + 1)) = omega arith in
      let moved : take (to - (at + 28)) (drop (at + 28) b) ≡ flatten (drop (p + 1) vs) = cc (back (p + 1) (omega arith)) in
      let regrouped = ap (λ (l : List ℕ). take at b ++ (l ++ drop (to - 28) b)) moved in
      rows-over p (m - 1) (to - 28) (flatten (drop (p + 1) vs)) (remove_row v vs) (omega arith) (down ∙ regrouped) put
      (omega (arith, length_removed v held less))
      (ap flatten (remove_at _ _ 0 vs v c.volumes_right held) ∙ flatten-append (take p vs) (drop (p + 1) vs)) (omega (arith, length_dropped v held less))

  -- ---- whether a row is there, as the code sees it

  pub present_is : (v : ℕ) → (ltb (Place v) (length (volume_rows b)) && eqb (number_of (get_or (volume_rows b) (Place v) [])) v) ≡ holds v (volume_rows b)
  present_is v = sym (holds-place _ _ 0 (volume_rows b) v c.volumes_right)
