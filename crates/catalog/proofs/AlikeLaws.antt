-- Rows that are the same but for the hashes.
--
--   Alike rs ss      the rows rs and ss are
--   alike_entries, alike_saved, alike_greatest, alike_volumes     the tests of a catalog look at no hash
--   rows_alike, alike_rows      so they are in bytes, row by row
--   same_catalog     bytes that are those of a catalog but for the hashes are a catalog
-- Assumes nothing.
use mathlib.Core.Path.{◌≡◌, refl, sym, ap, ap₂, ◌∙◌, subst}
use mathlib.Core.Bool.{Bool, true, false, cond, not, true≢false}
use mathlib.Core.List.{List, [], ◌∷◌, map, foldr}
use Prim.Native.Nat.{ℕ, zero, suc, ◌+◌, ◌-◌, ◌*◌, ◌≤◌, ◌<◌, max}
use native.Mathlib.Decide.{dec_lt}
use native.Mathlib.Omega.{arith}
use lib.Dec.{eqb}
use lib.ListN.{length, take, drop}
use lib.Seq.{take-take, drop-drop}
use Rattle.cut_lists.specs.All.{All, all_none, all_more}
use Rattle.little_endian.specs.Bytes.{le_at}
use Rattle.lent_bytes.proofs.PartLaws.{number_take}
use Rattle.catalog.specs.Rows.{number_of, size_of}
use Rattle.catalog.specs.Catalog.{entry_count, volume_count, catalog_length, rows_in, entry_rows, volume_rows}
use Rattle.catalog.specs.Catalog.{is_saved_row, saved_rows, greatest_size, entry_rows_allowed, volume_rows_allowed}
use Rattle.catalog.specs.Claim.{SameButHashes}
use Rattle.catalog.specs.Runs.{Ascend, ascend_none, ascend_more}
use Rattle.catalog.proofs.CatalogLaws.{Catalog}

pub data Alike : List (List ℕ) → List (List ℕ) → Type 0 where
  alike_none : Alike [] []
  alike_more : {r s : List ℕ} {rs ss : List (List ℕ)} → take 12 r ≡ take 12 s → Alike rs ss → Alike (r ∷ rs) (s ∷ ss)

number_alike : (r s : List ℕ) → take 12 r ≡ take 12 s → number_of r ≡ number_of s
number_alike r s e = sym (number_take 4 0 12 r (omega arith)) ∙ ap (λ (l : List ℕ). le_at 4 l 0) e ∙ number_take 4 0 12 s (omega arith)

size_alike : (r s : List ℕ) → take 12 r ≡ take 12 s → size_of r ≡ size_of s
size_alike r s e = sym (number_take 8 4 12 r (omega arith)) ∙ ap (λ (l : List ℕ). le_at 8 l 4) e ∙ number_take 8 4 12 s (omega arith)

-- ---- the tests

alike_entries : {rs ss : List (List ℕ)} → Alike rs ss → (k : ℕ) → entry_rows_allowed k rs ≡ entry_rows_allowed k ss
unfolding entry_rows_allowed
alike_entries alike_none k = refl
alike_entries (alike_more {r} {s} {rs} {ss} e a) k = simp (number_alike r s e, size_alike r s e, alike_entries a (cond (is_saved_row s) (k + 1) k))

pub alike_length : {rs ss : List (List ℕ)} → Alike rs ss → length rs ≡ length ss
alike_length alike_none = refl
alike_length (alike_more e a) = ap suc (alike_length a)

saved_alike : {rs ss : List (List ℕ)} → Alike rs ss → Alike (saved_rows rs) (saved_rows ss)
saved_alike alike_none = alike_none
saved_alike (alike_more {r} {s} {rs} {ss} e a) =
    by (is_saved_row r) (is_saved_row s) (ap (λ (n : ℕ). not (eqb n 0)) (number_alike r s e)) (saved_alike a)
  where
    by : (p q : Bool) → p ≡ q → Alike (saved_rows rs) (saved_rows ss) → Alike (cond p (r ∷ saved_rows rs) (saved_rows rs)) (cond q (s ∷ saved_rows ss) (saved_rows ss))
    by true true z m = alike_more e m
    by false false z m = m
    by true false z m = absurd (true≢false z)
    by false true z m = absurd (true≢false (sym z))

alike_saved : {rs ss : List (List ℕ)} → Alike rs ss → length (saved_rows rs) ≡ length (saved_rows ss)
alike_saved a = alike_length (saved_alike a)

sizes_alike : {rs ss : List (List ℕ)} → Alike rs ss → foldr max 0 (map (λ r. size_of r) rs) ≡ foldr max 0 (map (λ r. size_of r) ss)
sizes_alike alike_none = refl
sizes_alike (alike_more {r} {s} e a) = ap₂ max (size_alike r s e) (sizes_alike a)

alike_greatest : {rs ss : List (List ℕ)} → Alike rs ss → greatest_size rs ≡ greatest_size ss
alike_greatest a = sizes_alike (saved_alike a)

alike_volumes : {rs ss : List (List ℕ)} → Alike rs ss → (n g v : ℕ) → volume_rows_allowed n g v rs ≡ volume_rows_allowed n g v ss
unfolding volume_rows_allowed
alike_volumes alike_none n g v = refl
alike_volumes (alike_more {r} {s} {rs} {ss} e a) n g v = simp (number_alike r s e, size_alike r s e, alike_volumes a n g (number_of s))

above_alike : (x y : ℕ) {rs ss : List (List ℕ)} → x ≡ y → Alike rs ss → All (λ s. y < number_of s) ss → All (λ r. x < number_of r) rs
above_alike x y e alike_none all_none = all_none
above_alike x y e (alike_more {r} {s} same a) (all_more h hs) = let less : x < number_of r = omega (arith, number_alike r s same) in all_more less (above_alike x y e a hs)

pub alike_ascend : {rs ss : List (List ℕ)} → Alike rs ss → Ascend ss → Ascend rs
alike_ascend alike_none ascend_none = ascend_none
alike_ascend (alike_more {r} {s} e a) (ascend_more h d) = ascend_more (above_alike (number_of r) (number_of s) (number_alike r s e) a h) (alike_ascend a d)

-- ---- rows in bytes

next_row : (s : List ℕ) (i : ℕ) → drop (28 * i) (drop 28 s) ≡ drop (28 * suc i) s
next_row s i = let e : 28 + 28 * i ≡ 28 * suc i = omega arith in drop-drop (28 * i) 28 s ∙ ap (λ (k : ℕ). drop k s) e

pub rows_alike : (n : ℕ) (s t : List ℕ) → ((i : ℕ) → i < n → take 12 (drop (28 * i) s) ≡ take 12 (drop (28 * i) t)) → Alike (rows_in n s) (rows_in n t)
unfolding rows_in
rows_alike zero s t h = alike_none
rows_alike (suc n) s t h =
    alike_more (take-take 12 28 s (omega arith) ∙ h 0 (omega arith) ∙ sym (take-take 12 28 t (omega arith)))
    (rows_alike n (drop 28 s) (drop 28 t) (λ i k. ap (take 12) (next_row s i) ∙ h (suc i) (omega arith) ∙ sym (ap (take 12) (next_row t i))))

alike_rows : (n : ℕ) (s t : List ℕ) → Alike (rows_in n s) (rows_in n t) → (i : ℕ) → i < n → take 12 (drop (28 * i) s) ≡ take 12 (drop (28 * i) t)
unfolding rows_in
alike_rows zero s t a i h = absurd (omega arith)
alike_rows (suc n) s t (alike_more e a) zero h = sym (take-take 12 28 s (omega arith)) ∙ e ∙ take-take 12 28 t (omega arith)
alike_rows (suc n) s t (alike_more e a) (suc i) h = cc (next_row s i, alike_rows n (drop 28 s) (drop 28 t) a i (omega arith), next_row t i)

-- ---- a catalog

row-place : (at : ℕ) (s : List ℕ) (k i : ℕ) → at ≡ 16 + 28 * k → take 12 (drop (28 * i) (drop at s)) ≡ take 12 (drop (16 + 28 * (k + i)) s)
row-place at s k i e =
    let sum : at + 28 * i ≡ 16 + 28 * (k + i) = omega arith in ap (take 12) (drop-drop (28 * i) at s ∙ ap (λ (j : ℕ). drop j s) sum)

module _ (c b : List ℕ) where
  -- rows from a place on, of bytes that are the same but for the hashes
  part_alike : (n : ℕ) → SameButHashes n c b → (k m : ℕ) → k + m ≤ n → Alike (rows_in m (drop (16 + 28 * k) c)) (rows_in m (drop (16 + 28 * k) b))
  part_alike n same k m h =
      rows_alike m (drop (16 + 28 * k) c) (drop (16 + 28 * k) b)
      (λ i l. row-place (16 + 28 * k) c k i refl ∙ same.rows_same (k + i) (omega arith) ∙ sym (row-place (16 + 28 * k) b k i refl))

  head_number : take 16 c ≡ take 16 b → (i : ℕ) → i + 4 ≤ 16 → le_at 4 c i ≡ le_at 4 b i
  head_number e i h = sym (number_take 4 i 16 c h) ∙ ap (λ (l : List ℕ). le_at 4 l i) e ∙ number_take 4 i 16 b h

  pub same_catalog : Catalog c → SameButHashes (entry_count c + volume_count c) c b → catalog_length c ≤ length b → Catalog b
  same_catalog k same long = let number = head_number same.head_same in
      let count : entry_count c ≡ entry_count b = number 0 (omega arith) in
      let volumes : volume_count c ≡ volume_count b = number 4 (omega arith) in
      let es : Alike (entry_rows c) (entry_rows b) =
      subst (λ (n : ℕ). Alike (entry_rows c) (rows_in n (drop 16 b))) count (part_alike (entry_count c + volume_count c) same 0 (entry_count c) (omega arith)) in
      let vs : Alike (volume_rows c) (volume_rows b) =
      subst (λ (n : ℕ). Alike (volume_rows c) (rows_in n (drop (16 + 28 * entry_count b) b))) volumes
      (subst (λ (n : ℕ). Alike (volume_rows c) (rows_in (volume_count c) (drop (16 + 28 * n) b))) count
      (part_alike (entry_count c + volume_count c) same (entry_count c) (volume_count c) (omega arith))) in
      record {
        within = omega arith;
        few = omega (arith, k.few);
        starts = sym (number 8 (omega arith)) ∙ k.starts;
        volumes_start = sym (number 12 (omega arith)) ∙ k.volumes_start ∙ ap (λ (n : ℕ). 16 + 28 * n) count;
        entries_right = sym (alike_entries es 0) ∙ k.entries_right;
        volumes_right =
            sym (alike_volumes vs (length (saved_rows (entry_rows b))) (greatest_size (entry_rows b)) 0)
            ∙ sym (ap₂ (λ (n g : ℕ). volume_rows_allowed n g 0 (volume_rows c)) (alike_saved es) (alike_greatest es)) ∙ k.volumes_right;
      }

  pub same_bytes : entry_count c ≡ entry_count b → volume_count c ≡ volume_count b → Alike (entry_rows c) (entry_rows b) → Alike (volume_rows c) (volume_rows b)
      → take 16 c ≡ take 16 b → SameButHashes (entry_count b + volume_count b) c b
  same_bytes count volumes es vs head =
      let es' : Alike (rows_in (entry_count b) (drop 16 c)) (entry_rows b) = subst (λ (n : ℕ). Alike (rows_in n (drop 16 c)) (entry_rows b)) count es in
      let vs' : Alike (rows_in (volume_count b) (drop (16 + 28 * entry_count b) c)) (volume_rows b) =
      subst (λ (n : ℕ). Alike (rows_in n (drop (16 + 28 * entry_count b) c)) (volume_rows b)) volumes
      (subst (λ (n : ℕ). Alike (rows_in (volume_count c) (drop (16 + 28 * n) c)) (volume_rows b)) count vs) in
      record { head_same = head; rows_same = λ i h. by es' vs' i h (dec_lt i (entry_count b)) }
    where
      by : Alike (rows_in (entry_count b) (drop 16 c)) (entry_rows b) → Alike (rows_in (volume_count b) (drop (16 + 28 * entry_count b) c)) (volume_rows b)
          → (i : ℕ) → i < entry_count b + volume_count b → Dec (i < entry_count b) → take 12 (drop (16 + 28 * i) c) ≡ take 12 (drop (16 + 28 * i) b)
      by x y i h (yes l) = cc (drop-drop (28 * i) 16 c, alike_rows (entry_count b) (drop 16 c) (drop 16 b) x i l, drop-drop (28 * i) 16 b)
      by x y i h (no l) = let at : ℕ = 16 + 28 * entry_count b in
          let j : ℕ = i - entry_count b in
          let sum : entry_count b + j ≡ i = omega (arith, l) in
          subst (λ (n : ℕ). take 12 (drop (16 + 28 * n) c) ≡ take 12 (drop (16 + 28 * n) b)) sum
          (sym (row-place at c (entry_count b) j refl) ∙ alike_rows (volume_count b) (drop at c) (drop at b) y j (omega (arith, l))
          ∙ row-place at b (entry_count b) j refl)
