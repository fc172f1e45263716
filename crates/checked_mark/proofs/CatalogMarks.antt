-- Catalogs of files that differ in marks and control hashes only.
--
--   rows_same         their entry rows are the same
--   inserted          rows of one number and size are put at one place
--   Parts, added_parts     what adding gives is the same but for the control hash
--   opened-same, added_same, rooms_alike     the calls
-- Assumes nothing.
use Rattle.std.specs.Prelude.{Ok, Err}
use mathlib.Core.Path.{◌≡◌, refl, sym, ap, ap₂, ◌∙◌}
use mathlib.Core.List.{List, ◌∷◌, ◌++◌, append_assoc, append-nil, flatten}
use mathlib.Core.Logic.{◌⊎◌, inl, inr}
use Prim.Native.Nat.{ℕ, suc, ◌+◌, ◌-◌, min}
use native.Mathlib.Omega.{arith}
use lib.Dec.{leb}
use lib.ListN.{length, take, drop, length-append, length-take, length-drop}
use lib.Seq.{take_at, drop_at, take-append_seam, drop-append_seam, drop-drop}
use Rattle.catalog.specs.Catalog.{entry_rows, volume_rows, insert_row}
use Rattle.catalog.specs.Calls.{open_refusal, open_of, add_number, add_refusal, added_bytes, add_of}
use Rattle.catalog.specs.Plan.{place_of}
use Rattle.catalog.specs.Rows.{row, number_of, file_number_after, entry_row, rows_after, catalog_head, catalog_bytes}
use Rattle.catalog.proofs.PlaceLaws.{insert_at}
use Rattle.entries.specs.Entry.{status_of, saved_count}
use Rattle.lent_bytes.specs.Writing.{written_unless}
use Rattle.lent_bytes.proofs.PartsInRow.{flatten-append}
use Rattle.lent_bytes.proofs.WritingLaws.{unless_refused}
use Rattle.little_endian.specs.Bytes.{to_le}
use Rattle.little_endian.proofs.Numbers.{length-to_le}
use Rattle.little_endian.proofs.Reading.{le_at-append}
use Rattle.par1_read.specs.Reading.{read_of}
use Rattle.par1_read.specs.Reading.{Reading}
use Rattle.par1_read.proofs.ReadingLaws.{read_tells, refused_some}
use Rattle.par1_rules.specs.Layout.{volume_number_of, data_size_of, control_hash_of}
use Rattle.refusals.specs.Limits.{max_entries}
use Rattle.refusals.specs.Tests.{bare, test}
use Rattle.refusals.specs.declared.Refusal.{Refusal}
use Rattle.checked_mark.specs.Claim.{ButHash}
use Rattle.checked_mark.specs.Marks.{Pairs, pairs_none, pairs_more, EntryAlike, AlikeButMarks}
use Rattle.checked_mark.proofs.AnswerLaws.{answer_same, room_cases}
use Rattle.checked_mark.proofs.EntryMarks.{file_size, md5-same, is_saved_lem}
use Rattle.checked_mark.proofs.FileMarks.{volume_number, data_size_lem, entries_alike, read_same}
use Rattle.checked_mark.proofs.PairLaws.{count_same}

pub rows_same : (k : ℕ) {es gs : List (List ℕ)} → Pairs EntryAlike es gs → rows_after k es ≡ rows_after k gs
unfolding rows_after
rows_same k pairs_none = refl
rows_same k (pairs_more {x = e} {y = g} a ps) =
    simp (is_saved_lem a, file_size a, md5-same a)
    (ap (λ (rs : List (List ℕ)). entry_row (file_number_after k (status_of g)) g ∷ rs) (rows_same (k + saved_count (status_of g)) ps))

-- ---- a volume's row

module _ (n m : ℕ) where
  abbrev front : List ℕ
  front = to_le 4 n ++ to_le 8 m

  row_is : (h : List ℕ) → row n m h ≡ front ++ h
  unfolding row flatten
  row_is h = simp (append_assoc, append-nil)

  row_number : (h : List ℕ) → number_of (row n m h) ≡ number_of front
  row_number h = simp (row_is, le_at-append 4 front h 0 (omega (arith, length-append (to_le 4 n) (to_le 8 m), length-to_le 4 n, length-to_le 8 m)))

-- ---- the rooms

-- the bytes that are the same, and the hash between them
pub record Parts (s t h k : List ℕ) : Type 0 where
  pub before : List ℕ
  pub after : List ℕ
  pub one_is : s ≡ before ++ (h ++ after)
  pub other_is : t ≡ before ++ (k ++ after)

bytes_parts : (es p q : List (List ℕ)) (r : List ℕ)
    → catalog_bytes es (p ++ r ∷ q) ≡ (catalog_head (length es) (length p + suc (length q)) ++ (flatten es ++ flatten p)) ++ (r ++ flatten q)
unfolding catalog_bytes flatten
bytes_parts es p q r = simp (length-append, flatten-append, append_assoc)

hash_parts : (x y h front r : List ℕ) → r ≡ front ++ h → x ++ (r ++ y) ≡ (x ++ front) ++ (h ++ y)
hash_parts x y h front r e = rw e (simp append_assoc)

-- a row of the number n and the size m stands at one place, whatever its hash
module _ (b : List ℕ) (n m : ℕ) where
  abbrev earlier : List (List ℕ)
  earlier = take (place_of (number_of (front n m)) (volume_rows b)) (volume_rows b)

  abbrev later : List (List ℕ)
  later = drop (place_of (number_of (front n m)) (volume_rows b)) (volume_rows b)

  abbrev ahead : List ℕ
  ahead = catalog_head (length (entry_rows b)) (length earlier + suc (length later)) ++ (flatten (entry_rows b) ++ flatten earlier)

  inserted : (h : List ℕ) → insert_row (row n m h) (volume_rows b) ≡ earlier ++ row n m h ∷ later
  inserted h = insert_at (row n m h) (volume_rows b) ∙ simp (row_number n m h)

  added_is : (h : List ℕ) → catalog_bytes (entry_rows b) (insert_row (row n m h) (volume_rows b)) ≡ (ahead ++ front n m) ++ (h ++ flatten later)
  added_is h =
      ap (catalog_bytes (entry_rows b)) (inserted h) ∙ bytes_parts (entry_rows b) earlier later (row n m h)
      ∙ hash_parts ahead (flatten later) h (front n m) (row n m h) (row_is n m h)

  added_parts : (h k : List ℕ)
      → Parts (catalog_bytes (entry_rows b) (insert_row (row n m h) (volume_rows b))) (catalog_bytes (entry_rows b) (insert_row (row n m k) (volume_rows b))) h k
  added_parts h k = record { before = ahead ++ front n m; after = flatten later; one_is = added_is h; other_is = added_is k }

parts_length : {s t h k : List ℕ} → Parts s t h k → length h ≡ length k → length s ≡ length t
parts_length {s} {t} {h} {k} p e =
    omega (arith, simp length-append at (ap length p.one_is), simp length-append at (ap length p.other_is))

but_hash : (x h k y : List ℕ) → length h ≡ 16 → length k ≡ 16 → ButHash (x ++ (h ++ y)) (x ++ (k ++ y)) h k
but_hash x h k y e f = record {
  at = length x;
  before_same = take-append_seam x (h ++ y) ∙ sym (take-append_seam x (k ++ y));
  one_has = ap (take 16) (drop-append_seam x (h ++ y)) ∙ take_at h y 16 e;
  other_has = ap (take 16) (drop-append_seam x (k ++ y)) ∙ take_at k y 16 f;
  after_same =
      sym (drop-drop 16 (length x) (x ++ (h ++ y)))
      ∙ ap (drop 16) (drop-append_seam x (h ++ y))
      ∙ drop_at h y 16 e
      ∙ sym (sym (drop-drop 16 (length x) (x ++ (k ++ y))) ∙ ap (drop 16) (drop-append_seam x (k ++ y)) ∙ drop_at k y 16 f);
}

-- the same bytes after both
parts_room : {s t h k : List ℕ} → Parts s t h k → (z : List ℕ) → length h ≡ 16 → length k ≡ 16 → ButHash (s ++ z) (t ++ z) h k
parts_room {s} {t} {h} {k} p z e f =
    let one : s ++ z ≡ p.before ++ (h ++ (p.after ++ z)) = rw p.one_is (simp append_assoc) in
    let other : t ++ z ≡ p.before ++ (k ++ (p.after ++ z)) = rw p.other_is (simp append_assoc) in
    rw (one, other) (but_hash p.before h k (p.after ++ z) e f)

-- ---- the calls

module _ {f g : List ℕ} (a : AlikeButMarks f g) where
  open_refusal_lem : (r : Reading) → open_refusal f r ≡ open_refusal g r
  open_refusal_lem (Ok p) = ap (λ (n : ℕ). bare (test 26 (leb n max_entries) 0)) (count_same (entries_alike a))
  open_refusal_lem (Err r) = refl

  pub opened-same : (out : List ℕ) → open_of f out ≡ open_of g out
  unfolding open_of
  opened-same out = simp (read_same a, open_refusal_lem (read_of g), rows_same 0 (entries_alike a))

  module _ (b : List ℕ) where
    add_number_lem : add_number b f ≡ add_number b g
    unfolding add_number
    add_number_lem = simp (volume_number a, rows_same 0 (entries_alike a), count_same (entries_alike a))

    add_refusal_lem : (r : Reading) → add_refusal b f r ≡ add_refusal b g r
    add_refusal_lem (Ok p) = ap bare add_number_lem
    add_refusal_lem (Err r) = refl

    refusals_same : add_refusal b f (read_of f) ≡ add_refusal b g (read_of g)
    refusals_same = ap (add_refusal b f) (read_same a) ∙ add_refusal_lem (read_of g)

    bytes_alike : Parts (added_bytes b f) (added_bytes b g) (control_hash_of f) (control_hash_of g)
    bytes_alike =
        let same : row (volume_number_of f) (data_size_of f) (control_hash_of f) ≡ row (volume_number_of g) (data_size_of g) (control_hash_of f) =
        ap₂ (λ (n m : ℕ). row n m (control_hash_of f)) (volume_number a) (data_size_lem a) in
        rw same (added_parts b (volume_number_of g) (data_size_of g) (control_hash_of f) (control_hash_of g))

    bytes_length : length (added_bytes b f) ≡ length (added_bytes b g)
    bytes_length = parts_length bytes_alike (simp (length-take, length-drop) (ap (λ (n : ℕ). min 16 (n - 16)) a.length-same))

    pub added_same : (add_of b f).0 ≡ (add_of b g).0
    unfolding add_of
    added_same =
        answer_same (add_refusal b f (read_of f)) (added_bytes b f) (added_bytes b g) b bytes_length
        ∙ ap (λ (r : Refusal). (written_unless r (added_bytes b g) b).0) refusals_same

    abbrev Alike : Type 0
    Alike = ((add_of b f).1 ≡ (add_of b g).1) ⊎ ButHash (add_of b f).1 (add_of b g).1 (control_hash_of f) (control_hash_of g)

    one_is : add_of b f ≡ written_unless (add_refusal b g (read_of g)) (added_bytes b f) b
    unfolding add_of
    one_is = ap (λ (r : Refusal). written_unless r (added_bytes b f) b) refusals_same

    accepted_alike : length (control_hash_of f) ≡ 16 → length (control_hash_of g) ≡ 16 → Alike
    unfolding add_of
    accepted_alike h k = by (room_cases (add_refusal b g (read_of g)) (added_bytes b f) (added_bytes b g) b bytes_length)
      where
        past : List ℕ
        past = drop (length (added_bytes b g)) b

        by : ((written_unless (add_refusal b g (read_of g)) (added_bytes b f) b).1 ≡ (add_of b g).1)
            ⊎ (((written_unless (add_refusal b g (read_of g)) (added_bytes b f) b).1 ≡ added_bytes b f ++ past) × ((add_of b g).1 ≡ added_bytes b g ++ past))
            → Alike
        by (inl e) = inl (ap (λ w. w.1) one_is ∙ e)
        by (inr e) = let one : (add_of b f).1 ≡ added_bytes b f ++ past = ap (λ w. w.1) one_is ∙ e.0 in
            inr (rw (one, e.1) (parts_room bytes_alike past h k))

    refused_alike : {r : Refusal} → read_of f ≡ Err r → Alike
    unfolding add_of
    refused_alike {r} e =
        let kept : (s : List ℕ) → (written_unless r s b).1 ≡ b = λ s. ap (λ w. w.1) (sym (unless_refused s b refl (refused_some f e) refl)) in
        let is : add_refusal b f (read_of f) ≡ r = ap (add_refusal b f) e in
        inl
        (ap (λ (n : Refusal). (written_unless n (added_bytes b f) b).1) is
        ∙ kept (added_bytes b f)
        ∙ sym (ap (λ (n : Refusal). (written_unless n (added_bytes b g) b).1) (sym refusals_same ∙ is) ∙ kept (added_bytes b g)))

    pub rooms_alike : Alike
    rooms_alike = by (read_of f) refl
      where
        by : (r : Reading) → read_of f ≡ r → Alike
        by (Ok p) e = let low = (read_tells f p e).tests.header.size.low in
            accepted_alike (simp (length-take, length-drop) (omega arith)) (simp (length-take, length-drop) (omega (arith, a.length-same)))
        by (Err r) e = refused_alike e
