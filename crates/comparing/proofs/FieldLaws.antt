-- The fields that differ.
--
--   differing_text    the text of their lines: row by row of the table, nothing where the bytes are equal
--   IsTable           the bytes of each field, as a table has them
--   differing_iff     they are exactly the fields whose bytes differ
--   differing_most    there are no more of them than rows
--   differing_pairwise     they keep the order of the table
--   head_bytes h, entry_bytes e     the bytes of a field of the header, and of an entry
--   head_table_lem, entry_table_lem       the tables have them
-- Assumes nothing.
use mathlib.Core.Path.{◌≡◌, refl, sym, ap, ◌∙◌}
use mathlib.Core.Bool.{Bool, true, false, cond, false≢true}
use mathlib.Core.List.Memᴰ
use mathlib.Core.List.{List, [], ◌∷◌, ◌++◌, map, flatten, Memᴰ}
use mathlib.Core.Logic.{◌⊎◌, ◌↔◌, inl, inr, ⊎_elim}
use Prim.Native.Nat.{ℕ, suc, ◌≤◌}
use native.Mathlib.Omega.{arith}
use lib.ListN.{length, get_or}
use Rattle.cut_lists.specs.All.{All, all_none, all_more}
use Rattle.lent_bytes.specs.Equal.{equal}
use Rattle.lent_bytes.proofs.EqualLaws.{equal_true, equal-same}
use Rattle.comparing.specs.Claim.{Pairwise, pairwise_none, pairwise_more}
use Rattle.comparing.specs.Lines.{HeadField, version_field, program_field, control_field, set-field, number_field}
use Rattle.comparing.specs.Lines.{files_field, list_field, start-field, data_field}
use Rattle.comparing.specs.Lines.{EntryField, length-field, status_field, size_field, md5-field, md5_16k_field, name_field, Line, line_text, text_of}
use Rattle.comparing.specs.Differences.{Row, row, bytes_from, head_table, entry_table, differing}
use Rattle.comparing.proofs.MemberLaws.{mem_at}

module _ {A : Type 0} (line : A → Line) (f g : List ℕ) where
  -- the text of the line on a row's field
  abbrev pub row_text : Row A → List ℕ
  row_text r = cond (equal (r.bytes f) (r.bytes g)) [] (line_text (line r.field))

  pub differing_text : (t : List (Row A)) → text_of (map line (differing t f g)) ≡ flatten (map row_text t)
  unfolding differing flatten
  differing_text [] = refl
  differing_text (r ∷ t) = by (equal (r.bytes f) (r.bytes g)) ∙ ap (λ (s : List ℕ). row_text r ++ s) (differing_text t)
    where
      by : (b : Bool)
          → text_of (map line (cond b (differing t f g) (r.field ∷ differing t f g)))
          ≡ cond b [] (line_text (line r.field)) ++ text_of (map line (differing t f g))
      by true = refl
      by false = refl

-- ---- which fields they are

-- t is a table in which the bytes of each field a are `bytes_of a`, and which has each field
pub record IsTable {A : Type 0} (bytes_of : A → List ℕ → List ℕ) (t : List (Row A)) : Type 0 where
  pub right : All (λ r. (f : List ℕ) → r.bytes f ≡ bytes_of r.field f) t
  pub whole : (a : A) → Memᴰ (row a (bytes_of a)) t

module _ {A : Type 0} (bytes_of : A → List ℕ → List ℕ) (f g : List ℕ) {a : A} where
  differs_in : (t : List (Row A)) → All (λ r. (f : List ℕ) → r.bytes f ≡ bytes_of r.field f) t → Memᴰ a (differing t f g)
      → bytes_of a f ≡ bytes_of a g → ⊥
  unfolding differing
  differs_in [] all_none m e = Memᴰ.not-nil m
  differs_in (r ∷ t) (all_more is rs) m e = by (equal (r.bytes f) (r.bytes g)) refl (λ m. differs_in t rs m e) m
    where
      same : a ≡ r.field → r.bytes f ≡ r.bytes g
      same q = is f ∙ ap (λ (b : A). bytes_of b f) (sym q) ∙ e ∙ ap (λ (b : A). bytes_of b g) q ∙ sym (is g)

      by : (b : Bool) → equal (r.bytes f) (r.bytes g) ≡ b → (Memᴰ a (differing t f g) → ⊥)
          → Memᴰ a (cond b (differing t f g) (r.field ∷ differing t f g)) → ⊥
      by true z later m = later m
      by false z later m = ⊎_elim (λ q. false≢true (sym z ∙ equal-same (same q))) later (Memᴰ.cases_cons m)

  in_differing : (t : List (Row A)) → Memᴰ (row a (bytes_of a)) t → (bytes_of a f ≡ bytes_of a g → ⊥) → Memᴰ a (differing t f g)
  unfolding differing
  in_differing [] m h = absurd (Memᴰ.not-nil m)
  in_differing (r ∷ t) m h = by (equal (r.bytes f) (r.bytes g)) refl (λ m. in_differing t m h) (Memᴰ.cases_cons m)
    where
      by : (b : Bool) → equal (r.bytes f) (r.bytes g) ≡ b → (Memᴰ (row a (bytes_of a)) t → Memᴰ a (differing t f g))
          → (row a (bytes_of a) ≡ r) ⊎ Memᴰ (row a (bytes_of a)) t
          → Memᴰ a (cond b (differing t f g) (r.field ∷ differing t f g))
      by true z later (inl e) =
          absurd (h (ap (λ (r : Row A). r.bytes f) e ∙ equal_true (r.bytes f) (r.bytes g) z ∙ ap (λ (r : Row A). r.bytes g) (sym e)))
      by true z later (inr m) = later m
      by false z later (inl e) = Memᴰ.head (ap (λ (r : Row A). r.field) e)
      by false z later (inr m) = Memᴰ.tail (later m)

  pub differing_iff : {t : List (Row A)} → IsTable bytes_of t → Memᴰ a (differing t f g) ↔ (bytes_of a f ≡ bytes_of a g → ⊥)
  differing_iff {t} i = (differs_in t i.right, in_differing t (i.whole a))

-- ---- how many, and in which order

module _ {A : Type 0} (f g : List ℕ) where
  pub differing_most : (t : List (Row A)) → length (differing t f g) ≤ length t
  unfolding differing
  differing_most [] = omega arith
  differing_most (r ∷ t) = by (equal (r.bytes f) (r.bytes g)) (differing_most t)
    where
      by : (b : Bool) → length (differing t f g) ≤ length t
          → length (cond b (differing t f g) (r.field ∷ differing t f g)) ≤ suc (length t)
      by true h = omega arith
      by false h = omega arith

  differing_all : {P : A → Type 0} (t : List (Row A)) → All (λ r. P r.field) t → All P (differing t f g)
  unfolding differing
  differing_all [] all_none = all_none
  differing_all {P} (r ∷ t) (all_more p ps) = by (equal (r.bytes f) (r.bytes g)) (differing_all t ps)
    where
      by : (b : Bool) → All P (differing t f g) → All P (cond b (differing t f g) (r.field ∷ differing t f g))
      by true qs = qs
      by false qs = all_more p qs

  pub differing_pairwise : {R : A → A → Type 0} (t : List (Row A)) → Pairwise (λ r q. R r.field q.field) t → Pairwise R (differing t f g)
  unfolding differing
  differing_pairwise [] pairwise_none = pairwise_none
  differing_pairwise {R} (r ∷ t) (pairwise_more p ps) = by (equal (r.bytes f) (r.bytes g)) (differing_all t p) (differing_pairwise t ps)
    where
      by : (b : Bool) → All (R r.field) (differing t f g) → Pairwise R (differing t f g)
          → Pairwise R (cond b (differing t f g) (r.field ∷ differing t f g))
      by true q qs = qs
      by false q qs = pairwise_more q qs

-- ---- the two tables, with the bytes of a field as its row has them

abbrev head_at : HeadField → Row HeadField
head_at version_field = get_or head_table 0 (row version_field (bytes_from 0))
head_at program_field = get_or head_table 1 (row program_field (bytes_from 0))
head_at control_field = get_or head_table 2 (row control_field (bytes_from 0))
head_at set-field = get_or head_table 3 (row set-field (bytes_from 0))
head_at number_field = get_or head_table 4 (row number_field (bytes_from 0))
head_at files_field = get_or head_table 5 (row files_field (bytes_from 0))
head_at list_field = get_or head_table 6 (row list_field (bytes_from 0))
head_at start-field = get_or head_table 7 (row start-field (bytes_from 0))
head_at data_field = get_or head_table 8 (row data_field (bytes_from 0))

abbrev pub head_bytes : HeadField → List ℕ → List ℕ
head_bytes h = (head_at h).bytes

pub head_table_lem : IsTable head_bytes head_table
head_table_lem = record { right = rows; whole = find }
  where
    rows : All (λ r. (f : List ℕ) → r.bytes f ≡ head_bytes r.field f) head_table
    rows =
        all_more (λ f. refl) (all_more (λ f. refl) (all_more (λ f. refl) (all_more (λ f. refl) (all_more (λ f. refl)
        (all_more (λ f. refl) (all_more (λ f. refl) (all_more (λ f. refl) (all_more (λ f. refl) all_none))))))))

    find : (h : HeadField) → Memᴰ (row h (head_bytes h)) head_table
    find version_field = mem_at (row version_field (bytes_from 0)) head_table 0 (omega arith)
    find program_field = mem_at (row program_field (bytes_from 0)) head_table 1 (omega arith)
    find control_field = mem_at (row control_field (bytes_from 0)) head_table 2 (omega arith)
    find set-field = mem_at (row set-field (bytes_from 0)) head_table 3 (omega arith)
    find number_field = mem_at (row number_field (bytes_from 0)) head_table 4 (omega arith)
    find files_field = mem_at (row files_field (bytes_from 0)) head_table 5 (omega arith)
    find list_field = mem_at (row list_field (bytes_from 0)) head_table 6 (omega arith)
    find start-field = mem_at (row start-field (bytes_from 0)) head_table 7 (omega arith)
    find data_field = mem_at (row data_field (bytes_from 0)) head_table 8 (omega arith)

abbrev entry_at : EntryField → Row EntryField
entry_at length-field = get_or entry_table 0 (row length-field (bytes_from 0))
entry_at status_field = get_or entry_table 1 (row status_field (bytes_from 0))
entry_at size_field = get_or entry_table 2 (row size_field (bytes_from 0))
entry_at md5-field = get_or entry_table 3 (row md5-field (bytes_from 0))
entry_at md5_16k_field = get_or entry_table 4 (row md5_16k_field (bytes_from 0))
entry_at name_field = get_or entry_table 5 (row name_field (bytes_from 0))

abbrev pub entry_bytes : EntryField → List ℕ → List ℕ
entry_bytes e = (entry_at e).bytes

pub entry_table_lem : IsTable entry_bytes entry_table
entry_table_lem = record { right = rows; whole = find }
  where
    rows : All (λ r. (f : List ℕ) → r.bytes f ≡ entry_bytes r.field f) entry_table
    rows = all_more (λ f. refl) (all_more (λ f. refl) (all_more (λ f. refl) (all_more (λ f. refl) (all_more (λ f. refl) (all_more (λ f. refl) all_none)))))

    find : (e : EntryField) → Memᴰ (row e (entry_bytes e)) entry_table
    find length-field = mem_at (row length-field (bytes_from 0)) entry_table 0 (omega arith)
    find status_field = mem_at (row status_field (bytes_from 0)) entry_table 1 (omega arith)
    find size_field = mem_at (row size_field (bytes_from 0)) entry_table 2 (omega arith)
    find md5-field = mem_at (row md5-field (bytes_from 0)) entry_table 3 (omega arith)
    find md5_16k_field = mem_at (row md5_16k_field (bytes_from 0)) entry_table 4 (omega arith)
    find name_field = mem_at (row name_field (bytes_from 0)) entry_table 5 (omega arith)
