-- The rows of coefficients, and the table that they are rows of.
--
--   Front f n l                a list that is filled from the front
--   front_none, front_more, front_zero     with no entry, with one more, and with one more that is 0
--   row_filled                 the end of the loop of `present_row`
--   column_is, present-entry,
--   present_in, present_out    which files below 256 are columns, of all and of those present
--   table_row, table_absent    the rows of the volumes present, and of the others
-- Assumes nothing.
use mathlib.Core.Path.{◌≡◌, refl, sym, ap, ◌∙◌}
use mathlib.Core.Bool.{Bool, true, false, not, cond, ◌&&◌, and-true}
use mathlib.Core.List.{List}
use Prim.Native.Nat.{ℕ, suc, ◌<◌, ◌≤◌, ◌+◌}
use native.Mathlib.Numerals.{add-one}
use native.Mathlib.Omega.{arith}
use native.Mathlib.Decide.{ℕ_discrete}
use lib.Dec.{leb}
use lib.ListN.{length, get_or, set, replicate, length-replicate, length-set, get_or-replicate}
use lib.Seq.{get_or-set_same, get_or-set_other}
use borrow.Author.Tests.{le-leb, leb-true}
use Rattle.computed_tests.proofs.Tests.{and_both}
use Rattle.computed_tests.proofs.Lists.{list_below_at, list_below_is}
use Rattle.elimination.specs.ByteField.{to_byte, byte_field}
use Rattle.elimination.proofs.ByteField.{to_byte_value, to_byte_of_value}
use Rattle.number_sets.specs.Sets.{member}
use Rattle.number_sets.proofs.Words.{member-none}
use Rattle.volume_weights.specs.Weights.{column_in, table_of, row_of}

-- ---- a list, filled from the front

-- the first n of 256 entries are those of f, and the others are 0
pub record Front (f : ℕ → ℕ) (n : ℕ) (l : List ℕ) : Type 0 where
  pub long : length l ≡ 256
  pub below : (i : ℕ) → i < n → get_or l i 0 ≡ f i
  pub past : (i : ℕ) → n ≤ i → i < 256 → get_or l i 0 ≡ 0

pub front_none : (f : ℕ → ℕ) → Front f 0 (replicate 256 0)
front_none f = record { long = length-replicate {A = ℕ} 256 0; below = λ i l. absurd (omega arith); past = λ i l b. get_or-replicate 256 i 0 0 b }

pub front_more : (f : ℕ → ℕ) (n : ℕ) (l : List ℕ) (x : ℕ) → Front f n l → n < 256 → x ≡ f n → Front f (n + 1) (set l n x)
front_more f n l x F b e = record {
  long = simp length-set F.long;
  below = λ i m. elim (ℕ_discrete i n) [
    | yes p ↦ ap (λ (k : ℕ). get_or (set l n x) k 0) p ∙ get_or-set_same l n x 0 (omega (arith, F.long)) ∙ e ∙ ap f (sym p)
    | no q ↦ get_or-set_other l n i x 0 q ∙ F.below i (omega arith)
  ];
  past = λ i m h. get_or-set_other l n i x 0 (λ z. omega arith) ∙ F.past i (omega arith) h;
}

pub front_zero : (f : ℕ → ℕ) (n : ℕ) (l : List ℕ) → Front f n l → n < 256 → f n ≡ 0 → Front f (n + 1) l
front_zero f n l F b e = record {
  long = F.long;
  below = λ i m. elim (ℕ_discrete i n) [
    | yes p ↦ ap (λ (k : ℕ). get_or l k 0) p ∙ F.past n (omega arith) b ∙ sym e ∙ ap f (sym p)
    | no q ↦ F.below i (omega arith)
  ];
  past = λ i m h. F.past i (omega arith) h;
}

-- ---- a row

pub column_is : (nonempty present : List ℕ) (i : ℕ) → i < 255
    → (member nonempty (suc i) && not (member present (suc i))) ≡ column_in nonempty present (suc i)
column_is nonempty present i l =
    sym (ap (λ (b : Bool). b && (member nonempty (suc i) && not (member present (suc i)))) (le-leb (suc i) 255 (omega arith)))

module _ (rule : ℕ → ℕ → ℕ) (nonempty present : List ℕ) where
  -- entry i of the row of volume v
  abbrev pub entry_of : ℕ → ℕ → ℕ
  entry_of v i = cond (column_in nonempty present (suc i)) (rule (suc i) v) 0

  pub row_filled : (v : ℕ) (row : List ℕ) → Front (entry_of v) 255 row → row ≡ row_of rule nonempty present v
  unfolding row_of
  row_filled v row F =
      list_below_is 256 (entry_of v) row F.long
      (λ i l.
      elim (ℕ_discrete i 255) [
        | yes p ↦ ap (λ (k : ℕ). get_or row k 0) p ∙ F.past 255 (omega arith) (omega arith) ∙ ap (entry_of v) (sym p)
        | no q ↦ F.below i (omega arith)
      ])

-- the files present, as columns
pub present-entry : (rule : ℕ → ℕ → ℕ) (present : List ℕ) (v i : ℕ) → i < 255
    → cond (member present (suc i)) (rule (suc i) v) 0 ≡ entry_of rule present (replicate 4 0) v i
present-entry rule present v i l = cc (member-none (suc i), and-true (member present (suc i)), column_is present (replicate 4 0) i l)

pub present_in : (rule : ℕ → ℕ → ℕ) (present : List ℕ) (v i : ℕ) → i < 255 → member present (i + 1) ≡ true
    → rule (i + 1) v ≡ entry_of rule present (replicate 4 0) v i
present_in rule present v i l e =
    ap (λ (k : ℕ). rule k v) (add-one i)
    ∙ sym (ap (λ (b : Bool). cond b (rule (suc i) v) 0) (ap (member present) (sym (add-one i)) ∙ e)) ∙ present-entry rule present v i l

pub present_out : (rule : ℕ → ℕ → ℕ) (present : List ℕ) (v i : ℕ) → i < 255 → member present (i + 1) ≡ false
    → entry_of rule present (replicate 4 0) v i ≡ 0
present_out rule present v i l e =
    sym (present-entry rule present v i l) ∙ ap (λ (b : Bool). cond b (rule (suc i) v) 0) (ap (member present) (sym (add-one i)) ∙ e)

-- ---- the table

module _ (rule : ℕ → ℕ → ℕ) (small : (f v : ℕ) → f < 256 → rule f v < 256) (nonempty present volumes : List ℕ) where
  entry_byte : (v i : ℕ) → entry_of rule nonempty present v i < 256
  entry_byte v i = go (column_in nonempty present (suc i)) refl
    where
      go : (b : Bool) → column_in nonempty present (suc i) ≡ b → cond b (rule (suc i) v) 0 < 256
      go true e = let l = leb-true (suc i) 255 (and_both (leb (suc i) 255) _ e).0 in small (suc i) v (omega arith)
      go false e = omega arith

  pub table_row : (v : ℕ) → member volumes (suc v) ≡ true → (i : ℕ) → i < 256
      → (table_of rule nonempty present volumes v i).0 ≡ get_or (row_of rule nonempty present (suc v)) i 0
  unfolding table_of row_of
  table_row v e i l = simp (e, to_byte_value _ (entry_byte (suc v) i), list_below_at 256 (entry_of rule nonempty present (suc v)) i l)

  pub table_absent : (v : ℕ) → member volumes (suc v) ≡ false → (i : ℕ) → table_of rule nonempty present volumes v i ≡ byte_field.𝟘
  unfolding table_of
  table_absent v e i = ap (λ (b : Bool). to_byte (cond b (entry_of rule nonempty present (suc v) i) 0)) e ∙ to_byte_of_value byte_field.𝟘
