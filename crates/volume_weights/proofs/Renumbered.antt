-- The columns numbered anew: a set of files of its own, which is solved as the set that they come from.
--
--   numbers-column              the columns of that set are its numbers
--   renumbered-entry            its coefficients are those of the columns' files
--   packed_row, row_past        the end of the loop of `row`; past the columns a row is 0
--   renumbered_small            its rule gives bytes
--   outside_solved              a file that is no column is not solved
--   columns_filled              the end of the loop of `columns`
--   columns_byte                they are fewer than 256
--   place_inside                each stands before their number
--   placed                      what a search for a column among them finds
--   renumbered_solved           what is solved of it is solved of the set that it comes from
-- Assumes nothing.
use mathlib.Core.Path.{◌≡◌, refl, sym, ap, ap₂, ◌∙◌, subst}
use mathlib.Core.Bool.{Bool, true, false, not, cond, ◌&&◌, ◌||◌, and-true, true≢false}
use mathlib.Core.List.{List}
use Prim.Native.Nat.{ℕ, zero, suc, ◌+◌, ◌<◌, ◌≤◌, ◌-◌}
use native.Mathlib.Nat.{suc_inj, suc-sub-suc, sub-zero}
use native.Mathlib.Omega.{arith}
use native.Mathlib.Decide.{ℕ_discrete, dec_lt}
use lib.Dec.{eqb, leb, ltb}
use lib.ListN.{length, get_or, take, replicate, length-replicate}
use lib.Seq.{get_or-take, length-take-le}
use native.Mathlib.Numerals.{add-one}
use Rattle.std.specs.Prelude.{Option, Some, None, MatchOption}
use Rattle.std.specs.List.{position, position_or_len}
use Rattle.std.proofs.lemmas.List.Quantifiers.{position-Some}
use Rattle.std.proofs.lemmas.List.Sums.{fails_before_first}
use borrow.Author.Tests.{eq-eqb, ne_eqb, eqb-true, le-leb, lt-leb, leb-true, lt-ltb, le-ltb}
use Rattle.computed_tests.proofs.Tests.{test_fails, and_both}
use Rattle.computed_tests.proofs.Lists.{list_below_at, list_below_is}
use Rattle.elimination.specs.ByteField.{Byte, byte_field, to_byte}
use Rattle.elimination.proofs.ByteField.{to_byte_of_value}
use Rattle.number_sets.specs.Sets.{member}
use Rattle.number_sets.proofs.Words.{member-none, member-inserted, length_inserted}
use Rattle.volume_weights.specs.Weights.{column_in, columns_below, IsColumns, renumbered, numbers_to, row_of, table_of, Solved, solved, unsolved}
use Rattle.volume_weights.proofs.CoefficientRows.{Front}
use Rattle.volume_weights.proofs.SideBySide.{Filled, before_le, before_lt, before_other, before_onto, packed_solution, packed_kernel, outside_kernel}

-- ---- the numbers

length-numbers : (n : ℕ) → length (numbers_to n) ≡ 4
unfolding numbers_to
length-numbers zero = length-replicate {A = ℕ} 4 0
length-numbers (suc n) = length_inserted (suc n) (numbers_to n) ∙ length-numbers n

numbers-member : (n i : ℕ) → n < 256 → member (numbers_to n) (suc i) ≡ ltb i n
unfolding numbers_to
numbers-member zero i l = member-none (suc i) ∙ sym (le-ltb i zero (omega arith))
numbers-member (suc n) i l = simp (member-inserted (numbers_to n) (suc n) (length-numbers n) l (suc i), numbers-member n i (omega arith), one_more)
  where
    one_more : (eqb (suc i) (suc n) || ltb i n) ≡ ltb i (suc n)
    one_more = elim (ℕ_discrete i n) [
      | yes e ↦
          ap (λ (b : Bool). b || ltb i n) (eq-eqb (suc i) (suc n) (ap suc e)) ∙ sym (lt-ltb i (suc n) (omega arith))
      | no q ↦
          ap (λ (b : Bool). b || ltb i n) (ne_eqb (suc i) (suc n) (λ z. q (suc_inj z)))
          ∙ elim (dec_lt i n) [
            | yes b ↦ lt-ltb i n b ∙ sym (lt-ltb i (suc n) (omega arith))
            | no b ↦ le-ltb i n (omega arith) ∙ sym (le-ltb i (suc n) (omega arith))
          ]
    ]

numbers-column : (n i : ℕ) → n < 256 → column_in (numbers_to n) (replicate 4 0) (suc i) ≡ ltb i n
numbers-column n i l =
    ap₂ (λ (a b : Bool). leb (suc i) 255 && (a && not b)) (numbers-member n i l) (member-none (suc i))
    ∙ ap (λ (b : Bool). leb (suc i) 255 && b) (and-true (ltb i n))
    ∙ elim (dec_lt i 255) [
      | yes b ↦ ap (λ (t : Bool). t && ltb i n) (le-leb (suc i) 255 b)
      | no q ↦ ap (λ (t : Bool). t && ltb i n) (lt-leb (suc i) 255 (omega arith)) ∙ sym (le-ltb i n (omega arith))
    ]

-- ---- a row

module _ (rule : ℕ → ℕ → ℕ) (files : List ℕ) where
  renumbered_at : (p v : ℕ) → renumbered rule files (suc p) v ≡ rule (get_or files p 0) v
  unfolding renumbered
  renumbered_at p v = ap (λ (k : ℕ). rule (get_or files k 0) v) (suc-sub-suc p zero ∙ sub-zero p)

  renumbered-entry : (width v p : ℕ) → width < 256
      → cond (column_in (numbers_to width) (replicate 4 0) (suc p)) (renumbered rule files (suc p) v) 0 ≡ cond (ltb p width) (rule (get_or files p 0) v) 0
  renumbered-entry width v p l = ap₂ (λ (b : Bool) (x : ℕ). cond b x 0) (numbers-column width p l) (renumbered_at p v)

  pub packed_row : (width v : ℕ) (row : List ℕ) → width < 256 → Front (λ p. rule (get_or files p 0) v) width row
      → row ≡ row_of (renumbered rule files) (numbers_to width) (replicate 4 0) v
  unfolding row_of
  packed_row width v row l F =
      list_below_is 256 _ row F.long
      (λ p b.
      elim (dec_lt p width) [
        | yes i ↦ F.below p i ∙ sym (renumbered-entry width v p l ∙ ap (λ (t : Bool). cond t (rule (get_or files p 0) v) 0) (lt-ltb p width i))
        | no q ↦
            F.past p (omega arith) b
            ∙ sym (renumbered-entry width v p l ∙ ap (λ (t : Bool). cond t (rule (get_or files p 0) v) 0) (le-ltb p width (omega arith)))
      ])

  pub row_past : (width v p : ℕ) → width < 256 → width ≤ p → p < 256
      → get_or (row_of (renumbered rule files) (numbers_to width) (replicate 4 0) v) p 0 ≡ 0
  unfolding row_of
  row_past width v p l h b = simp (list_below_at, renumbered-entry, le-ltb)

  pub renumbered_small : ((f v : ℕ) → f < 256 → rule f v < 256) → ((p : ℕ) → get_or files p 0 < 256)
      → (f v : ℕ) → f < 256 → renumbered rule files f v < 256
  unfolding renumbered
  renumbered_small small bytes f v l = small (get_or files (f - 1) 0) v (bytes (f - 1))

-- ---- a file that is no column

-- an entry of a table: of a volume that is present, and of a column
entry_of : Bool → Bool → ℕ → Byte
entry_of v c x = to_byte (cond v (cond c x 0) 0)

entry_zero : (v : Bool) (x : ℕ) → entry_of v false x ≡ byte_field.𝟘
unfolding entry_of
entry_zero true x = to_byte_of_value byte_field.𝟘
entry_zero false x = to_byte_of_value byte_field.𝟘

module _ (rule : ℕ → ℕ → ℕ) (nonempty present volumes : List ℕ) where
  entry_outside : (s i : ℕ) → column_in nonempty present (suc i) ≡ false → table_of rule nonempty present volumes s i ≡ byte_field.𝟘
  unfolding table_of entry_of
  entry_outside s i e = simp (e, entry_zero)

  pub outside_solved : (rows i : ℕ) → i < 256 → column_in nonempty present (suc i) ≡ false
      → Solved rule nonempty present volumes rows i (replicate 256 0) false
  outside_solved rows i l e =
      unsolved _ (outside_kernel byte_field 256 (table_of rule nonempty present volumes) rows i l (λ s. entry_outside s i e)) refl

-- ---- the set that the columns come from

pub columns_filled : (nonempty present files : List ℕ) (width : ℕ) → Filled (λ k. column_in nonempty present (suc k)) 255 width files
    → IsColumns nonempty present files width
columns_filled nonempty present files width f = record {
  counted = f.counted;
  each = λ i e. f.each i (leb-true (suc i) 255 (and_both (leb (suc i) 255) _ e).0) e;
  bytes = f.bytes;
}

module _ (nonempty present files : List ℕ) (width : ℕ) (C : IsColumns nonempty present files width) where
  abbrev column : ℕ → Bool
  column i = column_in nonempty present (suc i)

  column_byte : (i : ℕ) → column i ≡ true → i < 255
  column_byte i e = leb-true (suc i) 255 (and_both (leb (suc i) 255) _ e).0

  pub columns_byte : width < 256
  columns_byte = let l = before_le column 255 in let w = C.counted in omega arith

  -- the file 256 is none, so all columns are below 255
  all_below : columns_below nonempty present 256 ≡ width
  all_below = before_other column 255 refl ∙ sym C.counted

  pub place_inside : (i : ℕ) → column i ≡ true → columns_below nonempty present i < width
  place_inside i e = let h = before_lt column i 255 e (column_byte i e) in let w = C.counted in omega arith

  -- ---- the place of a column

  -- a file of those that stand there
  found_column : (c at i : ℕ) → get_or files at 0 ≡ suc c → column i ≡ true → columns_below nonempty present i ≡ at
      → (column c ≡ true) × (columns_below nonempty present c ≡ at)
  found_column c at i e t z = let same : i ≡ c = suc_inj (sym (C.each i t) ∙ ap (λ (k : ℕ). get_or files k 0) z ∙ e) in
      (ap column (sym same) ∙ t, ap (columns_below nonempty present) (sym same) ∙ z)

  pub placed : length files ≡ 256 → (c : ℕ) (r : Option ℕ) → r ≡ position (λ f. eqb f (c + 1)) (take width files)
      → MatchOption r (column c ≡ false) (λ at. (at < width) × (column c ≡ true) × (columns_below nonempty present c ≡ at))
  placed full c r e = go r e
    where
      long : length (take width files) ≡ width
      long = length-take-le width files (omega (arith, full, columns_byte))

      last : None ≡ position (λ f. eqb f (c + 1)) (take width files) → width ≤ position_or_len (λ f. eqb f (c + 1)) (take width files)
      last e = elim (dec_lt (position_or_len (λ f. eqb f (c + 1)) (take width files)) (length (take width files))) [
        | yes l ↦ let z = e ∙ ap (λ (b : Bool). cond b (Some (position_or_len (λ f. eqb f (c + 1)) (take width files))) None) (lt-ltb _ _ l) in cc
        | no q ↦ omega (arith, q, long)
      ]

      go : (r : Option ℕ) → r ≡ position (λ f. eqb f (c + 1)) (take width files)
          → MatchOption r (column c ≡ false) (λ at. (at < width) × (column c ≡ true) × (columns_below nonempty present c ≡ at))
      go None e = test_fails (column c) (λ t. let b = place_inside c t in
          true≢false (sym (ap (λ (f : ℕ). eqb f (c + 1)) (get_or-take width files _ 0 b ∙ C.each c t ∙ sym (add-one c)) ∙ eq-eqb _ _ refl)
          ∙ fails_before_first (λ f. eqb f (c + 1)) (take width files) (columns_below nonempty present c) 0 (omega (arith, last e))))
      go (Some at) e = let (l, t, n) = position-Some (λ f. eqb f (c + 1)) (take width files) at 0 (sym e) in
          let here : at < width = omega (arith, l, long) in
          let (i, b, u, z) = before_onto column 255 at (subst (λ (n : ℕ). at < n) C.counted here) in
          let both = found_column c at i (sym (get_or-take width files at 0 here) ∙ eqb-true _ _ t ∙ add-one c) u z in
          (here, both.0, both.1)

  -- ---- the answers

  module _ (rule : ℕ → ℕ → ℕ) (volumes : List ℕ) where
    abbrev table : ℕ → ℕ → Byte
    table = table_of rule nonempty present volumes

    abbrev packed : ℕ → ℕ → Byte
    packed = table_of (renumbered rule files) (numbers_to width) (replicate 4 0) volumes

    packed_at : (s p : ℕ) → packed s p ≡ entry_of (member volumes (suc s)) (ltb p width) (rule (get_or files p 0) (suc s))
    unfolding table_of entry_of
    packed_at s p = ap (λ (x : ℕ). to_byte (cond (member volumes (suc s)) x 0)) (renumbered-entry rule files width (suc s) p columns_byte)

    same : (s i : ℕ) → i < 256 → column i ≡ true → table s i ≡ packed s (columns_below nonempty present i)
    unfolding table_of entry_of
    same s i l e = simp (e, lt-ltb _ width (place_inside i e), C.each i e, packed_at s (columns_below nonempty present i))

    past : (s p : ℕ) → columns_below nonempty present 256 ≤ p → p < 256 → packed s p ≡ byte_field.𝟘
    past s p h l = simp (packed_at, le-ltb p width (omega (arith, all_below)), entry_zero)

    pub renumbered_solved : (rows i : ℕ) (ws : List ℕ) (found : Bool) → i < 256 → column i ≡ true
        → Solved (renumbered rule files) (numbers_to width) (replicate 4 0) volumes rows (columns_below nonempty present i) ws found
        → Solved rule nonempty present volumes rows i ws found
    renumbered_solved rows i ws found l e (solved w W h) =
        solved w (packed_solution byte_field 256 column table packed same (λ s i l e. entry_outside rule nonempty present volumes s i e) past rows i w l e W) h
    renumbered_solved rows i ws found l e (unsolved x X z) =
        unsolved _ (packed_kernel byte_field 256 column table packed same (λ s i l e. entry_outside rule nonempty present volumes s i e) past rows i x e X) z
