-- The loops of this crate, one step further each.
--
--   diagonal_more              the diagonal
--   product_more               a row times the matrix within a width w
--   pivot_more                 the search for a pivot
--   Swept w n y k scale m m'   the first n rows of m' are those of m swept, as far as w, the others those of m
--   swept_none, swept_more     the sweep, before its first row and one row further
--   swept_all                  after its last
--   weight_more                the weights
-- Assumes nothing.
use mathlib.Core.Path.{◌≡◌, refl, sym, ap, ap₂, ◌∙◌, subst}
use mathlib.Core.Bool.{Bool, cond, ◌&&◌, and-false}
use mathlib.Core.List.{List, ◌++◌}
use Prim.Native.Nat.{ℕ, ◌<◌, ◌≤◌, ◌+◌, ◌*◌, ◌-◌, ◌/◌, ◌%◌}
use native.Mathlib.Nat.{not-suc-le-zero}
use native.Mathlib.Numerals.{add-one}
use native.Mathlib.Omega.{arith}
use native.Mathlib.Decide.{ℕ_discrete, dec_lt}
use lib.Bits.{bit_xor, xor_zero_r}
use lib.Dec.{eqb, ltb}
use lib.ListN.{length, get_or, set, take, drop, length-drop, get_or-append}
use lib.Seq.{get_or-set_same, get_or-set_other, get_or-take, get_or-drop, get_or-append-add, length-take-le}
use borrow.Author.Tests.{eq-eqb, ne_eqb, lt-ltb, le-ltb}
use borrow.Rule.Slice.PartMut.{put_mid, same_len_mid, take_put, drop_put}
use Rattle.computed_tests.proofs.Lists.{list_below_is}
use Rattle.gf256.specs.Polynomial.{sum_below}
use Rattle.gf256.specs.Field.{product}
use Rattle.gf256.specs.Tables.{IsTables, product_by}
use Rattle.gf256.specs.declared.tables.Tables.{Tables}
use Rattle.gf256.proofs.Products.{product_byte}
use Rattle.gf256.proofs.TableLaws.{product_by_tables}
use Rattle.mul_add.specs.MulAdd.{mul_add, mul_add_by}
use Rattle.mul_add.proofs.Multiples.{by_tables}
use Rattle.mul_add.proofs.MulAdds.{length-mul_add, mul_add_at}
use Rattle.elimination.specs.Reduction.{entry, with_diagonal, swept_entry, swept_within}

-- byte j of the part of a row that is lent
row_at : (w : ℕ) (m : List ℕ) (i j : ℕ) → j < w → get_or (take w (drop (i * 256) m)) j 0 ≡ entry m i j
row_at w m i j l = get_or-take w (drop (i * 256) m) j 0 l ∙ get_or-drop (i * 256) m j 0

-- ---- the diagonal

pub diagonal_more : (i : ℕ) (m m' : List ℕ) → m' ≡ with_diagonal i m → set m' (i * 256 + i) 1 ≡ with_diagonal (i + 1) m
unfolding with_diagonal
diagonal_more i m m' e = ap (λ (l : List ℕ). set l (i * 256 + i) 1) e ∙ ap (λ (n : ℕ). with_diagonal n m) (sym (add-one i))

-- ---- a row times the matrix

pub product_more : (t : Tables) → IsTables t → (w : ℕ) (u m sum : List ℕ) (i : ℕ) → w ≤ 256 → length sum ≡ 256 → get_or u i 0 < 256
    → ((j : ℕ) → j < w → get_or sum j 0 ≡ sum_below i (λ i. product (get_or u i 0) (entry m i j)))
    → (sum' : List ℕ) → sum' ≡ mul_add_by t.powers t.exponents (get_or u i 0) (take (i * 256 + w - i * 256) (drop (i * 256) m)) sum
    → (j : ℕ) → j < w → get_or sum' j 0 ≡ sum_below (i + 1) (λ i. product (get_or u i 0) (entry m i j))
unfolding sum_below
product_more t is w u m sum i hw e hb h sum' by j l = let row = take (i * 256 + w - i * 256) (drop (i * 256) m) in
    ap (λ (zs : List ℕ). get_or zs j 0) (by ∙ by_tables t is (get_or u i 0) hb row sum)
    ∙ mul_add_at (get_or u i 0) row sum j (omega arith)
    ∙ ap₂ bit_xor (h j l) (ap (product (get_or u i 0)) (row_at (i * 256 + w - i * 256) m i j (omega arith)))
    ∙ ap (λ (n : ℕ). sum_below n (λ i. product (get_or u i 0) (entry m i j))) (sym (add-one i))

-- ---- the search for a pivot

pub pivot_more : (y : ℕ → ℕ) (owners : List ℕ) (k : ℕ) → ((j : ℕ) → j < k → get_or owners j 0 ≡ 0 → y j ≡ 0)
    → (get_or owners k 0 ≡ 0 → y k ≡ 0) → (j : ℕ) → j < k + 1 → get_or owners j 0 ≡ 0 → y j ≡ 0
pivot_more y owners k h e j l o = elim (ℕ_discrete j k) [
  | yes p ↦ ap y p ∙ e (ap (λ (i : ℕ). get_or owners i 0) (sym p) ∙ o)
  | no q ↦ h j (omega arith) o
]

-- ---- the sweep

pub record Swept (w n : ℕ) (y : List ℕ) (k scale : ℕ) (m m' : List ℕ) : Type 0 where
  pub same_length : length m' ≡ length m
  pub rows : (i j : ℕ) → i < n → j < w → entry m' i j ≡ swept_entry (λ j. get_or y j 0) k scale m i j
  pub past : (i j : ℕ) → w ≤ j → j < 256 → entry m' i j ≡ entry m i j
  pub rest : (p : ℕ) → n * 256 ≤ p → get_or m' p 0 ≡ get_or m p 0

-- a list with ys in the place of its elements from a to b
module _ (a b : ℕ) (xs ys : List ℕ) (ha : a ≤ b) (hb : b ≤ length xs) (hy : length ys ≡ b - a) where
  put-before : (p : ℕ) → p < a → get_or (put_mid a (b - a) xs ys) p 0 ≡ get_or xs p 0
  put-before p l = cc (get_or-take a (put_mid a (b - a) xs ys) p 0 l, take_put a (b - a) xs ys (omega arith), get_or-take a xs p 0 l)

  put-after : (p : ℕ) → b ≤ p → get_or (put_mid a (b - a) xs ys) p 0 ≡ get_or xs p 0
  put-after p l = let e : p ≡ b + (p - b) = omega arith in
      cc (get_or-drop b (put_mid a (b - a) xs ys) (p - b) 0, drop_put a b xs ys ha hb hy, get_or-drop b xs (p - b) 0)

  put_inside : (j : ℕ) → j < length ys → get_or (put_mid a (b - a) xs ys) (a + j) 0 ≡ get_or ys j 0
  put_inside j l =
      ap (λ (i : ℕ). get_or (put_mid a (b - a) xs ys) (i + j) 0) (sym (length-take-le a xs (omega arith)))
      ∙ get_or-append-add (take a xs) (ys ++ drop (b - a) (drop a xs)) j 0 ∙ get_or-append ys (drop (b - a) (drop a xs)) 0 j l

pub swept_none : (w : ℕ) (y : List ℕ) (k scale : ℕ) (m : List ℕ) → Swept w 0 y k scale m m
swept_none w y k scale m =
    record { same_length = refl; rows = λ i j l. absurd (not-suc-le-zero l); past = λ i j l h. refl; rest = λ p l. refl }

-- the multiple v of y added to row r, and the row put back
module _ (w r : ℕ) (y : List ℕ) (k scale : ℕ) (m m' : List ℕ) (hw : w ≤ 256) (hr : r < w) (hk : k < w) (hm : length m ≡ 65536)
    (S : Swept w r y k scale m m') (t : Tables) (is : IsTables t) (hs : scale < 256) (hb : entry m' r k < 256)
    (v : ℕ) (hv : v ≡ product_by t.powers t.exponents scale (entry m' r k)) (ys : List ℕ)
    (by : ys ≡ mul_add_by t.powers t.exponents v y (take (r * 256 + w - r * 256) (drop (r * 256) m'))) where
  abbrev from : ℕ
  from = r * 256

  abbrev to : ℕ
  to = r * 256 + w

  abbrev width : ℕ
  width = r * 256 + w - r * 256

  abbrev old : List ℕ
  old = take width (drop from m')

  abbrev new : List ℕ
  new = put_mid from width m' ys

  abbrev swept_at : ℕ → ℕ → ℕ
  swept_at i j = swept_entry (λ j. get_or y j 0) k scale m i j

  multiple : product_by t.powers t.exponents scale (entry m' r k) ≡ product scale (entry m' r k)
  multiple = product_by_tables t is scale (entry m' r k) hs hb

  e : ys ≡ mul_add v y old
  e = by ∙ by_tables t is v (subst (λ (x : ℕ). x < 256) (sym (hv ∙ multiple)) (product_byte scale (entry m' r k) hs hb)) y old

  pub swept_more : Swept w (r + 1) y k scale m (put_mid (r * 256) (r * 256 + w - r * 256) m' ys)
  unfolding swept_entry
  swept_more = record {
    same_length = same_len_mid from width m' ys (ap length e ∙ length-mul_add v y old) ∙ S.same_length;
    rows = λ i j li lj. elim (ℕ_discrete i r) [
      | yes p ↦ ap (λ (i : ℕ). entry new i j) p ∙ here j lj ∙ ap (λ (i : ℕ). swept_at i j) (sym p)
      | no q ↦
          put-before from to m' ys (omega arith) (omega arith) long (i * 256 + j) (omega arith) ∙ S.rows i j (omega arith) lj
    ];
    past = λ i j lw l. elim (dec_lt i (r + 1)) [
      | yes b ↦ elim (ℕ_discrete i r) [
        | yes p ↦ put-after from to m' ys (omega arith) (omega arith) long (i * 256 + j) (omega arith) ∙ S.past i j lw l
        | no q ↦ put-before from to m' ys (omega arith) (omega arith) long (i * 256 + j) (omega arith) ∙ S.past i j lw l
      ]
      | no q ↦ put-after from to m' ys (omega arith) (omega arith) long (i * 256 + j) (omega arith) ∙ S.past i j lw l
    ];
    rest = λ p l. put-after from to m' ys (omega arith) (omega arith) long p (omega arith) ∙ S.rest p (omega arith);
  }
    where
      old_long : length old ≡ width
      old_long = length-take-le width (drop from m') (simp length-drop (omega arith))

      long : length ys ≡ width
      long = ap length e ∙ length-mul_add v y old ∙ old_long

      here : (j : ℕ) → j < w → entry new r j ≡ swept_at r j
      here j l =
          put_inside from to m' ys (omega arith) (omega arith) long j (omega (arith, long))
          ∙ ap (λ (zs : List ℕ). get_or zs j 0) e ∙ mul_add_at v y old j (omega (arith, old_long))
          ∙ ap₂ (λ (x z : ℕ). bit_xor x (product z (get_or y j 0)))
          (get_or-take width (drop from m') j 0 (omega arith) ∙ get_or-drop from m' j 0 ∙ S.rest (from + j) (omega arith))
          (hv ∙ multiple ∙ ap (product scale) (S.rest (from + k) (omega arith)))

pub swept_all : (w : ℕ) (y : List ℕ) (k scale : ℕ) (m m' : List ℕ) → length m ≡ 65536 → Swept w w y k scale m m'
    → m' ≡ swept_within w (λ j. get_or y j 0) k scale m
unfolding swept_within
swept_all w y k scale m m' hm S = list_below_is 65536 _ m' (S.same_length ∙ hm) (λ p l. at p (p / 256) (p % 256) (omega arith) (omega arith))
  where
    at : (p i j : ℕ) → p ≡ i * 256 + j → j < 256
        → get_or m' p 0 ≡ cond (ltb i w && ltb j w) (swept_entry (λ j. get_or y j 0) k scale m i j) (get_or m p 0)
    at p i j e l = elim (dec_lt i w) [
      | yes li ↦ elim (dec_lt j w) [
        | yes lj ↦ ap (λ (q : ℕ). get_or m' q 0) e ∙ S.rows i j li lj ∙ sym (simp (lt-ltb i w li, lt-ltb j w lj) refl)
        | no q ↦
            ap (λ (q : ℕ). get_or m' q 0) e ∙ S.past i j (omega arith) l ∙ ap (λ (q : ℕ). get_or m q 0) (sym e)
            ∙ sym (simp (le-ltb j w (omega arith), and-false) refl)
      ]
      | no q ↦ S.rest p (omega arith) ∙ sym (simp (le-ltb i w (omega arith)) refl)
    ]

-- ---- the weights

pub weight_more : (m owners weights : List ℕ) (f k : ℕ) → length weights ≡ 256
    → ((v : ℕ) → v < 256 → get_or weights v 0 ≡ sum_below k (λ k. cond (eqb (get_or owners k 0) v) (entry m f k) 0))
    → (o : ℕ) → o ≡ get_or owners k 0
    → (v : ℕ) → v < 256 → get_or (set weights o (bit_xor (get_or weights o 0) (entry m f k))) v 0
    ≡ sum_below (k + 1) (λ k. cond (eqb (get_or owners k 0) v) (entry m f k) 0)
unfolding sum_below
weight_more m owners weights f k e h o q v l = elim (ℕ_discrete v o) [
  | yes p ↦
      ap (λ (i : ℕ). get_or (set weights i (bit_xor (get_or weights i 0) (entry m f k))) v 0) (sym p)
      ∙ get_or-set_same weights v (bit_xor (get_or weights v 0) (entry m f k)) 0 (omega arith)
      ∙ step (entry m f k) (ap (λ (b : Bool). cond b (entry m f k) 0) (eq-eqb (get_or owners k 0) v (sym q ∙ sym p)))
  | no p ↦
      get_or-set_other weights o v (bit_xor (get_or weights o 0) (entry m f k)) 0 p ∙ sym (xor_zero_r (get_or weights v 0))
      ∙ step 0 (ap (λ (b : Bool). cond b (entry m f k) 0) (ne_eqb (get_or owners k 0) v (λ z. p (sym z ∙ sym q))))
]
  where
    step : (x : ℕ) → cond (eqb (get_or owners k 0) v) (entry m f k) 0 ≡ x
        → bit_xor (get_or weights v 0) x ≡ sum_below (k + 1) (λ k. cond (eqb (get_or owners k 0) v) (entry m f k) 0)
    step x z = simp (h, z, add-one)
