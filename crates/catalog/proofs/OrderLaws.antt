-- Rows put into their places one by one, in whatever order they come.
--
--   sort_rows rs      the rows rs, each put into its place
--   Other v r        the row r is not that of volume v
--   Distinct rs      no two of the rows rs have one number
--   sort_perm, sort_ascend, sort_same     the rows are those, they ascend, and the order in which they came does not matter
--   sort_remove      a row taken out is as if it had not come
--   holds-none, none_held     whether a row is there, as a test
-- Assumes nothing.
use mathlib.Core.Path.{◌≡◌, refl, sym, ap, ap₂, ◌∙◌, subst}
use mathlib.Core.Bool.{Bool, true, false, cond, not, ◌||◌, true≢false}
use mathlib.Core.List.Permᴰ
use mathlib.Core.List.{List, [], ◌∷◌, map, Permᴰ}
use Prim.Native.Nat.{ℕ, ◌≤◌, ◌<◌}
use native.Mathlib.Decide.{dec_lt}
use native.Mathlib.Omega.{arith}
use lib.Dec.{ltb, eqb}
use borrow.Author.Tests.{ltb-true, ltb-false, lt-ltb, le-ltb, eqb-false, ne_eqb}
use Rattle.cut_lists.specs.All.{All, all_none, all_more}
use Rattle.cut_lists.proofs.AllLaws.{all_map}
use Rattle.entries.proofs.KeepLaws.{all_keep}
use Rattle.catalog.specs.Rows.{number_of}
use Rattle.catalog.specs.Catalog.{holds, insert_row, remove_row}
use Rattle.catalog.proofs.ChangeLaws.{all_insert}
use Rattle.catalog.specs.Runs.{Ascend, ascend_none, ascend_more}

abbrev pub sort_rows : List (List ℕ) → List (List ℕ)
sort_rows [] = []
sort_rows (r ∷ rs) = insert_row r (sort_rows rs)

abbrev pub Other : ℕ → List ℕ → Type 0
Other v r = number_of r ≡ v → ⊥

pub data Distinct : List (List ℕ) → Type 0 where
  distinct_none : Distinct []
  distinct_more : {r : List ℕ} {rs : List (List ℕ)} → All (Other (number_of r)) rs → Distinct rs → Distinct (r ∷ rs)

-- ---- permutations

pub all_perm : {P : List ℕ → Type 0} {xs ys : List (List ℕ)} → Permᴰ xs ys → All P xs → All P ys
all_perm Permᴰ.nil a = a
all_perm {P} (Permᴰ.cons e p) (all_more x a) = all_more (subst P e x) (all_perm p a)
all_perm {P} (Permᴰ.swap e f) (all_more x (all_more y a)) = all_more (subst P f y) (all_more (subst P e x) a)
all_perm (Permᴰ.trans p q) a = all_perm q (all_perm p a)

pub distinct_perm : {xs ys : List (List ℕ)} → Permᴰ xs ys → Distinct xs → Distinct ys
distinct_perm Permᴰ.nil d = d
distinct_perm (Permᴰ.cons {a} {b} {l₁} {l₂} e p) (distinct_more o d) =
    distinct_more (subst (λ (x : List ℕ). All (Other (number_of x)) l₂) e (all_perm p o)) (distinct_perm p d)
distinct_perm (Permᴰ.swap {a} {b} {a'} {b'} {l} e f) (distinct_more (all_more n o) (distinct_more m d)) =
    let other : Other (number_of a') b' = λ z. n (ap (λ x. number_of x) f ∙ sym z ∙ sym (ap (λ x. number_of x) e)) in
    distinct_more (all_more other (subst (λ (x : List ℕ). All (Other (number_of x)) l) f m))
    (distinct_more (subst (λ (x : List ℕ). All (Other (number_of x)) l) e o) d)
distinct_perm (Permᴰ.trans p q) d = distinct_perm q (distinct_perm p d)

pub map_perm : (g : List ℕ → List ℕ) {xs ys : List (List ℕ)} → Permᴰ xs ys → Permᴰ (map g xs) (map g ys)
map_perm g Permᴰ.nil = Permᴰ.nil
map_perm g (Permᴰ.cons e p) = Permᴰ.cons (ap g e) (map_perm g p)
map_perm g (Permᴰ.swap e f) = Permᴰ.swap (ap g e) (ap g f)
map_perm g (Permᴰ.trans p q) = Permᴰ.trans (map_perm g p) (map_perm g q)

-- ---- a row put into its place

insert_perm : (r : List ℕ) (rs : List (List ℕ)) → Permᴰ (insert_row r rs) (r ∷ rs)
unfolding insert_row
insert_perm r [] = Permᴰ.refl (r ∷ [])
insert_perm r (x ∷ rs) = by (ltb (number_of x) (number_of r)) (insert_perm r rs)
  where
    by : (t : Bool) → Permᴰ (insert_row r rs) (r ∷ rs) → Permᴰ (cond t (x ∷ insert_row r rs) (r ∷ x ∷ rs)) (r ∷ x ∷ rs)
    by true p = Permᴰ.trans (Permᴰ.cons refl p) (Permᴰ.swap refl refl)
    by false p = Permᴰ.refl (r ∷ x ∷ rs)

pub sort_perm : (rs : List (List ℕ)) → Permᴰ (sort_rows rs) rs
sort_perm [] = Permᴰ.nil
sort_perm (r ∷ rs) = Permᴰ.trans (insert_perm r (sort_rows rs)) (Permᴰ.cons refl (sort_perm rs))

pub insert_ascend : {rs : List (List ℕ)} (r : List ℕ) → Ascend rs → All (Other (number_of r)) rs → Ascend (insert_row r rs)
unfolding insert_row
insert_ascend r ascend_none o = ascend_more all_none ascend_none
insert_ascend r (ascend_more {r = x} {rs = xs} a d) (all_more n o) = by (ltb (number_of x) (number_of r)) refl (insert_ascend r d o)
  where
    by : (t : Bool) → t ≡ ltb (number_of x) (number_of r) → Ascend (insert_row r xs) → Ascend (cond t (x ∷ insert_row r xs) (r ∷ x ∷ xs))
    by true e m = ascend_more (all_insert r (ltb-true _ _ (sym e)) a) m
    by false e m = let low : number_of r ≤ number_of x = ltb-false _ _ (sym e) in
        let less : number_of r < number_of x = omega (arith, n) in
        ascend_more (all_more less (all_map (λ y h. omega arith) a)) (ascend_more a d)

pub sort_ascend : {rs : List (List ℕ)} → Distinct rs → Ascend (sort_rows rs)
sort_ascend distinct_none = ascend_none
sort_ascend (distinct_more {r} {rs} o d) = insert_ascend r (sort_ascend d) (all_perm (Permᴰ.symm (sort_perm rs)) o)

-- ---- two rows, in either order

pub insert_front : (r : List ℕ) {rs : List (List ℕ)} → All (λ x. number_of r ≤ number_of x) rs → insert_row r rs ≡ r ∷ rs
unfolding insert_row
insert_front r all_none = refl
insert_front r (all_more h a) = simp (le-ltb _ _ h)

insert_past : (r x : List ℕ) (rs : List (List ℕ)) → number_of x < number_of r → insert_row r (x ∷ rs) ≡ x ∷ insert_row r rs
unfolding insert_row
insert_past r x rs h = simp (lt-ltb _ _ h)

insert_here : (r x : List ℕ) (rs : List (List ℕ)) → number_of r ≤ number_of x → insert_row r (x ∷ rs) ≡ r ∷ x ∷ rs
unfolding insert_row
insert_here r x rs h = simp (le-ltb _ _ h)

-- the lower one stands in front of the other
insert_lower : (a b : List ℕ) (rs : List (List ℕ)) → number_of a < number_of b → insert_row a (insert_row b rs) ≡ insert_row b (insert_row a rs)
unfolding insert_row
insert_lower a b [] h = insert_here a b [] (omega arith) ∙ sym (insert_past b a [] h)
insert_lower a b (x ∷ rs) h = by (ltb (number_of x) (number_of a)) refl (insert_lower a b rs h)
  where
    by : (t : Bool) → t ≡ ltb (number_of x) (number_of a) → insert_row a (insert_row b rs) ≡ insert_row b (insert_row a rs)
        → insert_row a (insert_row b (x ∷ rs)) ≡ insert_row b (insert_row a (x ∷ rs))
    by true e m = let low : number_of x < number_of a = ltb-true _ _ (sym e) in
        ap (insert_row a) (insert_past b x rs (omega arith)) ∙ insert_past a x (insert_row b rs) low ∙ ap (λ (l : List (List ℕ)). x ∷ l) m
        ∙ sym (ap (insert_row b) (insert_past a x rs low) ∙ insert_past b x (insert_row a rs) (omega arith))
    by false e m = let high : number_of a ≤ number_of x = ltb-false _ _ (sym e) in
        front (ltb (number_of x) (number_of b)) high ∙ sym (ap (insert_row b) (insert_here a x rs high) ∙ insert_past b a (x ∷ rs) h)
      where
        front : (t : Bool) → number_of a ≤ number_of x
            → insert_row a (cond t (x ∷ insert_row b rs) (b ∷ x ∷ rs)) ≡ a ∷ cond t (x ∷ insert_row b rs) (b ∷ x ∷ rs)
        front true k = insert_here a x (insert_row b rs) k
        front false k = insert_here a b (x ∷ rs) (omega arith)

insert_two : (a b : List ℕ) (rs : List (List ℕ)) → Other (number_of a) b → insert_row a (insert_row b rs) ≡ insert_row b (insert_row a rs)
insert_two a b rs o = by (dec_lt (number_of a) (number_of b))
  where
    by : Dec (number_of a < number_of b) → insert_row a (insert_row b rs) ≡ insert_row b (insert_row a rs)
    by (yes h) = insert_lower a b rs h
    by (no h) = let less : number_of b < number_of a = omega (arith, o) in sym (insert_lower b a rs less)

pub sort_same : {xs ys : List (List ℕ)} → Permᴰ xs ys → Distinct xs → sort_rows xs ≡ sort_rows ys
sort_same Permᴰ.nil d = refl
sort_same (Permᴰ.cons e p) (distinct_more o d) = ap₂ insert_row e (sort_same p d)
sort_same (Permᴰ.swap {a} {b} {l = l} e f) (distinct_more (all_more n o) d) =
    insert_two a b (sort_rows l) n ∙ ap₂ (λ (x y : List ℕ). insert_row x (insert_row y (sort_rows l))) f e
sort_same (Permᴰ.trans p q) d = sort_same p d ∙ sort_same q (distinct_perm p d)

-- ---- a row taken out

pub distinct_remove : (v : ℕ) {rs : List (List ℕ)} → Distinct rs → Distinct (remove_row v rs)
distinct_remove v distinct_none = distinct_none
distinct_remove v (distinct_more {r} {rs} o d) = by (not (eqb (number_of r) v)) (distinct_remove v d)
  where
    by : (t : Bool) → Distinct (remove_row v rs) → Distinct (cond t (r ∷ remove_row v rs) (remove_row v rs))
    by true m = distinct_more (all_keep _ o) m
    by false m = m

-- the row r taken out of its place, or another one of where it is put into its own
remove-insert : (v : ℕ) (r : List ℕ) {rs : List (List ℕ)} → Ascend rs
    → remove_row v (insert_row r rs) ≡ cond (not (eqb (number_of r) v)) (insert_row r (remove_row v rs)) (remove_row v rs)
unfolding insert_row
remove-insert v r ascend_none = by (not (eqb (number_of r) v))
  where
    by : (t : Bool) → cond t (r ∷ []) [] ≡ cond t (insert_row r []) []
    by true = refl
    by false = refl
remove-insert v r (ascend_more {r = x} {rs = xs} a d) = by (ltb (number_of x) (number_of r)) refl (remove-insert v r d)
  where
    by : (t : Bool) → t ≡ ltb (number_of x) (number_of r)
        → remove_row v (insert_row r xs) ≡ cond (not (eqb (number_of r) v)) (insert_row r (remove_row v xs)) (remove_row v xs)
        → remove_row v (cond t (x ∷ insert_row r xs) (r ∷ x ∷ xs))
        ≡ cond (not (eqb (number_of r) v)) (insert_row r (remove_row v (x ∷ xs))) (remove_row v (x ∷ xs))
    by true e m = ap (λ (l : List (List ℕ)). cond (not (eqb (number_of x) v)) (x ∷ l) l) m ∙ both (not (eqb (number_of r) v)) (not (eqb (number_of x) v))
      where
        both : (p q : Bool)
            → cond q (x ∷ cond p (insert_row r (remove_row v xs)) (remove_row v xs)) (cond p (insert_row r (remove_row v xs)) (remove_row v xs))
            ≡ cond p (insert_row r (cond q (x ∷ remove_row v xs) (remove_row v xs))) (cond q (x ∷ remove_row v xs) (remove_row v xs))
        both true true = sym (insert_past r x (remove_row v xs) (ltb-true _ _ (sym e)))
        both true false = refl
        both false true = refl
        both false false = refl
    by false e m = let low : number_of r ≤ number_of x = ltb-false _ _ (sym e) in
        let others : All (λ y. number_of r ≤ number_of y) (x ∷ xs) = all_more low (all_map (λ y h. omega arith) a) in
        here (not (eqb (number_of r) v)) (all_keep (λ y. not (eqb (number_of y) v)) others)
      where
        here : (p : Bool) → All (λ y. number_of r ≤ number_of y) (remove_row v (x ∷ xs))
            → cond p (r ∷ remove_row v (x ∷ xs)) (remove_row v (x ∷ xs)) ≡ cond p (insert_row r (remove_row v (x ∷ xs))) (remove_row v (x ∷ xs))
        here true k = sym (insert_front r k)
        here false k = refl

pub sort_remove : (v : ℕ) {rs : List (List ℕ)} → Distinct rs → remove_row v (sort_rows rs) ≡ sort_rows (remove_row v rs)
sort_remove v distinct_none = refl
sort_remove v (distinct_more {r} {rs} o d) = remove-insert v r (sort_ascend d) ∙ by (not (eqb (number_of r) v)) (sort_remove v d)
  where
    by : (t : Bool) → remove_row v (sort_rows rs) ≡ sort_rows (remove_row v rs)
        → cond t (insert_row r (remove_row v (sort_rows rs))) (remove_row v (sort_rows rs)) ≡ sort_rows (cond t (r ∷ remove_row v rs) (remove_row v rs))
    by true m = ap (insert_row r) m
    by false m = m

-- ---- whether a row is there

pub holds-none : (v : ℕ) {rs : List (List ℕ)} → All (Other v) rs → holds v rs ≡ false
unfolding holds
holds-none v all_none = refl
holds-none v (all_more o a) = simp (ne_eqb _ _ o) (holds-none v a)

pub none_held : (v : ℕ) (rs : List (List ℕ)) → holds v rs ≡ false → All (Other v) rs
unfolding holds
none_held v [] e = all_none
none_held v (r ∷ rs) e = by (eqb (number_of r) v) refl e (none_held v rs)
  where
    by : (t : Bool) → t ≡ eqb (number_of r) v → (t || holds v rs) ≡ false → (holds v rs ≡ false → All (Other v) rs) → All (Other v) (r ∷ rs)
    by true z f m = absurd (true≢false f)
    by false z f m = all_more (eqb-false _ _ (sym z)) (m f)
