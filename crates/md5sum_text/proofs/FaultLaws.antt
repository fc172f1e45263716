-- The earliest faulty line of a text, in the document's words.
--
--   any_found            one of a list for which a test passes
--   fits_all, all_fit    an entry fits a line where the test says so, and the other way round
--   names_it, named_it   the same of a line that names an entry
--   listed, is_listed_lem    the same of a line whose name is listed
--   good_again           in good lines no listed name has another sum
--   again_good           and lines are good before the first that has
--   earliest_faulty, none_faulty     the claims
-- Assumes nothing.
use mathlib.Core.Path.{◌≡◌, refl, sym, ap, ap₂, ◌∙◌, subst}
use mathlib.Core.Bool.{Bool, true, false, not, ◌&&◌, ◌||◌, true≢false}
use mathlib.Core.Logic.{⊎_elim}
use mathlib.Core.List.{List, [], ◌∷◌, ◌++◌, append_assoc, append-nil, flatten}
use Prim.Native.Nat.{ℕ, zero, suc, ◌+◌, ◌≤◌, ◌<◌}
use native.Mathlib.Nat.{eq-or-lt_of_le}
use native.Mathlib.Omega.{arith}
use borrow.Author.Tests.{leb-true, le-leb}
use lib.Dec.{leb}
use lib.ListN.{length, take, drop, get_or, length-append, take-append-drop, get_or-append}
use lib.Seq.{get_or-take, length-take-le, drop-cons, get_or-append_seam, take-append-le, take-append_seam, take_all}
use Rattle.refusals.specs.declared.Refusal.{Refusal}
use Rattle.computed_tests.proofs.Lists.{IsFirst, first_is, first_only}
use Rattle.computed_tests.proofs.Tests.{and_both}
use Rattle.cut_lists.specs.All.{All, all_none, all_more}
use Rattle.cut_lists.specs.Pieces.{Cut}
use Rattle.cut_lists.proofs.AllLaws.{all_take, all_at}
use Rattle.cut_lists.proofs.CutLaws.{cut_joins, cut_stop}
use Rattle.lent_bytes.specs.Equal.{equal}
use Rattle.lent_bytes.proofs.EqualLaws.{equal-same, equal_true}
use Rattle.lent_bytes.proofs.PartsInRow.{flatten-append}
use Rattle.text.specs.TextLines.{line_length}
use Rattle.md5sum_text.specs.Lines.{is_shaped, shaped_length, lines_of, sum_in, name_in}
use Rattle.md5sum_text.specs.Names.{unit_fits, units_fit, text_of, is_fitting, is_named}
use Rattle.md5sum_text.specs.Import.{any, is_listed, has_other, is_again, again_in, shape_refusal, text_refusal}
use Rattle.md5sum_text.specs.Claim.{LineOf, Line, Names, Listed, Good, Faulty, another_shape, another_sum, FirstFault}
use Rattle.md5sum_text.specs.Claim.{EarliestFaulty, NoneFaulty}
use Rattle.md5sum_text.proofs.CallLaws.{text_again, text_rest, shape_some, shape_none}
use Rattle.md5sum_text.proofs.ShapeLaws.{line_length_lem, in_sum, in_name, shape, each_line, joined, lines_joined, rest_stops}
use Rattle.md5sum_text.proofs.SumLaws.{any_at, any_none, unlike, below_or_not}

any_found : {A : Type 0} (t : A → Bool) (d : A) (xs : List A) → any t xs ≡ true → (k : ℕ) × (k < length xs) × (t (get_or xs k d) ≡ true)
unfolding any
any_found t d [] e = absurd (true≢false (sym e))
any_found t d (x ∷ xs) e = by (t x) refl e (λ r. any_found t d xs r)
  where
    by : (b : Bool) → t x ≡ b → (b || any t xs) ≡ true → (any t xs ≡ true → (k : ℕ) × (k < length xs) × (t (get_or xs k d) ≡ true))
        → (k : ℕ) × (k < suc (length xs)) × (t (get_or (x ∷ xs) k d) ≡ true)
    by true z e r = (0, omega arith, z)
    by false z e r = let f = r e in (suc f.0, omega (arith, f.1), f.2)

-- ---- names

pub fits_all : (us : List ℕ) → units_fit us ≡ true → All (λ u. (32 ≤ u) × (u ≤ 126)) us
fits_all [] e = all_none
fits_all (u ∷ us) e = let b = and_both (unit_fits u) (units_fit us) e in
    let h = and_both (leb 32 u) (leb u 126) b.0 in
    all_more (leb-true 32 u h.0, leb-true u 126 h.1) (fits_all us b.1)

pub all_fit : {us : List ℕ} → All (λ u. (32 ≤ u) × (u ≤ 126)) us → units_fit us ≡ true
all_fit all_none = refl
all_fit (all_more {x} h hs) = simp (le-leb 32 x h.0, le-leb x 126 h.1, all_fit hs)

module _ {sum name l : List ℕ} (z : LineOf sum name l) where
  pub names_it : (e : List ℕ) → is_named l e ≡ true → Names name e
  unfolding is_named
  names_it e n = let b = and_both (is_fitting e) (equal (text_of e) (name_in l)) n in
      (fits_all (text_of e) b.0, equal_true (text_of e) (name_in l) b.1 ∙ in_name z)

  pub named_it : (e : List ℕ) → Names name e → is_named l e ≡ true
  unfolding is_named
  named_it e n = simp (all_fit n.0, equal-same (n.1 ∙ sym (in_name z)))

  pub listed : (es : List (List ℕ)) → is_listed es l ≡ true → Listed es name
  listed es h = let f = any_found (λ e. is_named l e) [] es h in (f.0, f.1, names_it _ f.2)

  is_listed_lem : (es : List (List ℕ)) → Listed es name → is_listed es l ≡ true
  is_listed_lem es h = any_at (λ e. is_named l e) [] es h.0 h.1 (named_it _ h.2)

-- ---- good lines

module _ (es ls : List (List ℕ)) where
  good_again : Good es ls → (k : ℕ) → k < length ls → is_again es ls k ≡ false
  unfolding is_again
  good_again good k h = by (is_listed es (get_or ls k [])) refl
    where
      here : Line (get_or ls k [])
      here = all_at [] good.lines k h

      by : (b : Bool) → is_listed es (get_or ls k []) ≡ b → (b && has_other (take k ls) (get_or ls k [])) ≡ false
      by false n = refl
      by true n = any_none _ [] (take k ls) (λ i l. pair i (omega (arith, length-take-le k ls (omega arith))))
        where
          pair : (i : ℕ) → i < k
              → (equal (name_in (get_or (take k ls) i [])) (name_in (get_or ls k [])) && not (equal (sum_in (get_or (take k ls) i [])) (sum_in (get_or ls k [])))) ≡ false
          pair i l = rw (get_or-take k ls i [] l) (test (equal (name_in (get_or ls i [])) (name_in (get_or ls k []))) refl)
            where
              there : Line (get_or ls i [])
              there = all_at [] good.lines i (omega arith)

              test : (b : Bool) → equal (name_in (get_or ls i [])) (name_in (get_or ls k [])) ≡ b
                  → (b && not (equal (sum_in (get_or ls i [])) (sum_in (get_or ls k [])))) ≡ false
              test false e = refl
              test true e = let same : there.name ≡ here.name = sym (in_name there.line_of) ∙ equal_true _ _ e ∙ in_name here.line_of in
                  let z : LineOf there.sum here.name (get_or ls i []) = subst (λ (n : List ℕ). LineOf there.sum n (get_or ls i [])) same there.line_of in
                  let sums = good.agree i k (omega arith) h z here.line_of (listed here.line_of es n) in
                  ap not (equal-same (in_sum there.line_of ∙ sums ∙ sym (in_sum here.line_of)))

  -- before line m no listed name has another sum
  module _ (lines : All Line ls) (m : ℕ) (most : m ≤ length ls) (none : (k : ℕ) → k < m → is_again es ls k ≡ false) where
    later : (i j : ℕ) {sum sum' name : List ℕ} → i < j → j < m → LineOf sum name (get_or ls i []) → LineOf sum' name (get_or ls j []) → Listed es name
        → sum ≡ sum'
    unfolding is_again
    later i j {sum} {sum'} l h y z n = by (equal sum sum') refl
      where
        by : (b : Bool) → equal sum sum' ≡ b → sum ≡ sum'
        by true e = equal_true sum sum' e
        by false e = let names : equal (name_in (get_or ls i [])) (name_in (get_or ls j [])) ≡ true = equal-same (in_name y ∙ sym (in_name z)) in
            let sums : equal (sum_in (get_or ls i [])) (sum_in (get_or ls j [])) ≡ false = ap₂ equal (in_sum y) (in_sum z) ∙ e in
            let other : has_other (take j ls) (get_or ls j []) ≡ true = any_at _ [] (take j ls) i (omega (arith, length-take-le j ls (omega arith)))
            (rw (get_or-take j ls i [] l) (simp (names, sums))) in
            let both : is_again es ls j ≡ true = simp (is_listed_lem z es n, other) in
            absurd (true≢false (sym both ∙ none j h))

    agree_at : (i j : ℕ) {sum sum' name : List ℕ} → i < m → j < m → LineOf sum name (get_or ls i []) → LineOf sum' name (get_or ls j []) → Listed es name
        → sum ≡ sum'
    agree_at i j {sum} {sum'} {name} h k y z n =
        ⊎_elim (λ l. later i j l k y z n) (λ g. ⊎_elim same (λ l. sym (later j i l h z y n)) (eq-or-lt_of_le g)) (below_or_not i j)
      where
        same : j ≡ i → sum ≡ sum'
        same e = sym (in_sum y) ∙ ap (λ (k : ℕ). sum_in (get_or ls k [])) (sym e) ∙ in_sum z

    pub again_good : Good es (take m ls)
    again_good = let size : length (take m ls) ≡ m = length-take-le m ls most in
        record {
          lines = all_take m lines;
          agree =
              λ i j h k y z n.
              agree_at i j (omega arith) (omega arith) (rw (get_or-take m ls i [] (omega arith)) at y) (rw (get_or-take m ls j [] (omega arith)) at z) n;
        }

-- ---- the claims

refusal_is : (r : Refusal) {n p : ℕ} → r.number ≡ n → r.place ≡ p → record { number = n; place = p } ≡ r
refusal_is r e f = ap₂ (λ (n p : ℕ). record { number = n; place = p }) (sym e) (sym f)

-- the line at k, with what stands before it and after it
split_at : (ls : List (List ℕ)) (k : ℕ) (t : List ℕ) → k < length ls
    → flatten (take k ls) ++ (get_or ls k [] ++ (flatten (drop (suc k) ls) ++ t)) ≡ flatten ls ++ t
unfolding flatten
split_at ls k t h = let parts = sym (flatten-append (take k ls) (drop k ls)) ∙ ap flatten (take-append-drop k ls) in
    ap (λ (u : List ℕ). flatten (take k ls) ++ u) (sym (append_assoc (get_or ls k []) (flatten (drop (suc k) ls)) t))
    ∙ ap (λ (u : List (List ℕ)). flatten (take k ls) ++ (flatten u ++ t)) (sym (drop-cons ls k [] h))
    ∙ sym (append_assoc (flatten (take k ls)) (flatten (drop k ls)) t) ∙ ap (λ (u : List ℕ). u ++ t) parts

line_some : {l : List ℕ} → Line l → 0 < length l
line_some {l} z = omega (arith, line_length_lem z.line_of)

module _ (es : List (List ℕ)) (s : List ℕ) where
  abbrev ls : List (List ℕ)
  ls = (lines_of s).pieces

  abbrev rest : List ℕ
  rest = (lines_of s).rest

  first : IsFirst (length ls) (is_again es ls) (again_in es ls)
  unfolding again_in
  first = first_is (length ls) (is_again es ls)

  -- a line with a listed name again
  again_fault : again_in es ls < length ls → (r : Refusal) → text_refusal es (lines_of s) ≡ r → FirstFault es s r
  unfolding is_again
  again_fault h r e = let k : ℕ = again_in es ls in
      let is : record { number = 23; place = k + 1 } ≡ r = sym (text_again es (lines_of s) refl h) ∙ e in
      let both = and_both (is_listed es (get_or ls k [])) (has_other (take k ls) (get_or ls k [])) (first.found h) in
      let here : Line (get_or ls k []) = all_at [] (each_line s) k h in
      let size : length (take k ls) ≡ k = length-take-le k ls (omega arith) in
      let o = any_found (λ j. equal (name_in j) (name_in (get_or ls k [])) && not (equal (sum_in j) (sum_in (get_or ls k [])))) [] (take k ls) both.1 in
      let i : ℕ = o.0 in
      let there : Line (get_or (take k ls) i []) = all_at [] (all_take k (each_line s)) i o.1 in
      let unlike = and_both (equal (name_in (get_or (take k ls) i [])) (name_in (get_or ls k []))) _ o.2 in
      let name : there.name ≡ here.name = sym (in_name there.line_of) ∙ equal_true _ _ unlike.0 ∙ in_name here.line_of in
      let z : LineOf there.sum here.name (get_or (take k ls) i [])
      = subst (λ (n : List ℕ). LineOf there.sum n (get_or (take k ls) i [])) name there.line_of in
      let number : 23 ≡ r.number = ap (λ (r : Refusal). r.number) is in
      let other : there.sum ≡ here.sum → ⊥ = λ q.
      true≢false (sym unlike.1 ∙ ap not (equal-same (in_sum there.line_of ∙ q ∙ sym (in_sum here.line_of)))) in
      let after : List ℕ = flatten (drop (suc k) ls) ++ rest in
      let fault : Faulty es (take k ls) (get_or ls k [] ++ after) 23
      = another_sum after refl here.line_of (listed here.line_of es both.0) i o.1 z other in
      record {
        earlier = take k ls;
        good = again_good es ls (each_line s) k (omega arith) first.before;
        rest = get_or ls k [] ++ after;
        joined = split_at ls k rest h ∙ cut_joins shaped_length s;
        some = omega (arith, length-append (get_or ls k []) after, line_some here);
        faulty = subst (Faulty es (take k ls) (get_or ls k [] ++ after)) number fault;
        place_is = sym (ap (λ (r : Refusal). r.place) is) ∙ ap (λ (n : ℕ). n + 1) (sym size);
      }

  whole_good : length ls ≤ again_in es ls → Good es ls
  whole_good h = let all = again_good es ls (each_line s) (length ls) (omega arith) (λ k l. first.before k (omega arith)) in
      subst (Good es) (take_all (length ls) ls (omega arith)) all

  -- a line of another shape, or unended
  shape_fault : length ls ≤ again_in es ls → 0 < length rest → (r : Refusal) → text_refusal es (lines_of s) ≡ r → FirstFault es s r
  shape_fault h some r e =
      let is : record { number = 22; place = length ls + 1 } ≡ r
      = sym (text_rest es (lines_of s) refl h ∙ shape_some (length ls) rest some) ∙ e in
      let fault : Faulty es ls rest 22 = another_shape (λ l t q z.
      let long = shape.0 l t z in
      let stop = ap shaped_length (sym q) ∙ rest_stops s some in
      omega (arith, line_some z)) in
      record {
        earlier = ls;
        good = whole_good h;
        rest = rest;
        joined = cut_joins shaped_length s;
        some = some;
        faulty = subst (Faulty es ls rest) (ap (λ (r : Refusal). r.number) is) fault;
        place_is = sym (ap (λ (r : Refusal). r.place) is);
      }

  fault_from : (r : Refusal) → text_refusal es (lines_of s) ≡ r → (r.number ≡ 0 → ⊥) → FirstFault es s r
  fault_from r e n =
      ⊎_elim (λ h. again_fault h r e)
      (λ h. ⊎_elim (λ some. shape_fault h some r e)
      (λ over. absurd (n (ap (λ (r : Refusal). r.number) (sym e ∙ text_rest es (lines_of s) refl h ∙ shape_none (length ls) rest (omega arith))))) (below_or_not 0 (length rest)))
      (below_or_not (again_in es ls) (length ls))

-- good lines, and what follows them
module _ (es earlier : List (List ℕ)) (good : Good es earlier) where
  none_before : (more : List (List ℕ)) (k : ℕ) → k < length earlier → is_again es (earlier ++ more) k ≡ false
  unfolding is_again
  none_before more k h = rw (get_or-append earlier more [] k h, take-append-le k earlier more (omega arith)) (good_again es earlier good k h)

  no_again : length earlier ≡ again_in es earlier
  unfolding again_in
  no_again =
      first_only (length earlier) (is_again es earlier) (length earlier)
      (record { within = omega arith; found = λ h. absurd (omega arith); before = good_again es earlier good })

  -- what follows begins with no line
  pub stopped : (t : List ℕ) → shaped_length t ≡ 0 → text_refusal es (lines_of (flatten earlier ++ t)) ≡ shape_refusal (length earlier) t
  stopped t e = let c : Cut = record { pieces = earlier; rest = t } in
      let cut : lines_of (flatten earlier ++ t) ≡ c = lines_joined t good.lines ∙ ap (joined earlier) (cut_stop shaped_length t e)
      ∙ ap (λ (ls : List (List ℕ)). record { pieces = ls; rest = t }) (append-nil earlier) in
      ap (text_refusal es) cut ∙ text_rest es c no_again (omega arith)

  -- what follows begins with a listed name again
  module _ {sum sum' name l : List ℕ} (t : List ℕ) (z : LineOf sum name l) (n : Listed es name) (k : ℕ) (h : k < length earlier)
      (y : LineOf sum' name (get_or earlier k [])) (other : sum' ≡ sum → ⊥) where
    abbrev ls' : List (List ℕ)
    ls' = earlier ++ (l ∷ (lines_of t).pieces)

    line : Line l
    line = record { sum = sum; name = name; line_of = z }

    there : is_again es ls' (length earlier) ≡ true
    unfolding is_again
    there = let names : equal (name_in (get_or earlier k [])) (name_in l) ≡ true = equal-same (in_name y ∙ sym (in_name z)) in
        let sums : equal (sum_in (get_or earlier k [])) (sum_in l) ≡ false = unlike (λ e. other (sym (in_sum y) ∙ e ∙ in_sum z)) in
        let has : has_other earlier l ≡ true = any_at _ [] earlier k h (simp (names, sums)) in
        rw (get_or-append_seam earlier l (lines_of t).pieces [], take-append_seam earlier (l ∷ (lines_of t).pieces)) (simp (is_listed_lem z es n, has))

    again_there : length earlier ≡ again_in es ls'
    unfolding again_in
    again_there =
        first_only (length ls') (is_again es ls') (length earlier)
        (record { within = omega (arith, length-append earlier (l ∷ (lines_of t).pieces)); found = λ g. there; before = none_before (l ∷ (lines_of t).pieces) })

    listed_again : text_refusal es (lines_of (flatten earlier ++ (l ++ t))) ≡ record { number = 23; place = length earlier + 1 }
    unfolding flatten
    listed_again = let c : Cut = record { pieces = ls'; rest = (lines_of t).rest } in
        let one : lines_of (l ++ t) ≡ joined (l ∷ []) (lines_of t)
        = ap (λ (u : List ℕ). lines_of (u ++ t)) (sym (append-nil l)) ∙ lines_joined t (all_more line all_none) in
        let cut : lines_of (flatten earlier ++ (l ++ t)) ≡ c = lines_joined (l ++ t) good.lines ∙ ap (joined earlier) one in
        ap (text_refusal es) cut ∙ text_again es c again_there (omega (arith, length-append earlier (l ∷ (lines_of t).pieces)))

no_line_length : (t : List ℕ) → ((l u : List ℕ) → t ≡ l ++ u → Line l → ⊥) → shaped_length t ≡ 0
no_line_length t none = by (shaped_length t) refl
  where
    by : (n : ℕ) → n ≡ shaped_length t → n ≡ 0
    by zero e = refl
    by (suc n) e = absurd (none (take (shaped_length t) t) (drop (shaped_length t) t) (sym (take-append-drop (shaped_length t) t)) (shape.1 t (omega arith)))

fault_to : (es : List (List ℕ)) (s : List ℕ) (r : Refusal) → FirstFault es s r → text_refusal es (lines_of s) ≡ r
fault_to es s r f = ap (λ (t : List ℕ). text_refusal es (lines_of t)) (sym f.joined) ∙ by refl f.faulty
  where
    by : {n : ℕ} → r.number ≡ n → Faulty es f.earlier f.rest n → text_refusal es (lines_of (flatten f.earlier ++ f.rest)) ≡ r
    by e (another_shape none) =
        stopped es f.earlier f.good f.rest (no_line_length f.rest none) ∙ shape_some (length f.earlier) f.rest f.some
        ∙ refusal_is r e f.place_is
    by e (another_sum t q z n k h y other) =
        ap (λ (u : List ℕ). text_refusal es (lines_of (flatten f.earlier ++ u))) q
        ∙ listed_again es f.earlier f.good t z n k h y other ∙ refusal_is r e f.place_is

pub earliest_faulty : EarliestFaulty
earliest_faulty es s r = (fault_from es s r, fault_to es s r)

pub none_faulty : NoneFaulty
unfolding shaped_length is_shaped line_length
none_faulty es s = (from, to)
  where
    over : (text_refusal es (lines_of s)).number ≡ 0 → length (lines_of s).pieces ≤ again_in es (lines_of s).pieces
    over e =
        ⊎_elim (λ h. absurd (omega (arith, ap (λ (r : Refusal). r.number) (text_again es (lines_of s) refl h)))) (λ g. g)
        (below_or_not (again_in es (lines_of s).pieces) (length (lines_of s).pieces))

    empty : (t : List ℕ) → (shape_refusal (length (lines_of s).pieces) t).number ≡ 0 → t ≡ []
    empty [] e = refl
    empty (b ∷ t) e = absurd (omega arith)

    from : (text_refusal es (lines_of s)).number ≡ 0 → (ls : List (List ℕ)) × (s ≡ flatten ls) × Good es ls
    from e = let h = over e in
        let none : (lines_of s).rest ≡ [] = empty (lines_of s).rest (ap (λ (r : Refusal). r.number) (sym (text_rest es (lines_of s) refl h)) ∙ e) in
        let all : s ≡ flatten (lines_of s).pieces = sym (cut_joins shaped_length s) ∙ ap (λ (t : List ℕ). flatten (lines_of s).pieces ++ t) none ∙ append-nil _ in
        ((lines_of s).pieces, all, whole_good es s h)

    to : (ls : List (List ℕ)) → s ≡ flatten ls → Good es ls → (text_refusal es (lines_of s)).number ≡ 0
    to lines e good =
        ap (λ (t : List ℕ). (text_refusal es (lines_of t)).number) (e ∙ sym (append-nil (flatten lines)))
        ∙ ap (λ (r : Refusal). r.number) (stopped es lines good [] refl)
