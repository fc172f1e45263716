-- Lines held against entries.
--
--   any_at, any_none       a test that passes for one of a list, and one that passes for none
--   unlike                 the test whether lists are equal fails where they are not
--   below_or_not           a number is below another, or is not
--   first_or               the first that passes one of two tests, in two searches
--   again_none, again_end, again_more     the first line that has a listed name again with another sum, entry by entry
--   line_shaped            each line of a text is of the right shape
--   again_seen             what the searches for one entry find
--   fits_as, found_as, seen_sum     the same, from what the code's tests and searches answer
--   named_first, answer_none, answer_first, answer_unfit, answer_over, answer_byte     the byte for an entry, from the first line that names it
-- Assumes nothing.
use mathlib.Core.Path.{◌≡◌, refl, sym, ap, ◌∙◌, subst}
use mathlib.Core.Bool.{Bool, true, false, cond, not, ◌&&◌, ◌||◌, true≢false, or-true}
use mathlib.Core.Logic.{◌⊎◌, inl, inr, ⊎_elim}
use mathlib.Core.List.{List, [], ◌∷◌}
use Prim.Native.Nat.{ℕ, zero, suc, ◌≤◌, ◌<◌}
use native.Mathlib.Decide.{dec_lt}
use native.Mathlib.Omega.{arith}
use lib.ListN.{length, take, drop, get_or}
use lib.Seq.{get_or-take, length-take-le, take-take}
use Rattle.computed_tests.specs.Lists.{first_below}
use Rattle.computed_tests.proofs.Lists.{IsFirst, first_is, first_only}
use Rattle.computed_tests.proofs.Tests.{and_both}
use Rattle.cut_lists.proofs.AllLaws.{all_at}
use Rattle.cut_lists.proofs.CutLaws.{cut_all}
use Rattle.lent_bytes.specs.Equal.{equal}
use Rattle.lent_bytes.proofs.EqualLaws.{equal-same, equal_true, equal_lengths}
use Rattle.entries.specs.Entry.{name_of, units_of}
use Rattle.md5sum_text.specs.Lines.{shaped_length, lines_of, sum_in, name_in}
use Rattle.md5sum_text.specs.Names.{text_of, units_fit, is_fitting, sum_of, is_named}
use Rattle.md5sum_text.specs.Import.{any, is_listed, has_other, is_again, answer_for}
use Rattle.md5sum_text.specs.Walks.{Stands, is_other, Sought, Found}
use Rattle.md5sum_text.specs.declared.lines.Place.{Place}
use Rattle.md5sum_text.proofs.LineLaws.{Shaped, has_line, line_at}

-- ---- one of a list

module _ {A : Type 0} (t : A → Bool) (d : A) where
  pub any_at : (xs : List A) (k : ℕ) → k < length xs → t (get_or xs k d) ≡ true → any t xs ≡ true
  unfolding any
  any_at [] k h e = absurd (omega arith)
  any_at (x ∷ xs) zero h e = simp e
  any_at (x ∷ xs) (suc k) h e = simp (any_at xs k (omega arith) e, or-true)

  pub any_none : (xs : List A) → ((k : ℕ) → k < length xs → t (get_or xs k d) ≡ false) → any t xs ≡ false
  unfolding any
  any_none [] h = refl
  any_none (x ∷ xs) h = simp (h 0 (omega arith), any_none xs (λ k l. h (suc k) (omega arith)))

-- ---- lists that are not equal

pub unlike : {a b : List ℕ} → (a ≡ b → ⊥) → equal a b ≡ false
unlike {a} {b} h = by (equal a b) refl
  where
    by : (t : Bool) → equal a b ≡ t → t ≡ false
    by true e = absurd (h (equal_true a b e))
    by false e = refl

-- ---- two searches

pub below_or_not : (a b : ℕ) → (a < b) ⊎ (b ≤ a)
below_or_not a b = elim (dec_lt a b) [
  | yes h ↦ inl h
  | no h ↦ inr (omega arith)
]

either : (s t : Bool) → s ≡ true → (s || t) ≡ true
either s t e = simp e

other : (s t : Bool) → t ≡ true → (s || t) ≡ true
other s t e = simp (e, or-true)

neither : (s t : Bool) → s ≡ false → t ≡ false → (s || t) ≡ false
neither s t e f = simp (e, f)

first_or : (m : ℕ) (s t u : ℕ → Bool) → ((k : ℕ) → u k ≡ (s k || t k)) → first_below (first_below m s) t ≡ first_below m u
first_or m s t u is = let n : ℕ = first_below m s in
    let r : ℕ = first_below n t in
    let S = first_is m s in
    let T = first_is n t in
    first_only m u r
    (record {
      within = omega (arith, S.within, T.within);
      found =
          λ h.
          ⊎_elim (λ l. is r ∙ other (s r) (t r) (T.found l))
          (λ g. let e : r ≡ n = omega (arith, T.within) in is r ∙ either (s r) (t r) (ap s e ∙ S.found (omega arith)))
          (below_or_not r n);
      before = λ j l. is j ∙ neither (s j) (t j) (S.before j (omega (arith, T.within))) (T.before j l);
    })

-- ---- entry by entry

never_first : (m : ℕ) (t : ℕ → Bool) → ((k : ℕ) → k < m → t k ≡ false) → m ≡ first_below m t
never_first m t h = first_only m t m (record { within = omega arith; found = λ l. absurd (omega arith); before = h })

pub again_end : (m : ℕ) (ls : List (List ℕ)) {es : List (List ℕ)} → es ≡ [] → m ≡ first_below m (is_again es ls)
unfolding is_again any
again_end m ls e = never_first m _ (λ k h. ap (λ (es : List (List ℕ)). is_again es ls k) e)

pub again_more : (m : ℕ) (e : List ℕ) (es ls : List (List ℕ))
    → first_below (first_below m (is_again (e ∷ []) ls)) (is_again es ls) ≡ first_below m (is_again (e ∷ es) ls)
unfolding is_again any
again_more m e es ls =
    first_or m (is_again (e ∷ []) ls) (is_again es ls) (is_again (e ∷ es) ls)
    (λ k. let l : List ℕ = get_or ls k [] in by (is_named l e) (is_listed es l) (has_other (take k ls) l))
  where
    by : (n l h : Bool) → ((n || l) && h) ≡ (((n || false) && h) || (l && h))
    by true l true = refl
    by true true false = refl
    by true false false = refl
    by false l h = refl

-- ---- the lines of a text

line_shaped : (s : List ℕ) (k : ℕ) → k < length (lines_of s).pieces → Shaped (get_or (lines_of s).pieces k [])
line_shaped s k h = all_at [] (cut_all shaped_length Shaped (λ t some found. (has_line t found).shape) s) k h

sum-length : {l : List ℕ} → Shaped l → length (sum_in l) ≡ 32
sum-length {l} z = length-take-le 32 l (omega (arith, z.long))

-- what the search for a name and another sum says of a line
module _ (name sum l : List ℕ) where
  named_other : is_other name sum l ≡ true → (equal (units_of name) (name_in l) ≡ true) × (sum_in l ≡ sum → ⊥)
  named_other e = let both = and_both (equal (units_of name) (name_in l)) (not (equal (sum_in l) sum)) e in
      (both.0, λ z. true≢false (sym both.1 ∙ ap not (equal-same z)))

  named_same : is_other name sum l ≡ false → equal (units_of name) (name_in l) ≡ true → sum_in l ≡ sum
  named_same e n = equal_true (sum_in l) sum (by (equal (sum_in l) sum) (sym (ap (λ (b : Bool). b && not (equal (sum_in l) sum)) n) ∙ e))
    where
      by : (b : Bool) → not b ≡ false → b ≡ true
      by true z = refl
      by false z = absurd (true≢false z)

-- any sum is another than none
other_than_none : (name l : List ℕ) → Shaped l → is_other name [] l ≡ equal (units_of name) (name_in l)
other_than_none name l z =
    ap (λ (b : Bool). equal (units_of name) (name_in l) && not b) (equal_lengths (sum_in l) [] (λ e. omega (arith, sum-length z))) ∙ by (equal (units_of name) (name_in l))
  where
    by : (b : Bool) → (b && true) ≡ b
    by true = refl
    by false = refl

-- ---- one entry

module _ (s e : List ℕ) (m : ℕ) (most : m ≤ length (lines_of s).pieces) where
  abbrev ls : List (List ℕ)
  ls = (lines_of s).pieces

  pub again_none : is_fitting e ≡ false → m ≡ first_below m (is_again (e ∷ []) ls)
  unfolding is_again any is_named
  again_none f = never_first m _ (λ k h. simp f)

  module _ (fits : is_fitting e ≡ true) where
    name_is : (k : ℕ) → equal (text_of e) (name_in (get_or ls k [])) ≡ is_named (get_or ls k []) e
    unfolding is_named
    name_is k = simp fits

    module _ {p : ℕ} (first : Sought ls (is_other (name_of e) []) 0 m p) where
      pub named_first : IsFirst m (λ k. is_named (get_or ls k []) e) p
      named_first =
          let plain : (k : ℕ) → k < m → is_other (name_of e) [] (get_or ls k []) ≡ is_named (get_or ls k []) e = λ k h.
          other_than_none (name_of e) (get_or ls k []) (line_shaped s k (omega arith)) ∙ name_is k in
          record {
            within = first.high;
            found = λ h. sym (plain p h) ∙ first.found h;
            before = λ j h. sym (plain j (omega (arith, first.high))) ∙ first.before j h (omega arith);
          }

      module _ {sum : List ℕ} {q : ℕ} (sum_is_lem : p < m → sum ≡ sum_in (get_or ls p [])) (next : Sought ls (is_other (name_of e) sum) p m q) where
        -- before line q all lines that name the entry have one sum
        same-before : (j : ℕ) → j < q → is_named (get_or ls j []) e ≡ true → sum_in (get_or ls j []) ≡ sum
        same-before j h n =
            ⊎_elim (λ l. absurd (true≢false (sym n ∙ named_first.before j l)))
            (λ g. named_same (name_of e) sum (get_or ls j []) (next.before j h g) (name_is j ∙ n))
            (below_or_not j p)

        named_is : (j : ℕ) → is_named (get_or ls j []) e ≡ true → text_of e ≡ name_in (get_or ls j [])
        named_is j n = equal_true (text_of e) _ (name_is j ∙ n)

        none_before : (j : ℕ) → j < q → is_again (e ∷ []) ls j ≡ false
        unfolding is_again any
        none_before j h = by (is_named (get_or ls j []) e) refl
          where
            by : (b : Bool) → is_named (get_or ls j []) e ≡ b → ((b || false) && has_other (take j ls) (get_or ls j [])) ≡ false
            by false n = refl
            by true n = any_none _ [] (take j ls) (λ i l. pair i (omega (arith, next.high, length-take-le j ls (omega (arith, next.high)))))
              where
                pair : (i : ℕ) → i < j
                    → (equal (name_in (get_or (take j ls) i [])) (name_in (get_or ls j [])) && not (equal (sum_in (get_or (take j ls) i [])) (sum_in (get_or ls j [])))) ≡ false
                pair i l = rw (get_or-take j ls i [] l) (test (equal (name_in (get_or ls i [])) (name_in (get_or ls j []))) refl)
                  where
                    test : (b : Bool) → equal (name_in (get_or ls i [])) (name_in (get_or ls j [])) ≡ b
                        → (b && not (equal (sum_in (get_or ls i [])) (sum_in (get_or ls j [])))) ≡ false
                    test false z = refl
                    test true z = let too : is_named (get_or ls i []) e ≡ true = sym (name_is i) ∙ equal-same (named_is j n ∙ sym (equal_true _ _ z)) in
                        ap not (equal-same (same-before i (omega arith) too ∙ sym (same-before j h n)))

        found_there : q < m → is_again (e ∷ []) ls q ≡ true
        unfolding is_again any
        found_there h = let o = named_other (name_of e) sum (get_or ls q []) (next.found h) in
            let is = sum_is_lem (omega (arith, next.low)) in
            let n : is_named (get_or ls q []) e ≡ true = sym (name_is q) ∙ o.0 in
            let apart : p ≡ q → ⊥ = λ z. o.1 (ap (λ (k : ℕ). sum_in (get_or ls k [])) (sym z) ∙ sym is) in
            let f : is_named (get_or ls p []) e ≡ true = named_first.found (omega (arith, next.low)) in
            let before : p < q = omega (arith, next.low, apart) in
            let names = equal-same (sym (named_is p f) ∙ named_is q n) in
            let sums : not (equal (sum_in (get_or ls p [])) (sum_in (get_or ls q []))) ≡ true = ap not (unlike (λ z. o.1 (sym z ∙ sym is))) in
            let here : has_other (take q ls) (get_or ls q []) ≡ true = any_at _ [] (take q ls) p
            (omega (arith, length-take-le q ls (omega (arith, next.high)))) (rw (get_or-take q ls p [] before) (simp (names, sums))) in
            simp (n, here)

        pub again_seen : q ≡ first_below m (is_again (e ∷ []) ls)
        again_seen = first_only m (is_again (e ∷ []) ls) q (record { within = next.high; found = found_there; before = none_before })

-- whether the name fits, as the code's test of its units says
pub fits_as : (e : List ℕ) {name : List ℕ} {b r : Bool} → name ≡ name_of e → b ≡ units_fit (units_of name) → b ≡ r → is_fitting e ≡ r
fits_as e is test which = ap (λ (n : List ℕ). units_fit (units_of n)) (sym is) ∙ sym test ∙ which

-- the same, as the code's searches answer
pub found_as : (s e : List ℕ) {name sum : List ℕ} {m : ℕ} {p q : Place} → name ≡ name_of e → Found s name sum m p q
    → Sought (lines_of s).pieces (is_other (name_of e) sum) p.number m q.number
found_as s e {name} {sum} {m} {p} {q} is f = subst (λ (n : List ℕ). Sought (lines_of s).pieces (is_other n sum) p.number m q.number) is f.sought

-- the sum of the line where a search stopped
pub seen_sum : (s : List ℕ) (p : Place) {sum : List ℕ} → Stands s p → sum ≡ take 32 (drop p.at s) → p.number < length (lines_of s).pieces
    → sum ≡ sum_in (get_or (lines_of s).pieces p.number [])
seen_sum s p stands e h = let i = line_at s p stands h in
    e ∙ sym (take-take 32 (shaped_length (drop p.at s)) (drop p.at s) (omega (arith, i.low))) ∙ ap sum_in i.line_is

-- ---- the byte for an entry

pub answer_none : (ls : List (List ℕ)) (e : List ℕ) → ((k : ℕ) → k < length ls → is_named (get_or ls k []) e ≡ false) → answer_for ls e ≡ 0
unfolding answer_for
answer_none [] e h = refl
answer_none (l ∷ ls) e h = simp (h 0 (omega arith), answer_none ls e (λ k g. h (suc k) (omega arith)))

pub answer_first : (ls : List (List ℕ)) (e : List ℕ) (k : ℕ) → k < length ls → ((j : ℕ) → j < k → is_named (get_or ls j []) e ≡ false)
    → is_named (get_or ls k []) e ≡ true → answer_for ls e ≡ cond (equal (sum_in (get_or ls k [])) (sum_of e)) 1 2
unfolding answer_for
answer_first [] e k h b n = absurd (omega arith)
answer_first (l ∷ ls) e zero h b n = simp n
answer_first (l ∷ ls) e (suc k) h b n = simp (b 0 (omega arith)) (answer_first ls e k (omega arith) (λ j g. b (suc j) (omega arith)) n)

pub answer_unfit : (ls : List (List ℕ)) (e : List ℕ) → is_fitting e ≡ false → answer_for ls e ≡ 0
unfolding is_named
answer_unfit ls e f = answer_none ls e (λ k h. simp f)

-- the first line that names it is line p of m
module _ (s e : List ℕ) (m : ℕ) (all : m ≡ length (lines_of s).pieces) (fits : is_fitting e ≡ true) {p : ℕ}
    (first : Sought (lines_of s).pieces (is_other (name_of e) []) 0 m p) where
  named : IsFirst m (λ k. is_named (get_or (lines_of s).pieces k []) e) p
  named = named_first s e m (omega (arith, all)) fits first

  pub answer_over : p ≡ m → answer_for (lines_of s).pieces e ≡ 0
  answer_over z = answer_none (lines_of s).pieces e (λ k h. named.before k (omega (arith, all)))

  pub answer_seen : (p ≡ m → ⊥) → answer_for (lines_of s).pieces e ≡ cond (equal (sum_in (get_or (lines_of s).pieces p [])) (sum_of e)) 1 2
  answer_seen z = let h : p < m = omega (arith, first.high) in
      answer_first (lines_of s).pieces e p (omega (arith, all)) named.before (named.found h)

  -- as the code's comparison says
  pub answer_byte : {sum : List ℕ} {b r : Bool} → (p ≡ m → ⊥) → sum ≡ sum_in (get_or (lines_of s).pieces p []) → b ≡ equal sum (sum_of e) → b ≡ r
      → cond r 1 2 ≡ answer_for (lines_of s).pieces e
  answer_byte z is test which =
      ap (λ (b : Bool). cond b 1 2) (sym which ∙ test ∙ ap (λ (l : List ℕ). equal l (sum_of e)) is) ∙ sym (answer_seen z)
