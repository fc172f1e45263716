-- What the lines of a text say of an entry.
--
--   says_it       the byte for an entry is what the lines say of it
--   says_one      and they say one thing, where they are good
-- Assumes nothing.
use mathlib.Core.Path.{◌≡◌, refl, sym, ◌∙◌, subst}
use mathlib.Core.Bool.{Bool, true, false, cond, true≢false}
use mathlib.Core.Logic.{⊎_elim}
use mathlib.Core.List.{List, []}
use Prim.Native.Nat.{ℕ, ◌≤◌, ◌<◌}
use native.Mathlib.Omega.{arith}
use lib.ListN.{length, get_or}
use Rattle.computed_tests.specs.Lists.{first_below}
use Rattle.computed_tests.proofs.Lists.{IsFirst, first_is}
use Rattle.cut_lists.specs.All.{All}
use Rattle.cut_lists.proofs.AllLaws.{all_at}
use Rattle.lent_bytes.specs.Equal.{equal}
use Rattle.lent_bytes.proofs.EqualLaws.{equal-same, equal_true}
use Rattle.md5sum_text.specs.Lines.{sum_in}
use Rattle.md5sum_text.specs.Names.{sum_of, is_named}
use Rattle.md5sum_text.specs.Import.{answer_for}
use Rattle.md5sum_text.specs.Claim.{LineOf, Line, Names, Good, Says, no_line, same_sum, other_sum}
use Rattle.md5sum_text.proofs.FaultLaws.{names_it, named_it}
use Rattle.md5sum_text.proofs.ShapeLaws.{in_sum}
use Rattle.md5sum_text.proofs.SumLaws.{answer_none, answer_first, below_or_not}

module _ (ls : List (List ℕ)) (e : List ℕ) (lines : All Line ls) where
  first : ℕ
  first = first_below (length ls) (λ k. is_named (get_or ls k []) e)

  is_first : IsFirst (length ls) (λ k. is_named (get_or ls k []) e) first
  unfolding first
  is_first = first_is (length ls) (λ k. is_named (get_or ls k []) e)

  pub says_it : Says ls e (answer_for ls e)
  says_it = ⊎_elim found none (below_or_not first (length ls))
    where
      found : first < length ls → Says ls e (answer_for ls e)
      found h =
          subst (Says ls e) (sym (answer_first ls e first h is_first.before (is_first.found h))) (by (equal (sum_in (get_or ls first [])) (sum_of e)) refl)
        where
          here : Line (get_or ls first [])
          here = all_at [] lines first h

          names : Names here.name e
          names = names_it here.line_of e (is_first.found h)

          by : (b : Bool) → equal (sum_in (get_or ls first [])) (sum_of e) ≡ b → Says ls e (cond b 1 2)
          by true z = same_sum first h here.line_of names (sym (in_sum here.line_of) ∙ equal_true _ _ z)
          by false z = other_sum first h here.line_of names (λ q. true≢false (sym (equal-same (in_sum here.line_of ∙ q)) ∙ z))

      none : length ls ≤ first → Says ls e (answer_for ls e)
      none h = let nowhere : (k : ℕ) → k < length ls → is_named (get_or ls k []) e ≡ false = λ k l. is_first.before k (omega arith) in
          subst (Says ls e) (sym (answer_none ls e nowhere))
          (no_line (λ k sum name l z n. true≢false (sym (named_it z e n) ∙ nowhere k l)))

module _ (es ls : List (List ℕ)) (good : Good es ls) (i : ℕ) (h : i < length es) where
  abbrev e' : List ℕ
  e' = get_or es i []

  -- two lines that name the entry have one sum
  one_sum : (j k : ℕ) {sum sum' name name' : List ℕ} → j < length ls → k < length ls → LineOf sum name (get_or ls j []) → LineOf sum' name' (get_or ls k [])
      → Names name e' → Names name' e' → sum ≡ sum'
  one_sum j k {sum} {sum'} {name} {name'} l m y z n o = let same : name' ≡ name = sym o.1 ∙ n.1 in
      good.agree j k l m y (subst (λ (w : List ℕ). LineOf sum' w (get_or ls k [])) same z) (i, h, n)

  pub says_one : {a b : ℕ} → Says ls e' a → Says ls e' b → a ≡ b
  says_one (no_line f) (no_line g) = refl
  says_one (no_line f) (same_sum k l z n s) = absurd (f k _ _ l z n)
  says_one (no_line f) (other_sum k l z n s) = absurd (f k _ _ l z n)
  says_one (same_sum k l z n s) (no_line f) = absurd (f k _ _ l z n)
  says_one (same_sum j l y n s) (same_sum k m z o t) = refl
  says_one (same_sum j l y n s) (other_sum k m z o t) = absurd (t (sym (one_sum j k l m y z n o) ∙ s))
  says_one (other_sum k l z n s) (no_line f) = absurd (f k _ _ l z n)
  says_one (other_sum j l y n s) (same_sum k m z o t) = absurd (s (one_sum j k l m y z n o ∙ t))
  says_one (other_sum j l y n s) (other_sum k m z o t) = refl
