-- Sets in a range, and sets that share no number.
--
--   one_more               what holds below k and at k holds below k + 1
--   or_left, or_right      an implication, where its premise is false, or its conclusion true
--   all_in_range           a test that passes at each number of 0 to m - 1
--   within_bits, within_by     the numbers of a set in range are in range, and the other way
--   apart_bits, apart_by       no number of a set is in one that is apart from it, and the other way
-- Assumes nothing.
use mathlib.Core.Path.{◌≡◌, refl, sym, ap, ◌∙◌, subst}
use mathlib.Core.Bool.{Bool, true, false, not, ◌&&◌, ◌||◌, false≢true}
use mathlib.Core.List.{List, [], ◌∷◌, map}
use Prim.Native.Nat.{ℕ, zero, suc, ◌<◌, ◌+◌}
use native.Mathlib.Nat.{zero-add}
use native.Mathlib.Numerals.{add-one}
use Rattle.std.specs.List.{list_all, range_with_len}
use Rattle.std.proofs.lemmas.List.Folds.{list_all-append, list_all-map}
use Rattle.std.proofs.lemmas.List.FromFn.{map-range_with_len_more}
use native.Mathlib.Omega.{arith}
use native.Mathlib.Decide.{ℕ_discrete}
use Rattle.computed_tests.specs.Numbers.{one_to, all_below}
use Rattle.computed_tests.proofs.Tests.{all_true, all_at}
use Rattle.number_sets.specs.Sets.{member, within, apart}

-- ---- tests

-- what holds of each number below k, and of k
pub one_more : (P : ℕ → Type 0) (k : ℕ) → ((j : ℕ) → j < k → P j) → P k → (j : ℕ) → j < k + 1 → P j
one_more P k h e j l = elim (ℕ_discrete j k) [ yes p ↦ subst P (sym p) e | no q ↦ h j (omega arith) ]

pub or_left : (a b : Bool) → a ≡ false → (not a || b) ≡ true
or_left a b e = ap (λ (x : Bool). not x || b) e

pub or_right : (a b : Bool) → b ≡ true → (not a || b) ≡ true
or_right true b e = e
or_right false b e = refl

both_turned : (a b : Bool) → (a && (b && true)) ≡ (b && a)
both_turned true true = refl
both_turned true false = refl
both_turned false true = refl
both_turned false false = refl

-- what `all` over a range gives
pub all_in_range : (m : ℕ) (test : ℕ → Bool) → list_all test (range_with_len 0 m) ≡ all_below m test
all_in_range zero test = refl
all_in_range (suc m) test =
    ap (λ (k : ℕ). list_all test (range_with_len 0 k)) (sym (add-one m))
    ∙ sym (list_all-map test (λ (k : ℕ). k) (range_with_len 0 (m + 1)))
    ∙ ap (list_all test) (map-range_with_len_more (λ (k : ℕ). k) 0 m m (zero-add m))
    ∙ list_all-append test (map (λ (k : ℕ). k) (range_with_len 0 m)) (m ∷ [])
    ∙ ap (λ (b : Bool). b && (test m && true)) (list_all-map test (λ (k : ℕ). k) (range_with_len 0 m) ∙ all_in_range m test)
    ∙ both_turned (all_below m test) (test m)

-- ---- sets in range

pub within_bits : (m : ℕ) (ws : List ℕ) → within m ws ≡ true → (k : ℕ) → k < 256 → member ws k ≡ true → one_to m k ≡ true
unfolding within
within_bits m ws h k l e = subst (λ (b : Bool). (not b || one_to m k) ≡ true) e (all_at 256 (λ k. not (member ws k) || one_to m k) h k l)

pub within_by : (m : ℕ) (ws : List ℕ) → ((k : ℕ) → k < 256 → member ws k ≡ true → one_to m k ≡ true) → within m ws ≡ true
unfolding within
within_by m ws h = all_true 256 (λ k. not (member ws k) || one_to m k) (λ k l. go k l (member ws k) refl)
  where
    go : (k : ℕ) → k < 256 → (b : Bool) → member ws k ≡ b → (not b || one_to m k) ≡ true
    go k l true e = h k l e
    go k l false e = refl

-- ---- sets that share no number

pub apart_bits : (ws ws' : List ℕ) → apart ws ws' ≡ true → (k : ℕ) → k < 256 → member ws k ≡ true → member ws' k ≡ false
unfolding apart
apart_bits ws ws' h k l e = go (member ws k) (member ws' k) e (all_at 256 (λ k. not (member ws k && member ws' k)) h k l)
  where
    go : (a b : Bool) → a ≡ true → not (a && b) ≡ true → b ≡ false
    go true true e h = absurd (false≢true h)
    go true false e h = refl
    go false b e h = absurd (false≢true e)

pub apart_by : (ws ws' : List ℕ) → ((k : ℕ) → k < 256 → member ws k ≡ true → member ws' k ≡ false) → apart ws ws' ≡ true
unfolding apart
apart_by ws ws' h = all_true 256 (λ k. not (member ws k && member ws' k)) (λ k l. go (member ws k) (member ws' k) (h k l))
  where
    go : (a b : Bool) → (a ≡ true → b ≡ false) → not (a && b) ≡ true
    go true b h = ap not (h refl)
    go false b h = refl
