-- An accepted opening gives the model's opened state, and a refused one zeros; the number of each opening.
--
--   nonempty_words          the files that an opening has as not empty are four words of 64 bits
--   nonempty_member         they are those of size 1 or more
--   opened_represents       what an accepted opening gives stands for the opened state
--   refused-next            what a refused one gives is the inventory of zeros
--   opening-numbers         the number of each opening
-- Assumes nothing.
use mathlib.Core.Path.{◌≡◌, refl, sym, ap, ◌∙◌}
use mathlib.Core.Logic.{◌≢◌}
use mathlib.Core.Bool.{Bool, true, false, cond, ◌&&◌, ◌||◌, false≢true, and-false}
use mathlib.Core.List.{List}
use Prim.Native.Nat.{ℕ, zero, suc, ◌<◌, ◌≤◌, ◌-◌}
use native.Mathlib.Omega.{arith}
use native.Mathlib.Decide.{ℕ_discrete, dec_le}
use lib.Dec.{leb, eqb}
use lib.ListN.{length, get_or, replicate, length-replicate}
use borrow.Author.Tests.{eq-eqb, ne_eqb, le-leb, lt-leb}
use Rattle.computed_tests.specs.Numbers.{one_to, all_below}
use Rattle.computed_tests.proofs.Tests.{and_both, one_to_in, one_to_outside, one_to_inside}
use Rattle.codes.specs.declared.Code.{Code}
use Rattle.parity.specs.Parity.{is_file}
use Rattle.number_sets.specs.Sets.{member, inserted, Words}
use Rattle.inventory.specs.Model.{opened}
use Rattle.inventory.specs.Steps.{zeros, nonempty_of, fresh, outcome, refused_opening, open_step}
use Rattle.inventory.specs.Claim.{size_in, OpeningNumbers}
use Rattle.inventory.specs.Outcome.{Outcome}
use Rattle.number_sets.proofs.Words.{member-inserted, member-none, words_none, words_inserted}
use Rattle.inventory.proofs.Outside.{outside_exactly}
use Rattle.inventory.proofs.Outcomes.{open_out_of_range, open_miscounted, open_too_large, open_accepted}
use Rattle.number_sets.proofs.Ranges.{within_by}
use Rattle.inventory.proofs.Representation.{Represents, IsSet, represents}

-- ---- the files that are not empty

pub nonempty_words : (sizes : List ℕ) (k : ℕ) → Words (nonempty_of sizes k)
unfolding nonempty_of
nonempty_words sizes zero = words_none
nonempty_words sizes (suc k) = go (leb 1 (get_or sizes k 0)) (nonempty_words sizes k)
  where
    go : (b : Bool) → Words (nonempty_of sizes k) → Words (cond b (inserted (suc k) (nonempty_of sizes k)) (nonempty_of sizes k))
    go true w = words_inserted (suc k) (nonempty_of sizes k) w
    go false w = w

file_more : (m f : ℕ) → f ≢ suc m → one_to (suc m) f ≡ one_to m f
file_more m f q =
    ap (λ (b : Bool). leb 1 f && b)
    (elim (dec_le f m) [
      | yes l ↦ le-leb f (suc m) (omega arith) ∙ sym (le-leb f m l)
      | no h ↦ lt-leb f (suc m) (omega arith) ∙ sym (lt-leb f m (omega arith))
    ])

-- whether a set has f among its numbers 1 to 0
none_below : (f : ℕ) (b : Bool) → false ≡ (one_to 0 f && b)
none_below zero b = refl
none_below (suc f) b = sym (ap (λ (c : Bool). c && b) (one_to_outside 0 (suc f) (λ h l. omega arith)))

-- whether a set has f among its numbers 1 to m + 1
one_more_number : (m f : ℕ) (set : ℕ → Bool) (before : Bool) → before ≡ (one_to m f && set f)
    → (a : Bool) → set (suc m) ≡ a → (cond a (eqb f (suc m) || before) before) ≡ (one_to (suc m) f && set f)
one_more_number m f set before h a e = elim (ℕ_discrete f (suc m)) [ yes p ↦ same a e p | no q ↦ other a q ]
  where
    same : (a : Bool) → set (suc m) ≡ a → f ≡ suc m → cond a (eqb f (suc m) || before) before ≡ (one_to (suc m) f && set f)
    same true e p = rw (eq-eqb f (suc m) p, one_to_in (suc m) f (omega arith) (omega arith), ap set p ∙ e)
    same false e p = rw (h, ap set p ∙ e, and-false (one_to m f), and-false (one_to (suc m) f))

    other : (a : Bool) → f ≢ suc m → cond a (eqb f (suc m) || before) before ≡ (one_to (suc m) f && set f)
    other true q = rw (ne_eqb f (suc m) q, file_more m f q) h
    other false q = rw (file_more m f q) h

pub nonempty_member : (sizes : List ℕ) (k : ℕ) → k < 256 → (f : ℕ) → member (nonempty_of sizes k) f ≡ (is_file k f && leb 1 (size_in sizes f))
unfolding nonempty_of
nonempty_member sizes zero l f = member-none f ∙ none_below f (leb 1 (size_in sizes f))
nonempty_member sizes (suc k) l f =
    go (leb 1 (get_or sizes k 0))
    ∙ one_more_number k f (λ f. leb 1 (size_in sizes f)) (member (nonempty_of sizes k) f) (nonempty_member sizes k (omega arith) f)
    (leb 1 (get_or sizes k 0)) (ap (λ (i : ℕ). leb 1 (get_or sizes i 0)) (omega arith))
  where
    go : (b : Bool) → member (cond b (inserted (suc k) (nonempty_of sizes k)) (nonempty_of sizes k)) f
        ≡ cond b (eqb f (suc k) || member (nonempty_of sizes k) f) (member (nonempty_of sizes k) f)
    go true = member-inserted (nonempty_of sizes k) (suc k) (nonempty_words sizes k).four l f
    go false = refl

-- ---- opening

pub opened_represents : (d : Code) (n : ℕ) (sizes : List ℕ) → (open_step d n sizes).number ≡ 0
    → (n ≤ 254) × Represents (size_in sizes) (opened d n (size_in sizes)) (open_step d n sizes).next
unfolding open_step
opened_represents d n sizes e = go (one_to 254 n && eqb (length sizes) n) refl (all_below n (λ i. leb (get_or sizes i 0) 16777216)) e
  where
    none : (m : ℕ) → m ≤ 255 → IsSet m (replicate 4 0) (λ k. false)
    none m l = record {
      small = l;
      words = length-replicate {A = ℕ} 4 0;
      in_range_lem = within_by m (replicate 4 0) (λ k b h. absurd (false≢true (sym (member-none k) ∙ h)));
      members = member-none;
    }

    go : (a : Bool) → (one_to 254 n && eqb (length sizes) n) ≡ a → (b : Bool)
        → (cond a (cond b (outcome (fresh d n sizes) 0) (refused_opening 1)) (refused_opening 10)).number ≡ 0
        → (n ≤ 254) × Represents (size_in sizes) (opened d n (size_in sizes))
        (cond a (cond b (outcome (fresh d n sizes) 0) (refused_opening 1)) (refused_opening 10)).next
    go true p true z = let r = (and_both (one_to 254 n) (eqb (length sizes) n) p).0 in
        let l = (one_to_inside 254 n r).1 in (
          l,
          represents r (none n (omega arith)) (none (255 - n) (omega arith)) (none (255 - n) (omega arith)) (λ k h. refl)
              (within_by n (nonempty_of sizes n)
              (λ k b h. (and_both (is_file n k) (leb 1 (size_in sizes k)) (sym (nonempty_member sizes n (omega arith) k) ∙ h)).0))
              (λ f h. nonempty_member sizes n (omega arith) f ∙ ap (λ (b : Bool). b && leb 1 (size_in sizes f)) h),
        )
    go true p false z = absurd (omega arith)
    go false p b z = absurd (omega arith)

pub refused-next : (d : Code) (n : ℕ) (sizes : List ℕ) → (open_step d n sizes).number ≢ 0 → (open_step d n sizes).next ≡ zeros
unfolding open_step
refused-next d n sizes = go (one_to 254 n && eqb (length sizes) n) (all_below n (λ i. leb (get_or sizes i 0) 16777216))
  where
    go : (a b : Bool) → (cond a (cond b (outcome (fresh d n sizes) 0) (refused_opening 1)) (refused_opening 10)).number ≢ 0
        → (cond a (cond b (outcome (fresh d n sizes) 0) (refused_opening 1)) (refused_opening 10)).next ≡ zeros
    go true true h = absurd (h refl)
    go true false h = refl
    go false b h = refl

-- ---- the number of each opening

told : (d : Code) (n : ℕ) (sizes : List ℕ) {r : Outcome} → r ≡ open_step d n sizes → (open_step d n sizes).number ≡ r.number
told d n sizes e = sym (ap (λ (o : Outcome). o.number) e)

pub opening-numbers : OpeningNumbers
opening-numbers = record {
  out_of_range = λ d n sizes h. told d n sizes (open_out_of_range d n sizes ((outside_exactly 254 n).1 h));
  miscounted = λ d n sizes q. told d n sizes (open_miscounted d n sizes q);
  too_large = λ d n sizes a b c i l h. told d n sizes (open_too_large d n sizes (one_to_in 254 n a b) c i l h);
  accepted = λ d n sizes a b c h. told d n sizes (open_accepted d n sizes (one_to_in 254 n a b) c h);
}
