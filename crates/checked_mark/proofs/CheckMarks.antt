-- Checking by an entry that stands alone: marks do not count.
--
--   lone_number e     the number of the first rule that the entry e breaks, where it fills its slice
--   lone_number_lem      the item at the front of e has that number
--   lone_same        the refusals of two entries that differ in marks only
--   checked_alike    the claim
-- Assumes nothing.
use mathlib.Core.Path.{◌≡◌, refl, sym, ap, ◌∙◌}
use mathlib.Core.Bool.{Bool, true, false}
use mathlib.Core.List.{List}
use Prim.Native.Nat.{ℕ}
use native.Mathlib.Omega.{arith}
use lib.Dec.{eqb}
use lib.ListN.{length, take}
use lib.Seq.{take-length}
use borrow.Author.Tests.{eqb-true}
use Rattle.entries.specs.Claim.{breaks_size, breaks_file_size, breaks_name}
use Rattle.entries.specs.Entry.{entry_size, file_size_of, name_of, file_size_allowed, name_allowed, entry_size_allowed}
use Rattle.entries.specs.Walk.{Item, first_of}
use Rattle.entries.proofs.EntryLaws.{sized, first_entry}
use Rattle.par1.specs.Checking.{item_number, lone_refusal, is_described, check_of}
use Rattle.par1.proofs.Faults.{item_broken}
use Rattle.refusals.specs.Tests.{test}
use Rattle.checked_mark.specs.Claim.{CheckedAlike}
use Rattle.checked_mark.specs.Marks.{EntryAlike}
use Rattle.checked_mark.proofs.EntryMarks.{entry_size_lem, file_size, md5-same, md5_16k, name_same}

abbrev lone_number : List ℕ → ℕ
lone_number e =
    test 16 (entry_size_allowed (length e) (length e)) (test 17 (file_size_allowed (file_size_of e)) (test 18 (name_allowed (name_of e)) 0))

module _ (e : List ℕ) (fills : entry_size e ≡ length e) where
  size_is : {b : Bool} → entry_size_allowed (length e) (length e) ≡ b → entry_size_allowed (entry_size e) (length e) ≡ b
  size_is p = ap (λ (n : ℕ). entry_size_allowed n (length e)) fills ∙ p

  front_is : take (entry_size e) e ≡ e
  front_is = ap (λ (n : ℕ). take n e) fills ∙ take-length e

  file_size_is : {b : Bool} → file_size_allowed (file_size_of e) ≡ b → file_size_allowed (file_size_of (take (entry_size e) e)) ≡ b
  file_size_is p = ap (λ (s : List ℕ). file_size_allowed (file_size_of s)) front_is ∙ p

  name_is : {b : Bool} → name_allowed (name_of e) ≡ b → name_allowed (name_of (take (entry_size e) e)) ≡ b
  name_is p = ap (λ (s : List ℕ). name_allowed (name_of s)) front_is ∙ p

  lone_number_lem : item_number (first_of e) ≡ lone_number e
  lone_number_lem = by (entry_size_allowed (length e) (length e)) (file_size_allowed (file_size_of e)) (name_allowed (name_of e)) refl refl refl
    where
      by : (a b c : Bool) → entry_size_allowed (length e) (length e) ≡ a → file_size_allowed (file_size_of e) ≡ b → name_allowed (name_of e) ≡ c
          → item_number (first_of e) ≡ lone_number e
      by false b c p q r = simp p (item_broken e (breaks_size (size_is p)))
      by true false c p q r = simp (p, q) (item_broken e (breaks_file_size (size_is p) (file_size_is q)))
      by true true false p q r = simp (p, q, r) (item_broken e (breaks_name (size_is p) (file_size_is q) (name_is r)))
      by true true true p q r = let low = (sized (length e) (length e) p).low in
          simp (p, q, r)
          (ap (λ (i : Item). item_number i) (first_entry e (omega arith) refl (size_is p) (file_size_is q) (name_is r)))

module _ {e g : List ℕ} (a : EntryAlike e g) where
  number_same : lone_number e ≡ lone_number g
  number_same = simp (a.length-same, file_size a, name_same a)

  lone_same : lone_refusal e ≡ lone_refusal g
  unfolding lone_refusal
  lone_same = simp (entry_size_lem a, a.length-same) (by (eqb (entry_size g) (length g)) refl)
    where
      by : (b : Bool) → eqb (entry_size g) (length g) ≡ b → test 16 b (item_number (first_of e)) ≡ test 16 b (item_number (first_of g))
      by false p = refl
      by true p = let fills : entry_size g ≡ length g = eqb-true (entry_size g) (length g) p in
          lone_number_lem e (entry_size_lem a ∙ fills ∙ sym a.length-same) ∙ number_same ∙ sym (lone_number_lem g fills)

  described_same : (m : List ℕ) → is_described e m ≡ is_described g m
  unfolding is_described
  described_same m = simp (file_size a, md5-same a, md5_16k a)

pub checked_alike : CheckedAlike
unfolding check_of
checked_alike e g m a = simp (lone_same a, described_same a m)
