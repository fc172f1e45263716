-- The numbers 16 to 19 stand where document 01 alone has 6, names by the rule as it is now (2026-14), and the other code's version is 3 by it.
--
--   Formerly n k      k is what document 01 has for the number n of a refusal, which is not 6 itself
--   tests_formerly    tests 1 to 5, and then those on the list
--   totals_formerly   tests 19 and 7 to 9
--   former_version    test 3 as document 01 has it, of any version but the other code's
--   former_six, former_three     the claims
-- Assumes nothing.
use Rattle.std.specs.Prelude.{Ok, Err}
use mathlib.Core.Path.{◌≡◌, refl, sym, ap, ◌∙◌, subst}
use mathlib.Core.Bool.{Bool, true, false, ◌||◌}
use mathlib.Core.List.{List}
use Prim.Native.Nat.{ℕ, zero, suc}
use native.Mathlib.Omega.{arith}
use lib.Dec.{eqb}
use lib.ListN.{length}
use borrow.Author.Tests.{le-leb, eq-eqb, ne_eqb}
use Rattle.lent_bytes.specs.Equal.{equal}
use Rattle.refusals.specs.Tests.{test, or_else}
use Rattle.refusals.specs.declared.Refusal.{Refusal}
use Rattle.entries.specs.Walk.{walk_of}
use Rattle.entries.specs.Walk.{Walked}
use Rattle.entries.proofs.WalkLaws.{walk_refused}
use Rattle.par1_rules.specs.Layout.{signature, signature_of, version_of, control_hash_of, set_hash_of}
use Rattle.par1_rules.specs.Layout.{volume_number_of, count_of, data_size_of, list_of}
use Rattle.par1_rules.specs.Hashes.{set_hash, control_hash}
use Rattle.par1_rules.specs.Rules.{length_allowed, version_allowed, layout_allowed, number_allowed, data_allowed}
use Rattle.par1_read.specs.Claim.{FormerSix, FormerThree}
use Rattle.par1_read.specs.Former.{former_number, former_in_list, former_refusal}
use Rattle.par1_read.specs.Reading.{header_refusal, control_refusal, totals_refusal, list_refusal, refusal_from}
use Rattle.par1_read.specs.Reading.{entries_in, read_of, reading_refusal}
use Rattle.par1_read.proofs.ReadingLaws.{refusal_of, read_accepted, read_refused}

record Formerly (n k : ℕ) : Type 0 where
  former_is : k ≡ former_number n
  not_six : n ≡ 6 → ⊥

tests_formerly : (a b c d e : Bool) (r : Refusal) (k : ℕ) → Formerly r.number k
    → Formerly (or_else (test 1 a (test 2 b (test 3 c (test 4 d 0)))) (or_else (test 5 e 0) r)).number
    (test 1 a (test 2 b (test 3 c (test 4 d (test 5 e k)))))
tests_formerly false b c d e r k f = record { former_is = refl; not_six = λ z. omega arith }
tests_formerly true false c d e r k f = record { former_is = refl; not_six = λ z. omega arith }
tests_formerly true true false d e r k f = record { former_is = refl; not_six = λ z. omega arith }
tests_formerly true true true false e r k f = record { former_is = refl; not_six = λ z. omega arith }
tests_formerly true true true true false r k f = record { former_is = refl; not_six = λ z. omega arith }
tests_formerly true true true true true r k f = f

totals_formerly : (a b c d : Bool) → Formerly (test 19 a (test 7 b (test 8 c (test 9 d 0)))) (test 6 a (test 7 b (test 8 c (test 9 d 0))))
totals_formerly false b c d = record { former_is = refl; not_six = λ z. omega arith }
totals_formerly true false c d = record { former_is = refl; not_six = λ z. omega arith }
totals_formerly true true false d = record { former_is = refl; not_six = λ z. omega arith }
totals_formerly true true true false = record { former_is = refl; not_six = λ z. omega arith }
totals_formerly true true true true = record { former_is = refl; not_six = λ z. omega arith }

former_version : (v : ℕ) → (v ≡ 131328 → ⊥) → version_allowed v ≡ eqb v 65536
unfolding version_allowed
former_version v h = ap (λ (b : Bool). eqb v 65536 || b) (ne_eqb _ _ h) ∙ by (eqb v 65536)
  where
    by : (b : Bool) → (b || false) ≡ b
    by true = refl
    by false = refl

module _ (f : List ℕ) where
  list_formerly : (w : Walked) → walk_of (list_of f) ≡ w → Formerly (list_refusal f (set_hash (entries_in f)) w).number (former_in_list f w)
  unfolding totals_refusal
  list_formerly (Ok t) e =
      totals_formerly (eqb t.entries (count_of f)) (number_allowed (volume_number_of f) t.saved) (equal (set_hash_of f) (set_hash (entries_in f)))
      (data_allowed (volume_number_of f) t.greatest (data_size_of f))
  list_formerly (Err r) e = let told = walk_refused (list_of f) e in
      record {
        former_is = simp (le-leb 16 r.number told.low, le-leb r.number 19 (omega (arith, told.high)));
        not_six = λ z. omega (arith, told.low);
      }

  -- the former tests, with any answer to test 3
  abbrev former_with : Bool → ℕ
  former_with versioned =
      test 1 (length_allowed (length f))
      (test 2 (eqb (signature_of f) signature)
      (test 3 versioned
      (test 4 (layout_allowed f (length f))
      (test 5 (equal (control_hash_of f) (control_hash f)) (former_in_list f (walk_of (list_of f)))))))

  refusal_formerly : Formerly (refusal_of f).number (former_with (version_allowed (version_of f)))
  unfolding refusal_of refusal_from header_refusal control_refusal
  refusal_formerly =
      tests_formerly (length_allowed (length f)) (eqb (signature_of f) signature) (version_allowed (version_of f)) (layout_allowed f (length f))
      (equal (control_hash_of f) (control_hash f)) (list_refusal f (set_hash (entries_in f)) (walk_of (list_of f))) (former_in_list f (walk_of (list_of f)))
      (list_formerly (walk_of (list_of f)) refl)

  reading_number : (refusal_of f).number ≡ (reading_refusal (read_of f)).number
  reading_number = by (refusal_of f).number refl
    where
      by : (n : ℕ) → n ≡ (refusal_of f).number → n ≡ (reading_refusal (read_of f)).number
      by zero e = rw (read_accepted f (sym e))
      by (suc n) e = rw (read_refused f refl (λ z. omega arith)) e

pub former_six : FormerSix
unfolding former_refusal
former_six f = let formerly = subst (λ (n : ℕ). Formerly n (former_with f (version_allowed (version_of f)))) (reading_number f) (refusal_formerly f) in
    (λ other. ap (former_with f) (sym (former_version (version_of f) other)) ∙ formerly.former_is, formerly.not_six)

pub former_three : FormerThree
unfolding former_refusal
former_three f version long begins = simp (long, eq-eqb _ _ begins, version)
