-- Which lengths and which refusals an amendment gives.
--
--   lone_most, change_most     the numbers of the tests after those of reading
--   accepted_most              an amended volume is no longer than a volume may be
--   refused_most               a number of at most 21, and the place of an entry of 58 bytes or more in the room
-- Assumes nothing.
use Rattle.std.specs.Prelude.{Some, None, Ok, Err}
use mathlib.Core.Path.{◌≡◌, refl, subst}
use mathlib.Core.Bool.{Bool, true, false, cond}
use mathlib.Core.List.{List}
use Prim.Native.Nat.{ℕ, zero, suc, ◌+◌, ◌/◌, ◌≤◌}
use native.Mathlib.Omega.{arith}
use lib.Dec.{leb, eqb}
use lib.ListN.{length, take}
use lib.Seq.{length-take-le}
use borrow.Author.Tests.{leb-true}
use Rattle.codes.specs.declared.Code.{Code}
use Rattle.refusals.specs.Limits.{max_volume_length}
use Rattle.refusals.specs.Tests.{bare, test, or_else}
use Rattle.refusals.specs.declared.Refusal.{Refusal}
use Rattle.refusals.proofs.RangeLaws.{AtMost, most_more, bare_most}
use Rattle.lent_bytes.specs.Writing.{refused, accepted, written, written_unless}
use Rattle.lent_bytes.proofs.WritingLaws.{never, unless_tells, not-refused, refused_tells}
use Rattle.entries.specs.Entry.{entry_size}
use Rattle.entries.specs.Walk.{Item, first_of}
use Rattle.entries.specs.declared.Fault.TheVariants.{Size, FileSize, Name}
use Rattle.par1.specs.Checking.{item_number, lone_refusal}
use Rattle.par1_read.specs.Reading.{entries_in, read_of}
use Rattle.par1_read.specs.Reading.{Reading}
use Rattle.par1_read.proofs.RangeLaws.{read_within}
use Rattle.par1_read.proofs.ReadingLaws.{refused_some}
use Rattle.par1_rules.specs.Rules.{length_allowed}
use Rattle.amending.specs.Amending.{Change, amend_volume}
use Rattle.amending.specs.Call.{change_allowed, entry_in, file_allowed, change_refusal, amend_refusal, amend_of}
use Rattle.amending.proofs.Refusals.{amend_by, change_passed}

lone_most : (e : List ℕ) → lone_refusal e ≤ 18
unfolding lone_refusal
lone_most e = by (eqb (entry_size e) (length e)) (first_of e)
  where
    by : (b : Bool) (i : Item) → test 16 b (item_number i) ≤ 18
    by false i = omega arith
    by true (Ok (Some e)) = omega arith
    by true (Ok None) = omega arith
    by true (Err Size) = omega arith
    by true (Err FileSize) = omega arith
    by true (Err Name) = omega arith

abbrev Most : ℕ → Refusal → Type 0
Most k r = AtMost 21 k r

change_most : (k : ℕ) (a : Bool) (l : ℕ) (b y : Bool) → l ≤ 18 → Most k (or_else (test 10 a 0) (or_else l (bare (test 21 b (test 1 y 0)))))
change_most k false l b y h = record { number_most = omega arith; place_most = omega arith }
change_most k true (suc l) b y h = record { number_most = omega arith; place_most = omega arith }
change_most k true zero false y h = record { number_most = omega arith; place_most = omega arith }
change_most k true zero true false h = record { number_most = omega arith; place_most = omega arith }
change_most k true zero true true h = record { number_most = omega arith; place_most = omega arith }

module _ (rules : Code → ℕ → ℕ → ℕ) (c : Change) (d vol : List ℕ) where
  refusal_most : (q : Reading) → read_of vol ≡ q → Most (length vol / 58 + 1) (amend_refusal rules c d vol q)
  unfolding change_refusal
  refusal_most (Err r) e = most_more (omega arith) (omega arith) (read_within vol e)
  refusal_most (Ok p) e = let was : List ℕ = entry_in c.file (entries_in vol) in
      change_most (length vol / 58 + 1) (file_allowed c.file vol) (lone_refusal d)
      (change_allowed c.place (length c.old) (length c.new) was d) (length_allowed (length (amend_volume rules c d vol))) (lone_most d)

  total_most : (q : Reading) → read_of vol ≡ q → (amend_refusal rules c d vol q).number ≡ 0 → length (amend_volume rules c d vol) ≤ max_volume_length
  total_most (Err r) e z = absurd (refused_some vol e z)
  total_most (Ok p) e z = (change_passed rules c d vol z).total.high

module _ (rules : Code → ℕ → ℕ → ℕ) (n : ℕ) (c : Change) (d out : List ℕ) where
  pub accepted_most : {k : ℕ} {t : List ℕ} → amend_of rules n c d out ≡ (Ok k, t) → k ≤ max_volume_length
  unfolding amend_of amend_by
  accepted_most {k} {t} e = by (leb n (length out)) e
    where
      by : (b : Bool) → amend_by rules n c d out b ≡ (Ok k, t) → k ≤ max_volume_length
      by true e = let vol : List ℕ = take n out in
          let m : Refusal = amend_refusal rules c d vol (read_of vol) in
          let s : List ℕ = amend_volume rules c d vol in
          let told = unless_tells m s out e in
          omega (arith, told.length_is, total_most rules c d vol (read_of vol) refl told.none)
      by false e = never e

  pub refused_most : {r : Refusal} {t : List ℕ} → amend_of rules n c d out ≡ (Err r, t) → Most (length out / 58 + 1) r
  unfolding amend_of amend_by written_unless written
  refused_most {r} {t} e = by (leb n (length out)) refl e
    where
      refused_by : {m : Refusal} {s : List ℕ} → Most (length out / 58 + 1) m → refused m s ≡ (Err r, t) → Most (length out / 58 + 1) r
      refused_by w e = subst (Most (length out / 58 + 1)) (refused_tells e).0 w

      tested : (m : Refusal) (s : List ℕ) → Most (length out / 58 + 1) m → (z f : Bool)
          → cond z (cond f (accepted s out) (refused (bare 14) out)) (refused m out) ≡ (Err r, t) → Most (length out / 58 + 1) r
      tested m s w true true e = not-refused s out e
      tested m s w true false e = refused_by (bare_most 21 _ 14 (omega arith)) e
      tested m s w false f e = refused_by w e

      by : (b : Bool) → leb n (length out) ≡ b → amend_by rules n c d out b ≡ (Err r, t) → Most (length out / 58 + 1) r
      by true l e = let vol : List ℕ = take n out in
          let size : length vol ≡ n = length-take-le n out (leb-true n (length out) l) in
          let h = leb-true n (length out) l in
          let m : Refusal = amend_refusal rules c d vol (read_of vol) in
          let s : List ℕ = amend_volume rules c d vol in
          tested m s (most_more (omega arith) (omega arith) (refusal_most rules c d vol (read_of vol) refl)) (eqb m.number 0) (leb (length s) (length out)) e
      by false l e = refused_by (bare_most 21 _ 14 (omega arith)) e
