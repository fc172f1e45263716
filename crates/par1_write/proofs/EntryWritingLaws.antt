-- Written entries.
--
--   length-entry     the length of an entry's bytes
--   EntryPassed, entry_passed     what the tests of writing an entry before 14, passed, tell
--   entry-refused, entry_short, entry-over     what writing gives: refused by them, refused with 14, and the entry stored at the front
-- A test of document 01 is passed where it does not hold.
-- Assumes nothing.
use Rattle.std.specs.Prelude.{Ok, Err}
use mathlib.Core.Path.{◌≡◌, sym, ap, ◌∙◌}
use mathlib.Core.Bool.{true}
use mathlib.Core.List.{List, flatten}
use Prim.Native.Nat.{ℕ, ◌+◌, ◌≤◌, ◌<◌}
use native.Mathlib.Omega.{arith}
use lib.ListN.{length, length-append}
use lib.Seq.{sets}
use Rattle.lent_bytes.proofs.StoreLaws.{sets_over}
use Rattle.lent_bytes.proofs.WritingLaws.{written_fits, written_short, unless_none, unless_refused}
use Rattle.little_endian.proofs.Numbers.{length-to_le}
use Rattle.entries.specs.Entry.{name_allowed, file_size_allowed}
use Rattle.par1_write.specs.EntryWriting.{entry_bytes, status_allowed, entry_refusal, write_entry_of}
use Rattle.par1_rules.proofs.HashLaws.{length-md5}
use Rattle.refusals.specs.Tests.{bare}
use Rattle.refusals.specs.declared.Refusal.{Refusal}
use Rattle.refusals.proofs.TestLaws.{test_passed}

pub length-entry : (m : List ℕ) (status : ℕ) (name : List ℕ) → length (entry_bytes m status name) ≡ 56 + length name
unfolding entry_bytes flatten
length-entry m status name = simp (length-append, length-to_le, length-md5) (omega arith)

-- ---- the tests

pub record EntryPassed (size status : ℕ) (name : List ℕ) : Type 0 where
  pub size_right : file_size_allowed size ≡ true
  pub status_right : status_allowed status ≡ true
  pub name_right : name_allowed name ≡ true

pub entry_passed : (size status : ℕ) (name : List ℕ) → entry_refusal size status name ≡ 0 → EntryPassed size status name
unfolding entry_refusal
entry_passed size status name e = let one = test_passed _ (file_size_allowed size) _ (omega arith) e in
    let two = test_passed _ (status_allowed status) _ (omega arith) one.1 in
    let three = test_passed _ (name_allowed name) _ (omega arith) two.1 in
    record { size_right = one.0; status_right = two.0; name_right = three.0 }

-- ---- what writing gives, from the number n that the tests gave

module _ (m : List ℕ) (status : ℕ) (name out : List ℕ) {n : ℕ} (e : n ≡ entry_refusal (length m) status name) where
  pub entry-refused : {r : Refusal} {t : List ℕ} → r ≡ bare n → (n ≡ 0 → ⊥) → t ≡ out → (Err r, t) ≡ write_entry_of m status name out
  unfolding write_entry_of
  entry-refused is h same = rw is (unless_refused (entry_bytes m status name) out (ap bare e) h same)

  pub entry_short : {r : Refusal} → r ≡ bare 14 → n ≡ 0 → length out < 56 + length name → (Err r, out) ≡ write_entry_of m status name out
  unfolding write_entry_of
  entry_short is z h = let s : List ℕ = entry_bytes m status name in
      rw is (unless_none s out (ap bare e) z (written_short s out (omega (arith, length-entry m status name))))

  pub entry-over : {t : List ℕ} → n ≡ 0 → 56 + length name ≤ length out → t ≡ sets out 0 (entry_bytes m status name)
      → (Ok (56 + length name), t) ≡ write_entry_of m status name out
  unfolding write_entry_of
  entry-over z h wrote = let s : List ℕ = entry_bytes m status name in
      let size : 56 + length name ≡ length s = sym (length-entry m status name) in
      let fits : length s ≤ length out = omega arith in
      unless_none s out (ap bare e) z (written_fits s out fits size (wrote ∙ sets_over out s fits))
