-- Which refusal the call gives, and what it leaves of the room.
--
--   change_none      the tests after those of reading pass
--   amend_is         what the call gives, where its length does not pass the room
--   amend_read       where the volume is read, too
--   first_fails, first_of     what a test that fails gives; one fails, or the call is accepted
--   amend_first      the same of all tests
--   amend_refused    the first refusal, in the document's order, and no other
--   amend_by          what the call gives, by whether its length passes the room
--   room_kept        what an accepted call leaves of the room
--   ChangePassed, change_passed     what the tests after those of reading, passed, tell
-- A test is passed where it does not hold.
-- Assumes nothing.
use Rattle.std.specs.Prelude.{Ok, Err}
use mathlib.Core.Path.{◌≡◌, refl, sym, ap, ap₂, ◌∙◌}
use mathlib.Core.Bool.{Bool, true, false, cond}
use mathlib.Core.List.{List}
use Prim.Native.Nat.{ℕ, ◌≤◌, ◌<◌}
use native.Mathlib.Decide.{dec_lt}
use native.Mathlib.Omega.{arith}
use lib.Dec.{leb}
use lib.ListN.{length, take, drop, length-append, length-drop}
use lib.Seq.{drop-append_seam}
use borrow.Author.Tests.{le-leb, lt-leb}
use Rattle.codes.specs.declared.Code.{Code}
use Rattle.lent_bytes.specs.Writing.{refused, accepted, written_unless}
use Rattle.lent_bytes.specs.Writing.{Writing}
use Rattle.lent_bytes.proofs.WritingLaws.{written_short, unless_none, unless_refused, unless_accepted, unless_tells, never, refused_exactly}
use Rattle.par1.specs.Checking.{lone_refusal}
use Rattle.par1.proofs.Faults.{lone_number_lem, lone_some, lone_first, lone_passed, lone_kept}
use Rattle.par1_read.specs.Reading.{entries_in, read_of}
use Rattle.par1_read.specs.declared.reading.Parts.{Parts}
use Rattle.par1_read.specs.Reading.{Reading}
use Rattle.par1_read.proofs.ReadingLaws.{refused_some}
use Rattle.par1_rules.specs.Rules.{length_allowed}
use Rattle.refusals.proofs.OrderLaws.{Decides, passes, fails, fails_where, passes_where}
use Rattle.par1_rules.proofs.RuleLaws.{Between, between, long_enough, too_long}
use Rattle.refusals.specs.Limits.{max_volume_length}
use Rattle.refusals.specs.Tests.{bare, test}
use Rattle.refusals.specs.declared.Refusal.{Refusal}
use Rattle.refusals.proofs.TestLaws.{test_passed, or_else_lem, or-none}
use Rattle.amending.specs.Amending.{Change, amend_volume}
use Rattle.amending.specs.Call.{change_allowed, entry_in, file_allowed, change_refusal, amend_refusal, amend_of}
use Rattle.amending.specs.Claim as claim
use Rattle.amending.specs.Claim.{AmendRefused, RoomKept}
use Rattle.amending.proofs.FailedTests.{missing_decides, wrong_decides}
use Rattle.amending.proofs.FoundEntries.{Read, volume_read, found, length-amended}

-- ---- the tests after those of reading

pub change_none : (rules : Code → ℕ → ℕ → ℕ) (c : Change) (d vol : List ℕ) → file_allowed c.file vol ≡ true → lone_refusal d ≡ 0
    → change_allowed c.place (length c.old) (length c.new) (entry_in c.file (entries_in vol)) d ≡ true
    → Between (length (amend_volume rules c d vol)) → change_refusal rules c d vol ≡ bare 0
unfolding change_refusal
change_none rules c d vol file_right lone change total =
    simp (file_right, lone, change, long_enough (length (amend_volume rules c d vol)) total.low total.high)

-- ---- what the call gives

module _ (rules : Code → ℕ → ℕ → ℕ) (n : ℕ) (c : Change) (d out : List ℕ) where
  pub amend_past : length out < n → amend_of rules n c d out ≡ refused (bare 14) out
  unfolding amend_of
  amend_past h = simp (lt-leb n (length out) h)

  module _ {vol : List ℕ} (h : n ≤ length out) (is : take n out ≡ vol) where
    pub amend_is : amend_of rules n c d out ≡ written_unless (amend_refusal rules c d vol (read_of vol)) (amend_volume rules c d vol) out
    unfolding amend_of
    amend_is =
        simp (le-leb n (length out) h)
        (ap (λ (t : List ℕ). written_unless (amend_refusal rules c d t (read_of t)) (amend_volume rules c d t) out) is)

    amend_unread : {r : Refusal} → read_of vol ≡ Err r → amend_of rules n c d out ≡ refused r out
    amend_unread {r} e =
        amend_is ∙ sym (unless_refused (amend_volume rules c d vol) out
        (sym (ap (λ (k : Reading). amend_refusal rules c d vol k) e)) (refused_some vol e) refl)

    pub amend_read : {p : Parts} → read_of vol ≡ Ok p
        → amend_of rules n c d out ≡ written_unless (change_refusal rules c d vol) (amend_volume rules c d vol) out
    amend_read e = amend_is ∙ ap (λ (k : Reading). written_unless (amend_refusal rules c d vol k) (amend_volume rules c d vol) out) e

-- ---- the claims

module _ (rules : Code → ℕ → ℕ → ℕ) (c : Change) (d vol out : List ℕ) (read : Read vol) where
  -- a number that the tests give
  number_refused : (k : ℕ) → change_refusal rules c d vol ≡ bare k → (k ≡ 0 → ⊥)
      → written_unless (change_refusal rules c d vol) (amend_volume rules c d vol) out ≡ refused (bare k) out
  number_refused k e some = sym (unless_refused (amend_volume rules c d vol) out (sym e) some refl)

  total_low : file_allowed c.file vol ≡ true → lone_refusal d ≡ 0
      → change_allowed c.place (length c.old) (length c.new) (entry_in c.file (entries_in vol)) d ≡ true
      → 96 ≤ length (amend_volume rules c d vol)
  total_low f l s = let at = found vol read c.file c.place (length c.old) (length c.new) d f l s in
      let size = length-amended vol read c d at rules in omega arith

  abbrev was : List ℕ
  was = entry_in c.file (entries_in vol)

  -- the file is there, and the change is right
  file_passes : (claim.NoSuchFile c.file vol → ⊥) → file_allowed c.file vol ≡ true
  file_passes = passes_where (missing_decides c.file vol)

  right_passes : (claim.WrongChange c was d → ⊥) → change_allowed c.place (length c.old) (length c.new) was d ≡ true
  right_passes = passes_where (wrong_decides c was d)

  first_fails : {k : ℕ} → claim.Fails rules c d vol out k
      → written_unless (change_refusal rules c d vol) (amend_volume rules c d vol) out ≡ refused (bare k) out
  unfolding change_refusal
  first_fails (claim.no_file_lem f) = number_refused 10 (simp (fails_where (missing_decides c.file vol) f)) (λ z. omega arith)
  first_fails (claim.bad_entry {k} f l) = number_refused k (simp (file_passes f, lone_number_lem l) (or_else_lem k _ (lone_some l))) (lone_some l)
  first_fails (claim.bad_change f l s) =
      number_refused 21 (simp (file_passes f, lone_passed d l, fails_where (wrong_decides c was d) s)) (λ z. omega arith)
  first_fails (claim.too_long f l s h) =
      number_refused 1 (simp (file_passes f, lone_passed d l, right_passes s, too_long (length (amend_volume rules c d vol)) h)) (λ z. omega arith)
  first_fails (claim.no_room f l s high h) = let file = file_passes f in
      let lone = lone_passed d l in
      let change = right_passes s in
      let none = change_none rules c d vol file lone change (record { low = total_low file lone change; high = high }) in
      sym (unless_none (amend_volume rules c d vol) out (sym none) refl (written_short (amend_volume rules c d vol) out h))

  -- one of the tests fails, or the call is accepted
  first_of : (P : Type 0) → ((k : ℕ) → claim.Fails rules c d vol out k → P)
      → (written_unless (change_refusal rules c d vol) (amend_volume rules c d vol) out ≡ accepted (amend_volume rules c d vol) out → P) → P
  first_of P some none = by (missing_decides c.file vol)
    where
      kept : file_allowed c.file vol ≡ true → (claim.NoSuchFile c.file vol → ⊥) → lone_refusal d ≡ 0
          → Decides (change_allowed c.place (length c.old) (length c.new) was d) (claim.WrongChange c was d)
          → Dec (max_volume_length < length (amend_volume rules c d vol)) → Dec (length out < length (amend_volume rules c d vol)) → P
      kept p f l (fails q s) long room = some 21 (claim.bad_change f (lone_kept d l) s)
      kept p f l (passes q s) (yes h) room = some 1 (claim.too_long f (lone_kept d l) s h)
      kept p f l (passes q s) (no h) (yes k) = some 14 (claim.no_room f (lone_kept d l) s (omega arith) k)
      kept p f l (passes q s) (no h) (no k) =
          let passed = change_none rules c d vol p l q (record { low = total_low p l q; high = omega arith }) in
          let room : length (amend_volume rules c d vol) ≤ length out = omega arith in
          none (unless_accepted (change_refusal rules c d vol) (amend_volume rules c d vol) out (ap (λ (r : Refusal). r.number) passed) room)

      by : Decides (file_allowed c.file vol) (claim.NoSuchFile c.file vol) → P
      by (fails p f) = some 10 (claim.no_file_lem f)
      by (passes p f) =
          lone_first d P (λ k broken. some k (claim.bad_entry f broken))
          (λ l. kept p f l (wrong_decides c was d) (dec_lt max_volume_length (length (amend_volume rules c d vol)))
          (dec_lt (length out) (length (amend_volume rules c d vol))))

module _ (rules : Code → ℕ → ℕ → ℕ) (n : ℕ) (c : Change) (d out : List ℕ) where
  amend_refuses : {r : Refusal} → claim.Refuses rules n c d out r → amend_of rules n c d out ≡ refused r out
  amend_refuses (claim.past_room h) = amend_past rules n c d out h
  amend_refuses (claim.unread h e) = amend_unread rules n c d out h refl e
  amend_refuses (claim.fails h e f) = amend_read rules n c d out h refl e ∙ first_fails rules c d (take n out) out (volume_read (take n out) e).0 f

  -- one of the tests fails, or the call is accepted
  amend_first : (P : Type 0) → ((r : Refusal) → claim.Refuses rules n c d out r → P)
      → (amend_of rules n c d out ≡ accepted (amend_volume rules c d (take n out)) out → P) → P
  amend_first P some none = elim (dec_lt (length out) n) [
    | yes h ↦ some _ (claim.past_room h)
    | no h ↦ by (omega arith) (read_of (take n out)) refl
  ]
    where
      by : n ≤ length out → (k : Reading) → read_of (take n out) ≡ k → P
      by h (Err q) is = some _ (claim.unread h is)
      by h (Ok p) is =
          first_of rules c d (take n out) out (volume_read (take n out) is).0 P (λ k f. some _ (claim.fails h is f))
          (λ passed. none (amend_read rules n c d out h refl is ∙ passed))

pub amend_refused : AmendRefused
amend_refused rules n c d out =
    refused_exactly (claim.Refuses rules n c d out) (amend_volume rules c d (take n out)) out (λ r f. amend_refuses rules n c d out f)
    (amend_first rules n c d out)

-- ---- the room

-- where the length passes the room, and where it does not
module _ (rules : Code → ℕ → ℕ → ℕ) (n : ℕ) (c : Change) (d out : List ℕ) where
  unfoldable pub amend_by : Bool → Writing × List ℕ
  amend_by b = let vol : List ℕ = take n out in
      cond b (written_unless (amend_refusal rules c d vol (read_of vol)) (amend_volume rules c d vol) out) (refused (bare 14) out)

  written_kept : {k : ℕ} {room : List ℕ} → amend_of rules n c d out ≡ (Ok k, room) → (length room ≡ length out) × (drop k room ≡ drop k out)
  unfolding amend_of amend_by
  written_kept {k} {room} e = by (leb n (length out)) e
    where
      by : (b : Bool) → amend_by b ≡ (Ok k, room) → (length room ≡ length out) × (drop k room ≡ drop k out)
      by true e = let vol : List ℕ = take n out in
          let s : List ℕ = amend_volume rules c d vol in
          let m : Refusal = amend_refusal rules c d vol (read_of vol) in
          let told = unless_tells m s out e in
          let size = told.length_is in (
            omega (arith, ap length told.room_is, length-append s (drop (length s) out), length-drop (length s) out, told.fits),
            ap₂ (λ (j : ℕ) (l : List ℕ). drop j l) size told.room_is ∙ drop-append_seam s (drop (length s) out)
                ∙ ap (λ (j : ℕ). drop j out) (sym size),
          )
      by false e = never e

pub room_kept : RoomKept
room_kept rules n c d out k room e = written_kept rules n c d out e

-- ---- what the tests after those of reading tell

module _ (rules : Code → ℕ → ℕ → ℕ) (c : Change) (d vol : List ℕ) where
  pub record ChangePassed : Type 0 where
    pub file_right : file_allowed c.file vol ≡ true
    pub lone : lone_refusal d ≡ 0
    pub change : change_allowed c.place (length c.old) (length c.new) (entry_in c.file (entries_in vol)) d ≡ true
    pub total : Between (length (amend_volume rules c d vol))

  pub change_passed : (change_refusal rules c d vol).number ≡ 0 → ChangePassed
  unfolding change_refusal
  change_passed z = let ten = or-none (test 10 (file_allowed c.file vol) 0) _ z in
      let lone = or-none (lone_refusal d) _ ten.1 in
      let e : List ℕ = entry_in c.file (entries_in vol) in
      let change = test_passed 21 (change_allowed c.place (length c.old) (length c.new) e d) _ (omega arith) lone.1 in
      let one = test_passed 1 (length_allowed (length (amend_volume rules c d vol))) 0 (omega arith) change.1 in
      record {
        file_right = (test_passed 10 (file_allowed c.file vol) 0 (omega arith) ten.0).0;
        lone = lone.0;
        change = change.0;
        total = between _ one.0;
      }
