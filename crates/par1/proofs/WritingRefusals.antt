-- Which refusal writing gives, and that it leaves the room.
--
--   volume_refuses, volume_first     what a test that fails gives; one fails, or the volume is written
--   entry_refuses, entry_first       the same of an entry
--   volume_refused, entry-refused    the claims
-- A test is passed where it does not hold.
-- Assumes nothing.
use Rattle.std.specs.Prelude.{Ok, Err}
use mathlib.Core.Path.{◌≡◌, refl, sym, ap, ◌∙◌}
use mathlib.Core.Bool.{Bool, true, false}
use mathlib.Core.List.{List}
use Prim.Native.Nat.{ℕ, ◌+◌, ◌<◌}
use native.Mathlib.Decide.{dec_lt}
use native.Mathlib.Omega.{arith}
use lib.ListN.{length}
use borrow.Author.Tests.{le-leb, lt-leb}
use Rattle.lent_bytes.specs.Writing.{refused, accepted, written_unless}
use Rattle.lent_bytes.proofs.WritingLaws.{refused_exactly, unless_refused}
use Rattle.codes.specs.declared.Code.{Code}
use Rattle.entries.specs.Claim.{BadName}
use Rattle.entries.specs.Entry.{file_size_allowed, name_allowed}
use Rattle.entries.specs.Walk.{walk_of}
use Rattle.entries.specs.declared.Totals.{Totals}
use Rattle.entries.specs.Walk.{Walked}
use Rattle.entries.proofs.FirstFaults.{first_refused}
use Rattle.par1_rules.specs.Rules.{number_allowed, data_allowed}
use Rattle.par1_rules.proofs.RuleLaws.{too_long}
use Rattle.par1_write.specs.EntryWriting.{entry_bytes, entry_refusal, write_entry_of}
use Rattle.par1_write.specs.VolumeWriting.{volume_bytes, volume_refusal, walk_refusal, write_volume_of}
use Rattle.par1_write.proofs.EntryWritingLaws as laws
use Rattle.par1_write.proofs.VolumeWritingLaws.{volume_none, length_volume, volume_short}
use Rattle.refusals.specs.Limits.{max_file_size, max_volume_length}
use Rattle.refusals.specs.Tests.{bare, test}
use Rattle.refusals.specs.declared.Refusal.{Refusal}
use Rattle.par1.specs.Claim.{BadNumber, BadData, VolumeRefuses, VolumeRefused, EntryRefuses, EntryRefused}
use Rattle.par1.specs.Claim.{list_fault, bad_number, bad_data, total_long, volume_room}
use Rattle.par1.specs.Claim.{long_contents, other_status, bad_name, entry_room}
use Rattle.par1.proofs.EntryWritten.{entry-accepted}
use Rattle.refusals.proofs.OrderLaws.{Decides, passes, fails, fails_where, passes_where}
use Rattle.par1.proofs.FailedTests.{number_decides, data_decides, name_decides}
use Rattle.par1.proofs.Faults.{fault_written}
use Rattle.par1.proofs.ReadWritten.{volume_accepted}

-- ---- a volume

module _ (c : Code) (program number : ℕ) (list area out : List ℕ) where
  -- a number that tests 7, 9 and 1 give
  number_refused : {t : Totals} (k : ℕ) → walk_of list ≡ Ok t → volume_refusal number t (length list) (length area) ≡ k → (k ≡ 0 → ⊥)
      → write_volume_of c program number list area out ≡ refused (bare k) out
  unfolding write_volume_of
  number_refused k e is some = let s : List ℕ = volume_bytes c program number list area in
      ap (λ (w : Walked). written_unless (walk_refusal number w (length list) (length area)) s out) e
      ∙ sym (unless_refused s out (ap bare (sym is)) some refl)

  volume_refuses : {r : Refusal} → VolumeRefuses number list area out r → write_volume_of c program number list area out ≡ refused r out
  unfolding volume_refusal
  volume_refuses {r} (list_fault f) = fault_written c program number list area out r f
  volume_refuses (bad_number {t} e b) = number_refused 7 e (simp (fails_where (number_decides number t.saved) b)) (λ z. omega arith)
  volume_refuses (bad_data {t} e n b) = let seven = passes_where (number_decides number t.saved) n in
      let nine = fails_where (data_decides number t.greatest (length area)) b in number_refused 9 e (simp (seven, nine)) (λ z. omega arith)
  volume_refuses (total_long {t} e n d h) = let seven = passes_where (number_decides number t.saved) n in
      let nine = passes_where (data_decides number t.greatest (length area)) d in
      number_refused 1 e (simp (seven, nine, too_long (96 + length list + length area) h)) (λ z. omega arith)
  volume_refuses (volume_room {t} e n d high h) = let seven = passes_where (number_decides number t.saved) n in
      let nine = passes_where (data_decides number t.greatest (length area)) d in
      let none = volume_none number t (length list) (length area)
      (record { number_right = seven; data_right = nine; size = record { low = omega arith; high = high } }) in
      sym (volume_short c program number list area out (sym e) refl refl none h)

  -- one of the tests fails, or the volume is written
  volume_first : (P : Type 0) → ((r : Refusal) → VolumeRefuses number list area out r → P)
      → (write_volume_of c program number list area out ≡ accepted (volume_bytes c program number list area) out → P) → P
  volume_first P some none = by (walk_of list) refl
    where
      sized : {t : Totals} → walk_of list ≡ Ok t → Decides (number_allowed number t.saved) (BadNumber number t.saved)
          → Decides (data_allowed number t.greatest (length area)) (BadData number t.greatest (length area))
          → Dec (max_volume_length < 96 + length list + length area) → Dec (length out < 96 + length list + length area) → P
      sized e (fails p b) nine total room = some _ (bad_number e b)
      sized e (passes p n) (fails q b) total room = some _ (bad_data e n b)
      sized e (passes p n) (passes q d) (yes h) room = some _ (total_long e n d h)
      sized e (passes p n) (passes q d) (no h) (yes k) = some _ (volume_room e n d (omega arith) k)
      sized {t} e (passes p n) (passes q d) (no h) (no k) =
          let size : length (volume_bytes c program number list area) ≡ 96 + length list + length area = length_volume c program number list area in
          none (volume_accepted c program number list area out t e p q (omega arith) (omega arith))

      by : (w : Walked) → walk_of list ≡ w → P
      by (Err r) e = some _ (list_fault ((first_refused list r).0 e))
      by (Ok t) e = let total : ℕ = 96 + length list + length area in
          sized e (number_decides number t.saved) (data_decides number t.greatest (length area)) (dec_lt max_volume_length total) (dec_lt (length out) total)

pub volume_refused : VolumeRefused
volume_refused c program number list area out =
    refused_exactly (VolumeRefuses number list area out) (volume_bytes c program number list area) out
    (λ r f. volume_refuses c program number list area out f) (volume_first c program number list area out)

-- ---- an entry

-- contents and status have one number
either_17 : (sized : Bool) → test 17 sized 17 ≡ 17
either_17 true = refl
either_17 false = refl

module _ (m : List ℕ) (status : ℕ) (name out : List ℕ) where
  -- a number that the tests before 14 give
  entry_number : (k : ℕ) → entry_refusal (length m) status name ≡ k → (k ≡ 0 → ⊥) → write_entry_of m status name out ≡ refused (bare k) out
  entry_number k is some = sym (laws.entry-refused m status name out (sym is) refl some refl)

  entry_refuses : {r : Refusal} → EntryRefuses m status name out r → write_entry_of m status name out ≡ refused r out
  unfolding entry_refusal
  entry_refuses (long_contents h) = entry_number 17 (simp (lt-leb (length m) max_file_size h)) (λ z. omega arith)
  entry_refuses (other_status h) = entry_number 17 (simp (lt-leb status 1 h) (either_17 (file_size_allowed (length m)))) (λ z. omega arith)
  entry_refuses (bad_name size small b) = let name_is = fails_where (name_decides name) b in
      entry_number 18 (simp (le-leb (length m) max_file_size size, le-leb status 1 small, name_is)) (λ z. omega arith)
  entry_refuses (entry_room size small good h) = let name_is = passes_where (name_decides name) good in
      let none : entry_refusal (length m) status name ≡ 0 = simp (le-leb (length m) max_file_size size, le-leb status 1 small, name_is) in
      sym (laws.entry_short m status name out (sym none) refl refl h)

  -- one of the tests fails, or the entry is written
  entry_first : (P : Type 0) → ((r : Refusal) → EntryRefuses m status name out r → P)
      → (write_entry_of m status name out ≡ accepted (entry_bytes m status name) out → P) → P
  entry_first P some none = by (dec_lt max_file_size (length m)) (dec_lt 1 status) (name_decides name) (dec_lt (length out) (56 + length name))
    where
      by : Dec (max_file_size < length m) → Dec (1 < status) → Decides (name_allowed name) (BadName name) → Dec (length out < 56 + length name) → P
      by (yes h) stated named room = some _ (long_contents h)
      by (no h) (yes k) named room = some _ (other_status k)
      by (no h) (no k) (fails p b) room = some _ (bad_name (omega arith) (omega arith) b)
      by (no h) (no k) (passes p good) (yes l) = some _ (entry_room (omega arith) (omega arith) good l)
      by (no h) (no k) (passes p good) (no l) =
          let size : length (entry_bytes m status name) ≡ 56 + length name = laws.length-entry m status name in
          none (entry-accepted m status name out (le-leb (length m) max_file_size (omega arith)) (omega arith) p (omega arith))

pub entry-refused : EntryRefused
entry-refused m status name out =
    refused_exactly (EntryRefuses m status name out) (entry_bytes m status name) out (λ r f. entry_refuses m status name out f) (entry_first m status name out)
