-- Request 2026-05: an amended volume is the one written afresh from the files as they are now, for each code (document 02, 2026-13: "amending
-- follows it").
--
--   AmendRight c fs        the change c may be made to the files fs and their volumes
--   entry_after c fs        the changed file's entry as it now is
--   Run fs vol gs w        amendments, one after another, that take the files fs and the bytes vol to the files gs and the bytes w
--   AmendedRight           the files after a change keep the rules
--   AmendedAfresh          after any run, a volume true at the start equals one written afresh
--   Kept c k n f g         what an amendment of the volume f to g leaves as it was
--   AmendedKept            every amendment of a true volume, with a true entry, leaves that
--   Holds k p v fs n out   volume v of the code k of the files fs stands in the first n bytes of the room
--   AmendAccepted          a change that may be made is made
--   Calls, CallsAfresh     after any run of calls, refused ones too, a volume true at the start equals one written afresh
--   NoSuchFile f vol       10: the volume vol has no file f, or is an index
--   WrongChange c e d      21: the change c of the file with the entry e, which is then d
--   Fails rules c d vol out k     k is the number of the first test that holds, of those after reading, for the change c of the volume vol and the new
--                          entry d
--   Refuses rules n c d out r     r is the first refusal of the call that holds, in the document's order
--   AmendRefused           the call gives it, and no byte of the room changes; and nothing else is refused: of the new entry no hash is verified
--   RoomKept               an accepted call leaves the room past the new length
-- What excludes an empty reading: a volume that is refused is no volume of files that keep the rules, a change that may be made is made
-- (`AmendAccepted`), and there are changes of both kinds that may be made (proofs/Examples.antt).
-- The contract of amend cites amend_of.
-- Assumes nothing.
use Rattle.std.specs.Prelude.{◌≡◌, true, List, [], ℕ, ◌+◌, ◌-◌, ◌^◌, ◌<◌, ◌≤◌, max, length, take, drop, get_or, Ok, Err}
use Rattle.refusals.specs.Limits.{max_volume_length}
use Rattle.refusals.specs.Tests.{bare}
use Rattle.refusals.specs.declared.Refusal.{Refusal}
use Rattle.lent_bytes.specs.Writing.{accepted, RefusedExactly}
use Rattle.codes.specs.declared.Code.{Code}
use Rattle.entries.specs.Entry.{status_of, file_size_of, name_of, file_size_allowed}
use Rattle.entries.specs.Numbering.{saved_of}
use Rattle.par1.specs.Claim.{LoneBreaks}
use Rattle.par1_read.specs.Reading.{entries_in, read_of}
use Rattle.par1_read.specs.declared.reading.Parts.{Parts}
use Rattle.par1_rules.specs.Layout.{version_for, volume_number_of, data_size_of, list_of, data_of}
use Rattle.par1_set.specs.Files.{File, no_file, file_count, contents_of, entry_for, list_for, data_size_for}
use Rattle.par1_set.specs.Volume.{volume_for, VolumeRight}
use Rattle.parity.specs.Coefficient.{rule_of}
use Rattle.amending.specs.Amending.{Change, ChangeRight, spliced, changed, place_of, amended, amend_volume}
use Rattle.amending.specs.Call.{entry_in, amend_of}

-- "10", "21 stretch of neither kind", "17", "1"
pub record AmendRight (c : Change) (fs : List File) : Type 0 where
  pub low : 1 ≤ c.file
  pub high : c.file ≤ file_count fs
  pub change_right : ChangeRight (contents_of fs c.file) c
  pub size_right : file_size_allowed (length (spliced c (contents_of fs c.file))) ≡ true
  pub length_right : 96 + length (list_for fs) + max (data_size_for fs) (length (spliced c (contents_of fs c.file))) ≤ max_volume_length

abbrev pub entry_after : Change → List File → List ℕ
entry_after c fs = entry_for (changed c (get_or fs (place_of fs c.file) no_file))

-- "any run of such amendments .., given true old bytes and entries"
pub data Run : List File → List ℕ → List File → List ℕ → Type 0 where
  run_none : {fs : List File} {vol : List ℕ} → Run fs vol fs vol
  run_more : {fs gs : List File} {vol w : List ℕ} (c : Change) → AmendRight c fs
      → Run (amended c fs) (amend_volume rule_of c (entry_after c fs) vol) gs w → Run fs vol gs w

-- proved: proofs/Amends.antt, `amended_right`
abbrev pub AmendedRight : Type 0
AmendedRight = (v : ℕ) (c : Change) (fs : List File) → VolumeRight v fs → AmendRight c fs → VolumeRight v (amended c fs)

-- "After any run of such amendments to a volume true at the start .. it equals one written afresh from the files as they are now";
-- proved: proofs/Amends.antt, `amended_afresh`
abbrev pub AmendedAfresh : Type 0
AmendedAfresh =
    (code : Code) (program v : ℕ) (fs gs : List File) (w : List ℕ) → program < 2 ^ 32 → VolumeRight v fs
    → Run fs (volume_for (version_for code) (rule_of code) program v fs) gs w → w ≡ volume_for (version_for code) (rule_of code) program v gs

-- "only the amended parity bytes, that entry's size and hashes, the set hash, the control hash and, if the greatest size grew, the data
-- size and its new tail may differ from before": the entry is at this place of the list, and the file grew to this size
pub record Kept (c : Change) (place grown : ℕ) (before after : List ℕ) : Type 0 where
  -- signature, version and program; then volume number, number of entries, list start, list size and data start
  pub head_kept : take 16 after ≡ take 16 before
  pub numbers_kept : take 40 (drop 48 after) ≡ take 40 (drop 48 before)
  -- the other entries; of that one its length and status, and its name
  pub list_kept : length (list_of after) ≡ length (list_of before)
  pub entries_kept : (i : ℕ) → (i ≡ place → ⊥) → get_or (entries_in after) i [] ≡ get_or (entries_in before) i []
  pub status_kept : take 16 (get_or (entries_in after) place []) ≡ take 16 (get_or (entries_in before) place [])
  pub name_kept : drop 56 (get_or (entries_in after) place []) ≡ drop 56 (get_or (entries_in before) place [])
  -- the data size, in its field and in bytes; the data outside the stretch
  pub size_field : data_size_of after ≡ max (data_size_of before) grown
  pub data_size_lem : length (data_of after) ≡ max (length (data_of before)) grown
  pub data_kept : (p : ℕ) → p < length (data_of before) → (c.place ≤ p → c.place + length c.new ≤ p)
      → get_or (data_of after) p 0 ≡ get_or (data_of before) p 0

-- of a true volume, with the file's true entry; proved: proofs/KeptParts.antt, `amended_kept`
abbrev pub AmendedKept : Type 0
AmendedKept =
    (code : Code) (program v : ℕ) (c : Change) (fs : List File) → program < 2 ^ 32 → VolumeRight v fs → AmendRight c fs
    → let vol : List ℕ = volume_for (version_for code) (rule_of code) program v fs in
    Kept c (place_of fs c.file) (length (spliced c (contents_of fs c.file))) vol (amend_volume rule_of c (entry_after c fs) vol)

-- ---- the calls

abbrev pub Holds : Code → ℕ → ℕ → List File → ℕ → List ℕ → Type 0
Holds code program v fs n out = (n ≤ length out) × (take n out ≡ volume_for (version_for code) (rule_of code) program v fs)

-- proved: proofs/AmendCalls.antt, `amend_accepted`
abbrev pub AmendAccepted : Type 0
AmendAccepted =
    (code : Code) (program v : ℕ) (fs : List File) (c : Change) (n : ℕ) (out : List ℕ) → program < 2 ^ 32 → VolumeRight v fs → Holds code program v fs n out
    → AmendRight c fs → length (volume_for (version_for code) (rule_of code) program v (amended c fs)) ≤ length out
    → amend_of rule_of n c (entry_after c fs) out ≡ accepted (volume_for (version_for code) (rule_of code) program v (amended c fs)) out

-- the calls that take the files fs, a volume's length n and the room out to the files gs, the length m and the room w; a call that is
-- refused may be any
pub data Calls : List File → ℕ → List ℕ → List File → ℕ → List ℕ → Type 0 where
  calls_none : {fs : List File} {n : ℕ} {out : List ℕ} → Calls fs n out fs n out
  -- "given true old bytes and entries"
  calls_written : {fs gs : List File} {n k m : ℕ} {out room w : List ℕ} (c : Change)
      → take (length c.old) (drop c.place (contents_of fs c.file)) ≡ c.old
      → amend_of rule_of n c (entry_after c fs) out ≡ (Ok k, room) → Calls (amended c fs) k room gs m w → Calls fs n out gs m w
  calls_refused : {fs gs : List File} {n m : ℕ} {r : Refusal} {out room w : List ℕ} (c : Change) (d : List ℕ)
      → amend_of rule_of n c d out ≡ (Err r, room) → Calls fs n room gs m w → Calls fs n out gs m w

-- "After any run of such amendments to a volume true at the start, .. it equals one written afresh from the files as they are now", which
-- keep the rules; proved: proofs/AmendCalls.antt, `calls_afresh`
abbrev pub CallsAfresh : Type 0
CallsAfresh =
    (code : Code) (program v : ℕ) (fs gs : List File) (n m : ℕ) (out w : List ℕ) → program < 2 ^ 32 → VolumeRight v fs → Holds code program v fs n out
    → Calls fs n out gs m w → VolumeRight v gs × Holds code program v gs m w

-- ---- "Refusals, in this order: 14 if the length passes the room; those of reading; 10, for an index too; 16 to 18 for the new entry; 21 ..;
-- ---- 1; 14."

-- "10, for an index too"
pub data NoSuchFile (f : ℕ) (vol : List ℕ) : Type 0 where
  in_index : volume_number_of vol ≡ 0 → NoSuchFile f vol
  number_none : f ≡ 0 → NoSuchFile f vol
  number_high : length (saved_of (entries_in vol)) < f → NoSuchFile f vol

-- "21 stretch of neither kind, or an entry with another name or status, or with a size the stretch does not give"
pub data WrongChange (c : Change) (e d : List ℕ) : Type 0 where
  neither_kind : (length c.old ≡ length c.new → c.place + length c.old ≤ file_size_of e → ⊥)
      → (length c.old ≡ 0 → c.place ≡ file_size_of e → ⊥) → WrongChange c e d
  another_name : (name_of d ≡ name_of e → ⊥) → WrongChange c e d
  another_status : (status_of d ≡ status_of e → ⊥) → WrongChange c e d
  another_size : (file_size_of d ≡ file_size_of e + (length c.new - length c.old) → ⊥) → WrongChange c e d

-- of a volume that is read: each test with those before it passed
pub data Fails (rules : Code → ℕ → ℕ → ℕ) (c : Change) (d vol out : List ℕ) : ℕ → Type 0 where
  no_file_lem : NoSuchFile c.file vol → Fails rules c d vol out 10
  bad_entry : {k : ℕ} → (NoSuchFile c.file vol → ⊥) → LoneBreaks d k → Fails rules c d vol out k
  bad_change : (NoSuchFile c.file vol → ⊥) → ((k : ℕ) → LoneBreaks d k → ⊥) → WrongChange c (entry_in c.file (entries_in vol)) d
      → Fails rules c d vol out 21
  too_long : (NoSuchFile c.file vol → ⊥) → ((k : ℕ) → LoneBreaks d k → ⊥) → (WrongChange c (entry_in c.file (entries_in vol)) d → ⊥)
      → max_volume_length < length (amend_volume rules c d vol) → Fails rules c d vol out 1
  no_room : (NoSuchFile c.file vol → ⊥) → ((k : ℕ) → LoneBreaks d k → ⊥) → (WrongChange c (entry_in c.file (entries_in vol)) d → ⊥)
      → length (amend_volume rules c d vol) ≤ max_volume_length → length out < length (amend_volume rules c d vol) → Fails rules c d vol out 14

pub data Refuses (rules : Code → ℕ → ℕ → ℕ) (n : ℕ) (c : Change) (d out : List ℕ) : Refusal → Type 0 where
  past_room : length out < n → Refuses rules n c d out (bare 14)
  unread : {r : Refusal} → n ≤ length out → read_of (take n out) ≡ Err r → Refuses rules n c d out r
  fails : {p : Parts} {k : ℕ} → n ≤ length out → read_of (take n out) ≡ Ok p → Fails rules c d (take n out) out k
      → Refuses rules n c d out (bare k)

-- proved: proofs/Refusals.antt, `amend_refused`
abbrev pub AmendRefused : Type 0
AmendRefused =
    (rules : Code → ℕ → ℕ → ℕ) (n : ℕ) (c : Change) (d out : List ℕ) → RefusedExactly (Refuses rules n c d out) (amend_of rules n c d out) out

-- proved: proofs/Refusals.antt, `room_kept`
abbrev pub RoomKept : Type 0
RoomKept =
    (rules : Code → ℕ → ℕ → ℕ) (n : ℕ) (c : Change) (d out : List ℕ) (k : ℕ) (room : List ℕ) → amend_of rules n c d out ≡ (Ok k, room)
    → (length room ≡ length out) × (drop k room ≡ drop k out)
