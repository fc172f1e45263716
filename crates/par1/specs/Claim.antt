-- Condition 2 of the tender: a volume is written as the format defines, is read back, and is written again with the same bytes; and condition 1 of
-- these calls: which refusal is given, by the first test that holds, and that nothing else is refused.
--
--   VolumeAccepted               what keeps the rules is written as the format defines, where there is room for it
--   BadNumber v n, BadData v g d   what tests 7 and 9 find: of volume v, n saved files of at most g bytes and d bytes of data
--   VolumeRefuses v list area out r    r is the first refusal of writing volume v that holds, in the document's order
--   VolumeRefused                writing gives it, and no byte of the room changes; and nothing else is refused
--   VolumeWritten                whatever is written has the bytes that the format defines
--   parts_for c p v list area     what reading returns of volume v of the code c and the program p, with this list and this data
--   ReadBack f c p v list area   the file f is read so, and its areas are this list and this data
--   ReadWritten                  every written volume is read back
--   WrittenRead                  every accepted file, written from what reading gave, has the same bytes
--   HeadFails f k                test k, one of 1 to 5, holds of the file f
--   TotalsFail f t k             so does test k, one of 19 and 7 to 9, where t are the totals of its list
--   ReadRefuses f r              r is the refusal of the file f by the first test that holds, in the document's order
--   ReadRefused                  reading refuses a file so, and no other
--   EntryAccepted                the entry of a file that keeps the rules is written as the format defines, where there is room for it
--   EntryRefuses m st name out r     r is the first refusal of writing an entry that holds
--   EntryRefused                 writing gives it, and no byte of the room changes; and nothing else is refused
--   EntryBack e m st name        the entry e is that of a file with the contents m, the status st and the name
--   EntryWritten                 every written entry is that of its file
--   FaultWritten                 a list with an entry that breaks a rule is refused for the first one
--   LoneBreaks e n               n is the number of the first rule that e breaks, standing alone
--   LoneRefused                  checking refuses an entry that stands alone with that number
--   Differs e m                  the contents m differ in length or a hash from those that the entry e tells
--   Checks e m r                 r is the refusal of the contents m by the entry e, with the number 0 where there is none
--   Checked                      checking answers it, and nothing else
-- The contracts of write_volume, read, write_entry and check cite write_volume_of, read_of, write_entry_of and check_of.
-- Assumes nothing.
use Rattle.std.specs.Prelude.{◌≡◌, true, List, [], ◌∷◌, ◌++◌, ◌↔◌, ℕ, ◌+◌, ◌%◌, ◌^◌, ◌<◌, ◌≤◌, length, take, drop, Some, Ok, Err}
use Rattle.lent_bytes.specs.Writing.{refused, accepted, RefusedExactly}
use Rattle.refusals.specs.Limits.{max_file_size, max_volume_length}
use Rattle.refusals.specs.Order.{First}
use Rattle.refusals.specs.Tests.{bare}
use Rattle.refusals.specs.declared.Refusal.{Refusal}
use Rattle.cut_lists.specs.Pieces.{before}
use Rattle.little_endian.specs.Bytes.{Bytes}
use Rattle.codes.specs.declared.Code.{Code}
use Rattle.entries.specs.Claim.{Breaks, FirstFault, BadName}
use Rattle.entries.specs.Entry.{entry_size, status_of, file_size_of, md5_of, md5_of_16k, name_of, name_allowed, file_size_allowed}
use Rattle.entries.specs.Numbering.{saved_of}
use Rattle.entries.specs.Walk.{first_of, entries_of, walk_of}
use Rattle.entries.specs.declared.Totals.{Totals}
use Rattle.md5_digest.specs.Digest.{md5}
use Rattle.par1_rules.specs.Layout.{version_of, control_hash_of, set_hash_of, volume_number_of, count_of, list_start_of, list_size_of, data_start_of, data_size_of}
use Rattle.par1_rules.specs.Layout.{list_of, data_of}
use Rattle.par1_rules.specs.Hashes.{set_hash, md5_first}
use Rattle.par1_rules.specs.Rules.{number_allowed, data_allowed}
use Rattle.par1_read.specs.Reading.{entries_in, read_of}
use Rattle.par1_read.specs.declared.reading.Parts.{Parts}
use Rattle.par1_write.specs.VolumeWriting.{volume_bytes, write_volume_of}
use Rattle.par1_write.specs.EntryWriting.{entry_bytes, write_entry_of}
use Rattle.par1.specs.Checking.{lone_refusal, check_of}

-- ---- nothing else is refused

-- so a writer that refuses all is excluded, and with `ReadWritten` a reader that does; proved: proofs/ReadWritten.antt, `volume_accepted`
abbrev pub VolumeAccepted : Type 0
VolumeAccepted =
    (c : Code) (program number : ℕ) (list area out : List ℕ) (t : Totals) → walk_of list ≡ Ok t
    → number_allowed number t.saved ≡ true → data_allowed number t.greatest (length area) ≡ true
    → length (volume_bytes c program number list area) ≤ max_volume_length → length (volume_bytes c program number list area) ≤ length out
    → write_volume_of c program number list area out ≡ accepted (volume_bytes c program number list area) out

-- ---- and what is refused: "Writing a volume from program identifier, number (0 writes an index), list and data tests 6 (the list's rules; it
-- ---- makes the count itself), 7, 9, 1 (the total), 14"

-- "7: n above 254; or volume number 1 or more with n = 0 or number + n above 255"
pub data BadNumber (v n : ℕ) : Type 0 where
  too_many : 254 < n → BadNumber v n
  no_files : 1 ≤ v → n ≡ 0 → BadNumber v n
  past_255 : 1 ≤ v → 255 < v + n → BadNumber v n

-- "9: data size breaks its rule": "In the index the data area is a comment in 16-bit units, so its size is even."; document 02, 2026-02: "data size is
-- the greatest size among saved entries"
pub data BadData (v greatest n : ℕ) : Type 0 where
  odd_comment : v ≡ 0 → n % 2 ≡ 1 → BadData v greatest n
  other_size : 1 ≤ v → (n ≡ greatest → ⊥) → BadData v greatest n

-- each test with those before it passed; the list is first, with the place of its first entry that breaks a rule. A file has 96 bytes, its list and
-- its data
pub data VolumeRefuses (number : ℕ) (list area out : List ℕ) : Refusal → Type 0 where
  list_fault : {r : Refusal} → FirstFault list r → VolumeRefuses number list area out r
  bad_number : {t : Totals} → walk_of list ≡ Ok t → BadNumber number t.saved → VolumeRefuses number list area out (bare 7)
  bad_data : {t : Totals} → walk_of list ≡ Ok t → (BadNumber number t.saved → ⊥) → BadData number t.greatest (length area)
      → VolumeRefuses number list area out (bare 9)
  total_long : {t : Totals} → walk_of list ≡ Ok t → (BadNumber number t.saved → ⊥) → (BadData number t.greatest (length area) → ⊥)
      → max_volume_length < 96 + length list + length area → VolumeRefuses number list area out (bare 1)
  volume_room : {t : Totals} → walk_of list ≡ Ok t → (BadNumber number t.saved → ⊥) → (BadData number t.greatest (length area) → ⊥)
      → 96 + length list + length area ≤ max_volume_length → length out < 96 + length list + length area → VolumeRefuses number list area out (bare 14)

-- of each code, by each program; proved: proofs/WritingRefusals.antt, `volume_refused`
abbrev pub VolumeRefused : Type 0
VolumeRefused =
    (c : Code) (program number : ℕ) (list area out : List ℕ)
    → RefusedExactly (VolumeRefuses number list area out) (write_volume_of c program number list area out) out

-- ---- "A volume written is, byte by byte, the one that Par 1.0, RFC 1321 and document 01 define."

-- proved: proofs/ReadWritten.antt, `volume_written`
abbrev pub VolumeWritten : Type 0
VolumeWritten =
    (c : Code) (program number : ℕ) (list area out : List ℕ) (n : ℕ) (room : List ℕ)
    → write_volume_of c program number list area out ≡ (Ok n, room) → take n room ≡ volume_bytes c program number list area

-- ---- "Reading returns the parts it was written from"

-- "program identifier, volume number, counts (entries and saved), and where list and data lie"; document 02, 2026-13: "writing and asking for a
-- factor are told the code, reading returns it"
abbrev pub parts_for : Code → ℕ → ℕ → List ℕ → List ℕ → Parts
parts_for c program number list area =
    let es : List (List ℕ) = (entries_of list).pieces in
    record {
      program = program;
      number = number;
      entries = length es;
      saved = length (saved_of es);
      list_size = length list;
      data_start = 96 + length list;
      data_size = length area;
      code = c;
    }

pub record ReadBack (f : List ℕ) (c : Code) (program number : ℕ) (list area : List ℕ) : Type 0 where
  pub read_is : read_of f ≡ Ok (parts_for c program number list area)
  pub list_is : list_of f ≡ list
  pub data_is : data_of f ≡ area

-- the program identifier is a u32, the number a u64; proved: proofs/ReadWritten.antt, `read_written`
abbrev pub ReadWritten : Type 0
ReadWritten =
    (c : Code) (program number : ℕ) → program < 2 ^ 32 → number < 2 ^ 64 → (list area out : List ℕ) (n : ℕ) (room : List ℕ)
    → write_volume_of c program number list area out ≡ (Ok n, room) → ReadBack (take n room) c program number list area

-- ---- "an accepted volume written again from its parts has the same bytes"

-- with the code that reading gave, into any room that holds it, and the rest of the room stays; proved: proofs/WrittenRead.antt, `written_read`
abbrev pub WrittenRead : Type 0
WrittenRead =
    (f : List ℕ) (p : Parts) (out : List ℕ) → Bytes f → read_of f ≡ Ok p → length f ≤ length out
    → write_volume_of p.code p.program p.number (take p.list_size (drop 96 f)) (take p.data_size (drop p.data_start f)) out
    ≡ accepted f out

-- ---- and what reading refuses: "Reading tests 1 to 9 in this order and returns the first that holds"; 16 to 19 in the place of 6 (2026-01)

pub data HeadFails (f : List ℕ) : ℕ → Type 0 where
  -- "1: length of a volume or index file .. outside the sizes above": "96 to 33,554,432 bytes"
  too_short : length f < 96 → HeadFails f 1
  too_long : 33554432 < length f → HeadFails f 1
  -- "2: first eight bytes differ": ""PAR" and five zero bytes"
  other_signature : (take 8 f ≡ 80 ∷ 65 ∷ 82 ∷ 0 ∷ 0 ∷ 0 ∷ 0 ∷ 0 ∷ [] → ⊥) → HeadFails f 2
  -- "3: version is not 65,536"; document 02, 2026-13: "with version 131,328 ..; test 3 now passes both"
  other_version : (version_of f ≡ 65536 → ⊥) → (version_of f ≡ 131328 → ⊥) → HeadFails f 3
  -- "4: list or data start or size differs from the layout": "List start is 96, data start is 96 plus list size, and the data runs to the end of the
  -- file."
  list_elsewhere : (list_start_of f ≡ 96 → ⊥) → HeadFails f 4
  data_elsewhere : (data_start_of f ≡ 96 + list_size_of f → ⊥) → HeadFails f 4
  ends_elsewhere : (data_start_of f + data_size_of f ≡ length f → ⊥) → HeadFails f 4
  -- "5: control hash differs": "the MD5 of all bytes from 32 to the end"
  other_control : (control_hash_of f ≡ md5 (drop 32 f) → ⊥) → HeadFails f 5

pub data TotalsFail (f : List ℕ) (t : Totals) : ℕ → Type 0 where
  -- "19 number of entries differs"
  other_count : (t.entries ≡ count_of f → ⊥) → TotalsFail f t 19
  bad_volume : BadNumber (volume_number_of f) t.saved → TotalsFail f t 7
  -- "8: set hash differs"
  other_set : (set_hash_of f ≡ set_hash (entries_in f) → ⊥) → TotalsFail f t 8
  bad_size : BadData (volume_number_of f) t.greatest (data_size_of f) → TotalsFail f t 9

-- the entries of the list come between, with the place of the first one that breaks a rule; "19 after all"
pub data ReadRefuses (f : List ℕ) : Refusal → Type 0 where
  by_head : {k : ℕ} → First (HeadFails f) (1 ∷ 2 ∷ 3 ∷ 4 ∷ 5 ∷ []) k → ReadRefuses f (bare k)
  by_entry : {r : Refusal} → ((k : ℕ) → First (HeadFails f) (1 ∷ 2 ∷ 3 ∷ 4 ∷ 5 ∷ []) k → ⊥) → FirstFault (list_of f) r → ReadRefuses f r
  by_totals : {t : Totals} {k : ℕ} → ((j : ℕ) → First (HeadFails f) (1 ∷ 2 ∷ 3 ∷ 4 ∷ 5 ∷ []) j → ⊥) → walk_of (list_of f) ≡ Ok t
      → First (TotalsFail f t) (19 ∷ 7 ∷ 8 ∷ 9 ∷ []) k → ReadRefuses f (bare k)

-- a file is a list of bytes, in chunks too (`running_read` specs/Claim, ReadChunked); proved: proofs/ReadingRefusals.antt, `reading_refused`
abbrev pub ReadRefused : Type 0
ReadRefused = (f : List ℕ) → Bytes f → (r : Refusal) → (read_of f ≡ Err r) ↔ ReadRefuses f r

-- ---- the same for an entry

-- document 02, 2026-09: "entries are written with status 0 or 1 only"; proved: proofs/EntryWritten.antt, `entry-accepted`
abbrev pub EntryAccepted : Type 0
EntryAccepted =
    (m : List ℕ) (status : ℕ) (name out : List ℕ) → file_size_allowed (length m) ≡ true → status ≤ 1
    → name_allowed name ≡ true → length (entry_bytes m status name) ≤ length out
    → write_entry_of m status name out ≡ accepted (entry_bytes m status name) out

-- "Writing an entry from contents, status and name bytes tests 6 (contents too long, status above 3, bad name), then 14"; document 02, 2026-01: "17 file
-- size above the limit (and contents or status in writing an entry); 18 name unit not allowed (in writing also a name empty or of odd length)"; 2026-09:
-- "writing an entry with status 2 or 3 now gives 17"; 2026-14: "Every call that meets an entry's name follows the new rule .. Refusals: 18, as for the
-- slashes". An entry has 56 bytes and its name
pub data EntryRefuses (m : List ℕ) (status : ℕ) (name out : List ℕ) : Refusal → Type 0 where
  long_contents : max_file_size < length m → EntryRefuses m status name out (bare 17)
  other_status : 1 < status → EntryRefuses m status name out (bare 17)
  bad_name : length m ≤ max_file_size → status ≤ 1 → BadName name → EntryRefuses m status name out (bare 18)
  entry_room : length m ≤ max_file_size → status ≤ 1 → (BadName name → ⊥) → length out < 56 + length name → EntryRefuses m status name out (bare 14)

-- proved: proofs/WritingRefusals.antt, `entry-refused`
abbrev pub EntryRefused : Type 0
EntryRefused = (m : List ℕ) (status : ℕ) (name out : List ℕ) → RefusedExactly (EntryRefuses m status name out) (write_entry_of m status name out) out

pub record EntryBack (e m : List ℕ) (status : ℕ) (name : List ℕ) : Type 0 where
  -- at the front of a list, whatever follows
  pub first_is : (rest : List ℕ) → first_of (e ++ rest) ≡ Ok (Some (record { length = length e; status = status; size = length m }))
  pub entries_are : (rest : List ℕ) → entries_of (e ++ rest) ≡ before e (entries_of rest)
  -- its fields
  pub status_is : status_of e ≡ status
  pub size_is : file_size_of e ≡ length m
  pub md5_is : md5_of e ≡ md5 m
  pub md5_first_is : md5_of_16k e ≡ md5_first m
  pub name_is : name_of e ≡ name
  -- alone it keeps the rules, and checking accepts the contents
  pub lone_is : lone_refusal e ≡ 0
  pub check_is : check_of e m ≡ bare 0

-- the room has a length of 64 bits; proved: proofs/EntryWritten.antt, `entry-written`
abbrev pub EntryWritten : Type 0
EntryWritten =
    (m : List ℕ) (status : ℕ) (name out : List ℕ) (n : ℕ) (room : List ℕ) → length out < 2 ^ 64
    → write_entry_of m status name out ≡ (Ok n, room) → EntryBack (take n room) m status name

-- ---- document 02, 2026-01: which entry is at fault, and by which rule

-- a volume is refused for the first entry of its list that breaks a rule, before all other tests; proved: proofs/Faults.antt, `fault_written`
abbrev pub FaultWritten : Type 0
FaultWritten =
    (c : Code) (program number : ℕ) (list area out : List ℕ) (r : Refusal) → FirstFault list r → write_volume_of c program number list area out ≡ refused r out

-- "16 entry size .. (lone entry) short of its slice"
pub data LoneBreaks (e : List ℕ) : ℕ → Type 0 where
  short_of_slice : (entry_size e ≡ length e → ⊥) → LoneBreaks e 16
  breaks_rule : {n : ℕ} → entry_size e ≡ length e → Breaks e n → LoneBreaks e n

-- "Within an entry in that order", "place 0, as for a lone entry"; proved: proofs/Faults.antt, `lone_refused`
abbrev pub LoneRefused : Type 0
LoneRefused = (e m : List ℕ) (n : ℕ) → LoneBreaks e n → check_of e m ≡ bare n

-- ---- "Checking tests 6 (the lent entry, which fills its slice), then 15"

-- "15: rebuilt bytes differ in length, MD5 or 16k MD5 from the entry"
pub data Differs (e m : List ℕ) : Type 0 where
  in_length : (file_size_of e ≡ length m → ⊥) → Differs e m
  in_md5 : (md5_of e ≡ md5 m → ⊥) → Differs e m
  in_md5_16k : (md5_of_16k e ≡ md5_first m → ⊥) → Differs e m

-- 16 to 18 by the entry alone, then 15; else the contents are those of its file
pub data Checks (e m : List ℕ) : Refusal → Type 0 where
  bad_entry : {n : ℕ} → LoneBreaks e n → Checks e m (bare n)
  different : ((n : ℕ) → LoneBreaks e n → ⊥) → Differs e m → Checks e m (bare 15)
  as_told : ((n : ℕ) → LoneBreaks e n → ⊥) → (Differs e m → ⊥) → Checks e m (bare 0)

-- proved: proofs/Faults.antt, `checked`
abbrev pub Checked : Type 0
Checked = (e m : List ℕ) (r : Refusal) → (Checks e m r → check_of e m ≡ r) × (check_of e m ≡ r → Checks e m r)
