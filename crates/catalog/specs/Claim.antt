-- Request 2026-08, over whole runs of calls: a catalog is the one newly opened and given what is in it; what a call leaves as it was; which
-- refusal is the first.
--
--   IsWritten w            the answer w is that of an accepted call
--   record_for es k         the record of entry k, from 0, of the entries es
--   Loaded es rows w       loading the entries es into the records rows gives w
--   Stands h room          a catalog with h in it stands in the room: its bytes, what further calls answer, and that it equals a new one
--   AfterRun               so it does after any run, refused calls included
--   SetAdded               all volumes of a set, of either code, are added to a catalog opened from one of them
--   Moved r rs with        the rows with are the rows rs, with the row r in its place
--   Kept b room n          what changing the catalog b leaves as it was in the room, where the changed one has n bytes
--   OpenKept               an accepted opening writes the rows of the list and leaves the room past them
--   AddKept, DropKept      every accepted adding and dropping leaves that, and changes one row
--   OutOfRange v n         10: no volume of n saved files has the number v
--   HasRow v rs            the row of volume v is among the rows rs
--   files_in b              the number of saved files in the catalog b
--   AddFails b vol k       k is the number of the first test that holds, of those after reading, for adding the volume vol to b
--   Refuses c room r       r is the first refusal of the call c that holds, in the document's order
--   CallRefused            the call gives it, and no byte of the room changes; and nothing else is refused
--   LoadRefuses, LoadRefused     the same of loading
--   SameButHashes n b c    b and c begin with the same four numbers and the same n rows, but for the hashes
--   Given b                b begins with what an opening and additions, all accepted, give, but for the hashes
--   Exactly30              the calls take b for a catalog exactly where that is so
-- What excludes an empty reading: every list of calls has its answers, for they are functions; and the volumes of every set that keeps the
-- rules are accepted (`SetAdded`).
-- The contracts of open, add, drop_volume, loading and row_at cite open_of, add_of, drop_of, loading_of and row_at.
-- Assumes nothing.
use Rattle.std.specs.Prelude.{◌≡◌, ◌↔◌, true, false, ℕ, ◌+◌, ◌-◌, ◌*◌, ◌^◌, ◌<◌, ◌≤◌, length, take, drop, get_or, Ok, Err}
use mathlib.Core.List.{List, [], ◌∷◌, ◌++◌, map, Permᴰ}
use Rattle.cut_lists.specs.All.{All}
use Rattle.refusals.specs.Limits.{max_entries}
use Rattle.refusals.specs.Tests.{bare}
use Rattle.refusals.specs.declared.Refusal.{Refusal}
use Rattle.little_endian.specs.Bytes.{Bytes}
use Rattle.lent_bytes.specs.Writing.{RefusedExactly}
use Rattle.lent_bytes.specs.Writing.{Writing}
use Rattle.codes.specs.declared.Code.{Code}
use Rattle.entries.specs.Entry.{file_size_of, md5_of}
use Rattle.entries.specs.Numbering.{file_number}
use Rattle.par1_read.specs.Reading.{entries_in, read_of}
use Rattle.par1_read.specs.declared.reading.Parts.{Parts}
use Rattle.mul_add.specs.Once.{count}
use Rattle.par1_rules.specs.Layout.{version_for, volume_number_of}
use Rattle.par1_set.specs.Files.{File}
use Rattle.par1_set.specs.Volume.{volume_for, VolumeRight}
use Rattle.parity.specs.Coefficient.{rule_of}
use Rattle.catalog.specs.Rows.{number_of, rows_for, volume_row, catalog_bytes}
use Rattle.catalog.specs.Catalog.{entry_count, volume_count, catalog_length, entry_rows, volume_rows, saved_rows, is_catalog}
use Rattle.catalog.specs.Calls.{open_of, add_of, drop_of, load_of}
use Rattle.catalog.specs.Runs.{Call, opening, adding, dropping, given, answers, room_after}
use Rattle.catalog.specs.Runs.{Held, newly_opened, held_after, held_run, held_length, Ascend}
use Rattle.catalog.specs.declared.records.Row.{Row}

-- ---- after any run

pub data IsWritten : Writing → Type 0 where
  is_written : (n : ℕ) → IsWritten (Ok n)

-- "To load it, the caller lends one row record for each listed entry, filled in order. .. records past the entries, stay."; "file number (0 if
-- not saved)", "size", "MD5"
abbrev pub record_for : List (List ℕ) → ℕ → Row
record_for es k = record { file = file_number es k; size = file_size_of (get_or es k []); md5 = md5_of (get_or es k []) }

pub record Loaded (es : List (List ℕ)) (rows : List Row) (w : Writing × List Row) : Type 0 where
  pub answer_is : w.0 ≡ Ok (length es)
  pub in_order : (k : ℕ) → k < length es → (other : Row) → get_or w.1 k other ≡ record_for es k
  pub length_kept : length w.1 ≡ length rows
  pub past_kept : drop (length es) w.1 ≡ drop (length es) rows

pub record Stands (h : Held) (room : List ℕ) : Type 0 where
  -- the rows of the volumes now in it, each once, ascending by number
  pub rows : List (List ℕ)
  pub rows_are : Permᴰ rows (map (λ vol. volume_row vol) h.volumes)
  pub ascend : Ascend rows
  -- it stands in the room's first bytes, and no call refuses it with 30
  pub fits : held_length h ≤ length room
  pub stands : take (held_length h) room ≡ catalog_bytes (rows_for (entries_in h.file)) rows
  pub is_catalog_lem : is_catalog room ≡ true
  -- loading tells of each listed entry
  pub loaded : (rows : List Row) → length (entries_in h.file) ≤ length rows → Loaded (entries_in h.file) rows (load_of room rows)
  -- an accepted call answers the length
  pub answered : (c : Call) (n : ℕ) (after : List ℕ) → given c room ≡ (Ok n, after) → n ≡ held_length (held_after c (Ok n) h)
  -- "equals one opened from the same list and given only the volumes now in it", in any order: all these calls are accepted in any room that
  -- is long enough, and give the same bytes
  pub afresh : (vs : List (List ℕ)) → Permᴰ vs h.volumes → (other : List ℕ) → held_length h ≤ length other
      → let cs : List Call = opening h.file ∷ map adding vs in
      All IsWritten (answers other cs) × (take (held_length h) (room_after other cs) ≡ take (held_length h) room)

-- "After any run the index equals one opened from the same list and given only the volumes now in it.": any calls, refused ones too, after an
-- opening; proved: proofs/RunLaws.antt, `after_run`
abbrev pub AfterRun : Type 0
AfterRun =
    (f out room : List ℕ) (n : ℕ) → open_of f out ≡ (Ok n, room) → (cs : List Call)
    → Stands (held_run (newly_opened f) room cs) (room_after room cs)

-- so that there are such runs: the volumes of a set that keeps the rules, written by our calls, each of any code, are all added, whatever their
-- order, to a catalog opened from one of them; proved: proofs/SetRuns.antt, `set_added`
abbrev pub SetAdded : Type 0
SetAdded =
    (code_at : ℕ → Code) (program v : ℕ) (fs : List File) (ws out : List ℕ) → program < 2 ^ 32 → VolumeRight v fs → All (λ w. VolumeRight w fs) ws
    → ((k : ℕ) → count k ws ≤ 1) → length fs ≤ max_entries → 16 + 28 * (length fs + length ws) ≤ length out
    → let volume : ℕ → List ℕ = λ w. volume_for (version_for (code_at w)) (rule_of (code_at w)) program w fs in
    All IsWritten (answers out (opening (volume v) ∷ map adding (map volume ws)))

-- ---- "Adding or dropping a volume changes only its row, the count and what must move; volume rows ascend by number. Room past the resulting
-- ---- index .. stay[s]."

pub record Moved (r : List ℕ) (rs with : List (List ℕ)) : Type 0 where
  pub front : List (List ℕ)
  pub back : List (List ℕ)
  pub others : rs ≡ front ++ back
  pub with_row : with ≡ front ++ (r ∷ back)
  pub ascend : Ascend with

pub record Kept (b room : List ℕ) (n : ℕ) : Type 0 where
  -- the number of entries, the start of the entry rows, the start of the volume rows
  pub entries_kept : take 4 room ≡ take 4 b
  pub starts_kept : take 4 (drop 8 room) ≡ take 4 (drop 8 b)
  pub volumes_start_kept : take 4 (drop 12 room) ≡ take 4 (drop 12 b)
  -- the entry rows
  pub rows_kept : take (28 * entry_count b) (drop 16 room) ≡ take (28 * entry_count b) (drop 16 b)
  -- the room past the catalog: after a drop the bytes of the old last row too
  pub length_kept : length room ≡ length b
  pub past_kept : drop n room ≡ drop n b

-- "It is opened from one accepted file's list, with no volumes."; proved: proofs/KeptLaws.antt, `open_kept`
abbrev pub OpenKept : Type 0
OpenKept =
    (f out room : List ℕ) (n : ℕ) → open_of f out ≡ (Ok n, room)
    → (n ≡ 16 + 28 * length (entries_in f)) × (take n room ≡ catalog_bytes (rows_for (entries_in f)) []) × (length room ≡ length out)
    × (drop n room ≡ drop n out)

-- the answer is the length of what then stands there; proved: proofs/KeptLaws.antt, `add_kept`
abbrev pub AddKept : Type 0
AddKept =
    (b vol room : List ℕ) (n : ℕ) → Bytes b → add_of b vol ≡ (Ok n, room)
    → Kept b room n × (n ≡ catalog_length b + 28) × (n ≡ catalog_length room) × (volume_count room ≡ volume_count b + 1)
    × Moved (volume_row vol) (volume_rows b) (volume_rows room)

-- proved: proofs/KeptLaws.antt, `drop_kept`
abbrev pub DropKept : Type 0
DropKept =
    (b : List ℕ) (v : ℕ) (room : List ℕ) (n : ℕ) → Bytes b → drop_of b v ≡ (Ok n, room)
    → (r : List ℕ) × Kept b room n × (n + 28 ≡ catalog_length b) × (n ≡ catalog_length room) × (volume_count room + 1 ≡ volume_count b)
    × (number_of r ≡ v) × Moved r (volume_rows room) (volume_rows b)

-- ---- "Refusals, after those of reading, in this order: 30 ..; 10 ..; 25 ..; 26 ..; 11 ..; 14."

-- "10 volume number 0 or above 255 - n"
pub data OutOfRange (v n : ℕ) : Type 0 where
  number_none : v ≡ 0 → OutOfRange v n
  number_high : 255 - n < v → OutOfRange v n

pub record HasRow (v : ℕ) (rs : List (List ℕ)) : Type 0 where
  pub front : List (List ℕ)
  pub row : List ℕ
  pub back : List (List ℕ)
  pub rows_are : rs ≡ front ++ (row ∷ back)
  pub number_is : number_of row ≡ v

-- n, by the entry rows of the catalog
abbrev pub files_in : List ℕ → ℕ
files_in b = length (saved_rows (entry_rows b))

-- of a volume that is read: each test with those before it passed
pub data AddFails (b vol : List ℕ) : ℕ → Type 0 where
  -- "30 index bytes that, hashes apart, no list and volumes give, or that end early"
  other_bytes : is_catalog b ≡ false → AddFails b vol 30
  out_of_range : is_catalog b ≡ true → OutOfRange (volume_number_of vol) (files_in b) → AddFails b vol 10
  -- "25 the volume's list gives other entry rows"
  other_rows : is_catalog b ≡ true → (OutOfRange (volume_number_of vol) (files_in b) → ⊥) → (rows_for (entries_in vol) ≡ entry_rows b → ⊥)
      → AddFails b vol 25
  -- "26 more entries": none, where the rows are those of a catalog
  more_entries : is_catalog b ≡ true → (OutOfRange (volume_number_of vol) (files_in b) → ⊥) → rows_for (entries_in vol) ≡ entry_rows b
      → max_entries < length (entries_in vol) → AddFails b vol 26
  -- "11 for a number added twice"
  added_twice : is_catalog b ≡ true → (OutOfRange (volume_number_of vol) (files_in b) → ⊥) → rows_for (entries_in vol) ≡ entry_rows b
      → length (entries_in vol) ≤ max_entries → HasRow (volume_number_of vol) (volume_rows b) → AddFails b vol 11
  no_room_to_add : is_catalog b ≡ true → (OutOfRange (volume_number_of vol) (files_in b) → ⊥) → rows_for (entries_in vol) ≡ entry_rows b
      → length (entries_in vol) ≤ max_entries → (HasRow (volume_number_of vol) (volume_rows b) → ⊥) → length b < catalog_length b + 28
      → AddFails b vol 14

pub data Refuses : Call → List ℕ → Refusal → Type 0 where
  open_unread : {f room : List ℕ} {r : Refusal} → read_of f ≡ Err r → Refuses (opening f) room r
  open_many : {f room : List ℕ} {p : Parts} → read_of f ≡ Ok p → max_entries < length (entries_in f)
      → Refuses (opening f) room (bare 26)
  open_short : {f room : List ℕ} {p : Parts} → read_of f ≡ Ok p → length (entries_in f) ≤ max_entries
      → length room < 16 + 28 * length (entries_in f) → Refuses (opening f) room (bare 14)
  add_unread : {vol room : List ℕ} {r : Refusal} → read_of vol ≡ Err r → Refuses (adding vol) room r
  add_fails : {vol room : List ℕ} {p : Parts} {k : ℕ} → read_of vol ≡ Ok p → AddFails room vol k
      → Refuses (adding vol) room (bare k)
  drop_other : {v : ℕ} {room : List ℕ} → is_catalog room ≡ false → Refuses (dropping v) room (bare 30)
  drop_range : {v : ℕ} {room : List ℕ} → is_catalog room ≡ true → OutOfRange v (files_in room) → Refuses (dropping v) room (bare 10)
  -- "11 for a number .. dropped when absent"
  drop_absent : {v : ℕ} {room : List ℕ} → is_catalog room ≡ true → (OutOfRange v (files_in room) → ⊥) → (HasRow v (volume_rows room) → ⊥)
      → Refuses (dropping v) room (bare 11)

-- proved: proofs/RefusalLaws.antt, `call_refused`
abbrev pub CallRefused : Type 0
CallRefused = (c : Call) (room : List ℕ) → RefusedExactly (Refuses c room) (given c room) room

-- "To load it, the caller lends one row record for each listed entry"
pub data LoadRefuses (b : List ℕ) (records : ℕ) : Refusal → Type 0 where
  load_other : is_catalog b ≡ false → LoadRefuses b records (bare 30)
  load_short : is_catalog b ≡ true → records < length (entry_rows b) → LoadRefuses b records (bare 14)

-- the same of records; proved: proofs/RefusalLaws.antt, `load_refused`
abbrev pub LoadRefused : Type 0
LoadRefused =
    (b : List ℕ) (rows : List Row) (r : Refusal)
    → (LoadRefuses b (length rows) r → load_of b rows ≡ (Err r, rows))
    × ((after : List Row) → load_of b rows ≡ (Err r, after) → LoadRefuses b (length rows) r × (after ≡ rows))

-- ---- "30 index bytes that, hashes apart, no list and volumes give, or that end early"

-- "hashes apart": the last 16 bytes of each row
pub record SameButHashes (n : ℕ) (b c : List ℕ) : Type 0 where
  pub head_same : take 16 b ≡ take 16 c
  pub rows_same : (i : ℕ) → i < n → take 12 (drop (16 + 28 * i) b) ≡ take 12 (drop (16 + 28 * i) c)

-- a list and volumes give these bytes, which do not end early
pub record Given (b : List ℕ) : Type 0 where
  -- the file with the list, and the volumes
  pub file : List ℕ
  pub volumes : List (List ℕ)
  pub file_bytes : Bytes file
  pub volumes_bytes : All Bytes volumes
  -- an opening and additions in some room, all accepted
  pub room : List ℕ
  pub all_written : All IsWritten (answers room (opening file ∷ map adding volumes))
  -- b has as many bytes as the catalog, a row for each entry and each volume, and the same ones
  pub long : 16 + 28 * (length (entries_in file) + length volumes) ≤ length b
  pub same : SameButHashes (length (entries_in file) + length volumes) (room_after room (opening file ∷ map adding volumes)) b

-- both ways; that the calls refuse with 30 exactly where is_catalog fails is `CallRefused` and `LoadRefused`
-- proved: proofs/GivenLaws.antt, `exactly_30`
abbrev pub Exactly30 : Type 0
Exactly30 = (b : List ℕ) → Bytes b → (is_catalog b ≡ true) ↔ Given b
