-- From C a refusal and its place are read off one number; a call that is told the number of a code is the call by that code; each call on the
-- bytes of an inventory is the call on the inventory, and leaves the bytes of what that call hands back; so condition 3 holds of whole lists of calls
-- from C; a refused call changes no lent byte; and the query and the replay, which are promised by a relation, have one answer.
--
--   ReadTold             the refusal of a file that is read is told by its answer
--   VolumeTold           so is that of a volume that is written
--   ReadEndTold          so is that of the end of a running read, whatever its bytes are
--   AmendTold            and that of an amendment, or the volume's new length
--   CompareTold          and the length of a comparison
--   ExportTold           and that of an export, or the length of the text
--   ImportTold           and that of an import, or the number of entries
--   OpenTold, AddTold, DropTold     and that of a call on a catalog, or the catalog's new length
--   LoadTold             and that of a load, or the number of entries
--   ReplayTold           and that of a replay, or the length of its text
--   ByCode               a call that is told the number of a code is the call by that code
--   OtherCode            the four of them refuse with 10 what is the number of no code, and nothing changes
--   OnBytes step s k     a call that changes s: its number, and the bytes of the inventory that it hands back, which bytes can hold again
--   OpenedOnBytes        an opening with the bytes of the sizes is one with the sizes, and bytes can hold what it gives
--   ChangedOnBytes       so are the calls that add, remove, set aside and take back
--   AddedOnBytes         so is the addition of a volume that is told the number of its code
--   CountedOnBytes       so is a count
--   QueriedOnBytes       so is a query
--   ConditionOnBytes d n sizes o cs rs b     what holds after the calls cs on the bytes o of an inventory opened for the code d and n files of these
--                        sizes: `Condition` of `inventory` specs/Claim, as C sees it
--   RunOnBytes           condition 3 from C: it holds for every accepted opening and every list of calls
--   AnsweredOnBytes      every list of calls has its replies, on whatever bytes
--   RetoldOnBytes        what is present and what is quarantined can be told to a new inventory
--   OthersRefused        bytes of another length, or of no code, are refused with 10 by each of them, and nothing changes
--   RefusedKept          a refused call changes no lent byte, call by call; save that the end of a job ends it also where it is refused, unless with 20
--   QueryDetermined      what a query promises determines its number and the bytes lent to it
--   ReplayDetermined     so does what a replay promises
--   ReplayGives          which is the text of its log
-- What excludes an empty reading of RunOnBytes: an opening is accepted (OpenedOnBytes; `inventory` specs/Claim, OpeningNumbers), every list of calls
-- has its replies (AnsweredOnBytes), and a new inventory can be told (RetoldOnBytes).
-- Sentences in quotation marks are document 01's, document 02's (2026-10, 2026-13), or the tender's condition 3.
-- Assumes nothing.
use Rattle.std.specs.Prelude.{◌≡◌, Bool, true, false, ◌↔◌, ◌⊎◌, ◌≢◌, List, ℕ, ◌%◌, ◌^◌, ◌<◌, ◌≤◌, length, get_or, replicate, take}
use Rattle.gf256.specs.Answer.{inverse_answer}
use Rattle.md5_digest.specs.Digest.{digest_into}
use Rattle.answer_bytes.specs.Results.{byte_into, read_into, entry_into}
use Rattle.job_bytes.specs.MulAdds.{mul_add_started, mul_add_pushed, mul_add_ended}
use Rattle.job_bytes.specs.Reads.{read_started, read_pushed, read_ended}
use Rattle.running_hash.specs.Hash as hash
use Rattle.running_hash.specs.declared.RunningHash.{RunningHash}
use Rattle.lent_bytes.specs.Writing.{written, with_refusal, with_number}
use Rattle.entries.specs.Walk.{first_of}
use Rattle.codes.specs.Codes.{is_code, code_number, code_of}
use Rattle.codes.specs.declared.Code.{Code}
use Rattle.mul_add.specs.MulAdd.{mul_add_all}
use Rattle.mul_add.specs.Once.{Once}
use Rattle.parity.specs.Coefficient.{rule_of}
use Rattle.parity.specs.Parity.{Contents, is_file}
use Rattle.par1_read.specs.Reading.{read_of}
use Rattle.par1_write.specs.EntryWriting.{write_entry_of}
use Rattle.par1_write.specs.VolumeWriting.{write_volume_of}
use Rattle.recovery.specs.Recoverable.{State, IsContents, Recoverable, place, present, ComeFrom}
use Rattle.inventory.specs.Model.{Change, add_volume, Reply, opened}
use Rattle.inventory.specs.Claim.{Run, TellsExactly, size_in}
use Rattle.inventory.specs.Query.{Queried}
use Rattle.inventory.specs.Steps.{open_step, change_step, count_step, answer_number}
use Rattle.recovery.specs.declared.Answer.{Answer}
use Rattle.inventory.specs.declared.Inventory.{Inventory}
use Rattle.inventory.specs.Outcome.{Outcome}
use Rattle.inventory_bytes.specs.Claim.{Held}
use Rattle.inventory_bytes.specs.Inventories.{code_number_in, inventory_bytes, stored_by, counted_into}
use Rattle.little_endian.specs.Bytes.{numbers, numbers_at}
use Rattle.amending.specs.Amending as amending
use Rattle.amending.specs.Call.{amend_of}
use Rattle.comparing.specs.Comparing.{comparison_of}
use Rattle.md5sum_text.specs.Export.{export_into}
use Rattle.md5sum_text.specs.Import.{import_into}
use Rattle.catalog.specs.Calls.{open_of, add_of, drop_of, load_of}
use Rattle.catalog.specs.declared.records.Row.{Row}
use Rattle.par1_c.specs.Answers.{answered, answered_end, length_told, answered_length, answered_rows, Told, Keeps, KeepsTold}
use Rattle.replay.specs.Replay.{replay_of}
use Rattle.replay.specs.Claim.{TextFor}
use Rattle.par1_c.specs.Replays.{ReplayInto}
use Rattle.par1_c.specs.Codes.{by_code, coefficient_into, volume_into}
use Rattle.par1_c.specs.Inventories.{open_into, changed_by, added_by, count_into, QueryInto}
use Rattle.par1_c.specs.Runs.{CallOnBytes, RunInto, calls_of, state_after, GivesAllInto}

-- a list has fewer than 2^59 entries, so 64 bits hold the answer; the file's length is a u64; proved: proofs/AnswerLaws.antt, `read_told`
abbrev pub ReadTold : Type 0
ReadTold = (f out : List ℕ) → length f < 2 ^ 64 → Told (read_into (read_of f) out).0

-- the list's length is a u64; proved: proofs/AnswerLaws.antt, `volume_told`
abbrev pub VolumeTold : Type 0
VolumeTold =
    (c : Code) (program number : ℕ) (list area out : List ℕ) → length list < 2 ^ 64
    → Told (with_refusal (write_volume_of c program number list area out)).0

-- proved: proofs/AnswerLaws.antt, `read_end_told`
abbrev pub ReadEndTold : Type 0
ReadEndTold = (b out : List ℕ) → Told (read_ended b out).0

-- the room's length is a u64; proved: proofs/AnswerLaws.antt, `amend_told`
abbrev pub AmendTold : Type 0
AmendTold =
    (n : ℕ) (c : amending.Change) (d out : List ℕ) → length out < 2 ^ 64 → Told (length_told (amend_of rule_of n c d out).0)

-- any two files have fewer than 2^59 bytes of lines; proved: proofs/AnswerLaws.antt, `compare_told`
abbrev pub CompareTold : Type 0
CompareTold = (f g out : List ℕ) → Told (length_told (written (comparison_of f g) out).0)

-- the file's length is a u64; proved: proofs/AnswerLaws.antt, `export_told`
abbrev pub ExportTold : Type 0
ExportTold = (f out : List ℕ) → length f < 2 ^ 64 → Told (length_told (export_into f out).0)

-- a text has fewer than 2^59 lines; its length and the file's are a u64; proved: proofs/AnswerLaws.antt, `import_told`
abbrev pub ImportTold : Type 0
ImportTold = (f s out : List ℕ) → length f < 2 ^ 64 → length s < 2 ^ 64 → Told (length_told (import_into f s out).0)

-- the file's length is a u64; proved: proofs/AnswerLaws.antt, `open_told`
abbrev pub OpenTold : Type 0
OpenTold = (f out : List ℕ) → length f < 2 ^ 64 → Told (length_told (open_of f out).0)

-- the volume's length is a u64; proved: proofs/AnswerLaws.antt, `add_told`
abbrev pub AddTold : Type 0
AddTold = (b vol : List ℕ) → length vol < 2 ^ 64 → Told (length_told (add_of b vol).0)

-- proved: proofs/AnswerLaws.antt, `drop_told`
abbrev pub DropTold : Type 0
DropTold = (b : List ℕ) (v : ℕ) → Told (length_told (drop_of b v).0)

-- proved: proofs/AnswerLaws.antt, `load_told`
abbrev pub LoadTold : Type 0
LoadTold = (b : List ℕ) (rows : List Row) → Told (length_told (load_of b rows).0)

-- a text is less than 2^59 bytes long; proved: proofs/ReplayLaws.antt, `replay_told`
abbrev pub ReplayTold : Type 0
ReplayTold = (d : State → ℕ → Bool) (log out : List ℕ) → Told (length_told (written (replay_of d log) out).0)

-- of both codes, and whatever the call; proved: proofs/CodeCalls.antt, `by_code_lem`
abbrev pub ByCode : Type 0
ByCode = (c : Code) (call : Code → ℕ × List ℕ) (lent : List ℕ) → by_code (code_number c) call lent ≡ call c

-- whatever else they are told; proved: proofs/CodeCalls.antt, `other_code`
abbrev pub OtherCode : Type 0
OtherCode =
    (k : ℕ) → ((c : Code) → k ≢ code_number c)
    → ((f v : ℕ) (out : List ℕ) → coefficient_into k f v out ≡ (10, out))
    × ((program number : ℕ) (list area out : List ℕ) → volume_into k program number list area out ≡ (10, out))
    × ((n : ℕ) (s out : List ℕ) → open_into k n s out ≡ (10, out))
    × ((v : ℕ) (b : List ℕ) → added_by k v b ≡ (10, b))

pub record OnBytes (step : Inventory → ℕ → Outcome) (s : Inventory) (k : ℕ) : Type 0 where
  pub gives : changed_by step k (inventory_bytes s) ≡ ((step s k).number, inventory_bytes (step s k).next)
  pub held : Held (step s k).next

-- each size is a u64; proved: proofs/OnBytes.antt, `opened_on_bytes`
abbrev pub OpenedOnBytes : Type 0
OpenedOnBytes =
    (c : Code) (n : ℕ) (sizes out : List ℕ) → ((j : ℕ) → get_or sizes j 0 < 2 ^ 64)
    → (open_into (code_number c) n (numbers sizes) out ≡ stored_by (open_step c n sizes) out) × Held (open_step c n sizes).next

-- proved: proofs/OnBytes.antt, `changed_on_bytes`
abbrev pub ChangedOnBytes : Type 0
ChangedOnBytes = (s : Inventory) → Held s → (c : Change) (k : ℕ) → OnBytes (change_step c) s k

-- "noting a volume names its code"; proved: proofs/OnBytes.antt, `added_on_bytes`
abbrev pub AddedOnBytes : Type 0
AddedOnBytes =
    (s : Inventory) → Held s → (c : Code) (v : ℕ) → let o = change_step (add_volume c) s v in
    (added_by (code_number c) v (inventory_bytes s) ≡ (o.number, inventory_bytes o.next)) × Held o.next

-- proved: proofs/OnBytes.antt, `counted_on_bytes`
abbrev pub CountedOnBytes : Type 0
CountedOnBytes = (s : Inventory) → Held s → (out : List ℕ) → count_into (inventory_bytes s) out ≡ counted_into (count_step s) out

-- proved: proofs/OnBytes.antt, `queried_on_bytes`
abbrev pub QueriedOnBytes : Type 0
QueriedOnBytes =
    (s : Inventory) → Held s → (f : ℕ) (out : List ℕ) (r : ℕ) (out' : List ℕ) → QueryInto (inventory_bytes s) f out r out'
    → (a : Answer) × Queried rule_of s f out a out' × (r ≡ answer_number a)

-- ---- condition 3, from C

pub record ConditionOnBytes (d : Code) (n : ℕ) (sizes o : List ℕ) (cs : List CallOnBytes) (rs : List (ℕ × List ℕ)) (b : List ℕ) : Type 0 where
  -- "each answer, and each byte of the room lent to an ask, is the one that the outline's tally gives"; so is each byte of the room lent to a count
  pub replies : GivesAllInto (opened d n (size_in sizes)) cs rs
  -- the calls on the inventory hand back the one whose bytes are left
  pub on_inventory : (is : List Reply) × (s : Inventory) × Run rule_of (open_step d n sizes).next (calls_of cs) is s × (b ≡ inventory_bytes s)
  -- "After the list, the sheet answers every further call as a new sheet of the same sizes told only what is in hand now, in whatever order"
  pub afterwards : (tells : List CallOnBytes) → TellsExactly (state_after d n sizes cs) (calls_of tells)
      → (rt : List (ℕ × List ℕ)) (b' : List ℕ) → RunInto o tells rt b'
      → (more : List CallOnBytes) (r r' : List (ℕ × List ℕ)) (e e' : List ℕ) → RunInto b more r e → RunInto b' more r' e' → r ≡ r'
  -- "A file not in hand, asked about with room for the recipe, is called rebuildable exactly when every two sets of contents with the listed
  -- sizes, alike in the files in hand and in the parity of the volumes in hand, are alike in that file"
  pub exactly : (f : ℕ) → is_file n f ≡ true → (state_after d n sizes cs).files f ≡ false
      → (out : List ℕ) → 255 ≤ length out → (k : ℕ) (room : List ℕ) → QueryInto b f out k room
      → (k ≡ 0) ↔ Recoverable (rule_of d) (state_after d n sizes cs) f
  -- "If the pieces come from one set, following the sheet's recipe gives that file's bytes in it."
  pub follows : (f : ℕ) → is_file n f ≡ true → (state_after d n sizes cs).files f ≡ false
      → (out room : List ℕ) → QueryInto b f out 0 room
      → (X : Contents) → IsContents (state_after d n sizes cs) X
      → (fragment : ℕ → List ℕ) → ComeFrom (rule_of d) (state_after d n sizes cs) X fragment
      → (ks : List ℕ) → Once (present (state_after d n sizes cs)) ks
      → mul_add_all (place (take 255 room)) fragment ks (replicate (size_in sizes f) 0) ≡ X f

-- "Condition 3 is a single claim about the whole list of calls and not one for each call. The list starts from the sheet of an accepted opening":
-- from the 144 bytes that an accepted par1_open wrote, whatever it was lent. A volume added by the number of no code is 10 and changes nothing, whatever the
-- state, and the model has no such call
-- proved: proofs/RunOnBytes.antt, `run_on_bytes`
abbrev pub RunOnBytes : Type 0
RunOnBytes =
    (k n : ℕ) (s out out' : List ℕ) → open_into k n s out ≡ (0, out')
    → (cs : List CallOnBytes) (rs : List (ℕ × List ℕ)) (b : List ℕ) → RunInto (take 144 out') cs rs b
    → ConditionOnBytes (code_of k) n (numbers_at n s 0) (take 144 out') cs rs b

-- what RunOnBytes speaks of is there: the runs; proved: proofs/RunOnBytes.antt, `answered_on_bytes`
abbrev pub AnsweredOnBytes : Type 0
AnsweredOnBytes = (b : List ℕ) (cs : List CallOnBytes) → (rs : List (ℕ × List ℕ)) × (e : List ℕ) × RunInto b cs rs e

-- and the calls that tell what is present and what is quarantined; proved: proofs/RunOnBytes.antt, `retold_on_bytes`
abbrev pub RetoldOnBytes : Type 0
RetoldOnBytes =
    (d : Code) (n : ℕ) (sizes : List ℕ) (cs : List CallOnBytes) → (tells : List CallOnBytes) × TellsExactly (state_after d n sizes cs) (calls_of tells)

-- ---- bytes that are no inventory

-- "10: .. a sheet that no calls give": bytes that are no inventory are none; proved: proofs/OtherBytes.antt, `others_refused`
abbrev pub OthersRefused : Type 0
OthersRefused =
    (b : List ℕ) → (length b ≢ 144) ⊎ (is_code (code_number_in b) ≡ false)
    → ((c : Change) (k : ℕ) → changed_by (change_step c) k b ≡ (10, b))
    × ((k v : ℕ) → added_by k v b ≡ (10, b))
    × ((out : List ℕ) → count_into b out ≡ (10, out))
    × ((f : ℕ) (out : List ℕ) (r : ℕ) (out' : List ℕ) → QueryInto b f out r out' → (r ≡ 10) × (out' ≡ out))

-- ---- "A refusal returns its number only and writes nothing; the sheet is handed back as it came."; document 02, 2026-03: "the end finishes the job
-- ---- either way", "20 ..; nothing changed"

-- each call that can refuse and writes, named as in include/par1.h, by the definition that its contract cites, whatever it is given
-- proved: proofs/Kept.antt, `refused_kept`
pub record RefusedKept : Type 0 where
  pub par1_md5 : (bytes out : List ℕ) → Keeps (digest_into bytes out) out
  pub par1_inverse : (x : ℕ) (out : List ℕ) → Keeps (byte_into (inverse_answer x) out) out
  pub par1_coefficient : (k f v : ℕ) (out : List ℕ) → Keeps (coefficient_into k f v out) out
  pub par1_read_lem : (file out : List ℕ) → KeepsTold (answered (read_into (read_of file) out)) out
  pub par1_entry : (list out : List ℕ) → Keeps (entry_into (first_of list) out) out
  pub par1_write_entry : (contents : List ℕ) (status : ℕ) (name out : List ℕ) → Keeps (with_number (write_entry_of contents status name out)) out
  pub par1_write_volume : (k program number : ℕ) (list area out : List ℕ) → KeepsTold (volume_into k program number list area out) out
  pub par1_amend : (n : ℕ) (c : amending.Change) (entry volume : List ℕ) → KeepsTold (answered_length (amend_of rule_of n c entry volume)) volume
  pub par1_open_lem : (k n : ℕ) (sizes out : List ℕ) → Keeps (open_into k n sizes out) out
  -- par1_add_file, par1_remove_file, par1_remove_volume, par1_quarantine, par1_release
  pub par1_changes : (c : Change) (k : ℕ) (inventory : List ℕ) → Keeps (changed_by (change_step c) k inventory) inventory
  pub par1_add_volume : (k v : ℕ) (inventory : List ℕ) → Keeps (added_by k v inventory) inventory
  pub par1_count : (inventory out : List ℕ) → Keeps (count_into inventory out) out
  -- 12 and 13 too
  pub par1_query : (inventory : List ℕ) (f : ℕ) (out : List ℕ) (r : ℕ) (out' : List ℕ) → QueryInto inventory f out r out' → Keeps (r, out') out
  pub par1_compare : (one two out : List ℕ) → KeepsTold (answered_length (written (comparison_of one two) out)) out
  pub par1_export : (file out : List ℕ) → KeepsTold (answered_length (export_into file out)) out
  pub par1_import : (file text out : List ℕ) → KeepsTold (answered_length (import_into file text out)) out
  pub par1_replay : (log out : List ℕ) (r : ℕ) (out' : List ℕ) → ReplayInto log out r out' → KeepsTold (r, out') out
  pub par1_catalog_open : (file out : List ℕ) → KeepsTold (answered_length (open_of file out)) out
  pub par1_catalog_add : (catalog volume : List ℕ) → KeepsTold (answered_length (add_of catalog volume)) catalog
  pub par1_catalog_drop : (catalog : List ℕ) (v : ℕ) → KeepsTold (answered_length (drop_of catalog v)) catalog
  pub par1_catalog_load : (catalog : List ℕ) (rows : List Row) → KeepsTold (answered_rows (load_of catalog rows)) rows
  pub par1_hash_push : (h : RunningHash) (bytes : List ℕ) → let o = hash.push_of h bytes in o.number ≢ 0 → o.next ≡ h
  pub par1_hash_end : (h : RunningHash) (out : List ℕ)
      → let (o, room) = hash.end_of h out in (o.number ≢ 0 → room ≡ out) × (o.number ≡ 20 → o.next ≡ h)
  pub par1_mul_add_start : (w : ℕ) (job : List ℕ) → Keeps (mul_add_started w job) job
  pub par1_mul_add_push : (job fragment buffer : List ℕ)
      → let (k, job', buffer') = mul_add_pushed job fragment buffer in k ≢ 0 → (job' ≡ job) × (buffer' ≡ buffer)
  pub par1_mul_add_end : (job : List ℕ) → Keeps (mul_add_ended job) job
  pub par1_read_start : (job : List ℕ) → Keeps (read_started job) job
  pub par1_read_push : (job bytes : List ℕ) → Keeps (read_pushed job bytes) job
  pub par1_read_end : (job out : List ℕ)
      → let (k, job', out') = answered_end (read_ended job out) in (k % 32 ≢ 0 → out' ≡ out) × (k % 32 ≡ 20 → job' ≡ job)

-- ---- one answer

-- proved: proofs/Determined.antt, `query_into_one`
abbrev pub QueryDetermined : Type 0
QueryDetermined =
    (b : List ℕ) (f : ℕ) (out : List ℕ) (r r' : ℕ) (o o' : List ℕ) → QueryInto b f out r o → QueryInto b f out r' o' → (r ≡ r') × (o ≡ o')

-- proved: proofs/ReplayLaws.antt, `replay_determined`
abbrev pub ReplayDetermined : Type 0
ReplayDetermined =
    (log out : List ℕ) (r r' : ℕ) (o o' : List ℕ) → ReplayInto log out r o → ReplayInto log out r' o' → (r ≡ r') × (o ≡ o')

-- the text of a log in the words of document 02, 2026-11: `replay` specs/Claim, TextFor; each log has one (EachReplayed there)
-- proved: proofs/ReplayLaws.antt, `replay_gives`
abbrev pub ReplayGives : Type 0
ReplayGives =
    (log text : List ℕ) → TextFor log text
    → (out : List ℕ) (r : ℕ) (out' : List ℕ) → ReplayInto log out r out' → (r, out') ≡ answered_length (written text out)
