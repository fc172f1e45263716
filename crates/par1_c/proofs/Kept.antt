-- A refused call changes no lent byte.
--
--   number_keeps, told_keeps, length_keeps     what answers with a number, with its place too or with a length, keeps the bytes where `Kept` says so
--   kept_if                      of two ways of writing
--   by_code_keeps, by_code_told  a call that is told the number of a code
--   byte_kept, read_kept, entry_kept, stored_kept, count_kept, load_kept     what is written by the case of an answer
--   gives_kept, query_kept       a query
--   mul_add_stored_kept, read_stored_kept, push_kept, hash_push_kept, hash_end_kept, read_end_kept     the calls on jobs
--   refused_kept                 the claim
-- Assumes nothing.
use Rattle.std.specs.Prelude.{Some, None, Ok, Err}
use mathlib.Core.Path.{◌≡◌, refl, sym, ap, ◌∙◌, subst}
use mathlib.Core.Logic.{◌≢◌}
use mathlib.Core.Bool.{Bool, true, false, cond}
use mathlib.Core.List.{List, [], ◌∷◌}
use Prim.Native.Nat.{ℕ, ◌%◌}
use native.Mathlib.Omega.{arith}
use lib.Dec.{leb}
use lib.ListN.{length}
use Rattle.codes.specs.Codes.{is_code, code_of}
use Rattle.codes.specs.declared.Code.{Code}
use Rattle.parity.specs.Coefficient.{rule_of, coefficient_answer}
use Rattle.parity.specs.Parity.{is_file}
use Rattle.gf256.specs.Answer.{inverse_answer}
use Rattle.gf256.specs.Answer.{ByteAnswer}
use Rattle.answer_bytes.specs.Results.{byte_into, parts_bytes, read_into, entry_numbers, entry_into}
use Rattle.entries.specs.Walk.{Item, first_of}
use Rattle.md5_digest.specs.Digest.{md5}
use Rattle.md5_digest.specs.Running.{pushed, finished}
use Rattle.refusals.specs.Tests.{bare}
use Rattle.refusals.specs.declared.Refusal.{Refusal}
use Rattle.lent_bytes.specs.Writing.{refused, accepted, written, written_unless, with_refusal, with_number, Kept}
use Rattle.lent_bytes.specs.Writing.{Writing}
use Rattle.lent_bytes.proofs.WritingLaws.{writing_kept, kept_by_number}
use Rattle.par1_read.specs.Reading.{read_of}
use Rattle.par1_read.specs.Reading.{Reading}
use Rattle.par1_write.specs.EntryWriting.{write_entry_of}
use Rattle.par1_write.specs.VolumeWriting.{write_volume_of}
use Rattle.amending.specs.Call.{amend_of}
use Rattle.comparing.specs.Comparing.{comparison_of}
use Rattle.md5sum_text.specs.Export.{export_into}
use Rattle.md5sum_text.specs.Import.{import_into}
use Rattle.catalog.specs.Calls.{open_of, add_of, drop_of, loading_of, filled_by}
use Rattle.catalog.specs.declared.records.Row.{Row}
use Rattle.recovery.specs.Recoverable.{State}
use Rattle.inventory.specs.Model.{add_volume, Reply, reply, queried, Gives, GivesQuery, GivesMissing, undetermined, no_room, recoverable}
use Rattle.inventory.specs.Steps.{is_inventory, change_step, count_step, answer_number}
use Rattle.inventory.specs.Query.{state_of}
use Rattle.inventory.specs.declared.Inventory.{Inventory}
use Rattle.inventory.specs.Outcome.{Outcome}
use Rattle.inventory.proofs.Determined.{some_size, some_matches}
use Rattle.inventory_bytes.specs.Inventories.{inventory_of, inventory_bytes, opened_by, stored_by, counted_into}
use Rattle.little_endian.specs.Bytes.{numbers}
use Rattle.number_sets.specs.Sets.{member}
use Rattle.running_mul_add.specs.Running as mul_add_lem
use Rattle.running_mul_add.specs.declared.Outcome as mul-add-outcome
use Rattle.running_hash.specs.Hash as hash
use Rattle.running_hash.specs.declared.RunningHash.{RunningHash}
use Rattle.running_hash.specs.declared.Outcome as hash-outcome
use Rattle.job_bytes.specs.MulAdds.{mul_add_bytes, is_mul_add, mul_add_of, mul_add_stored, mul_add_pushed}
use Rattle.job_bytes.specs.Reads.{read_job_bytes, read_job_of, read_stored, job_number, read_ended}
use Rattle.job_bytes.proofs.MulAddLaws as mul-adds
use Rattle.job_bytes.proofs.ReadLaws as reads
use Rattle.running_read.specs.Running.{start_read, push_answer, end_answer}
use Rattle.running_read.specs.declared.RunningRead.{RunningRead}
use Rattle.running_read.specs.declared.Ended.{Ended}
use Rattle.replay.specs.Replay.{replay_of}
use Rattle.replay.proofs.Determined.{decided}
use Rattle.par1_c.specs.Answers.{answered, answered_end, answered_length, answered_rows, Keeps, KeepsTold}
use Rattle.par1_c.specs.Claim.{RefusedKept}
use Rattle.par1_c.specs.Codes.{by_code}
use Rattle.par1_c.specs.Inventories.{QueryInto}
use Rattle.par1_c.proofs.AnswerLaws.{read_end_told}

-- ---- by the answer

number_keeps : (w : Writing × List ℕ) {out : List ℕ} → Kept w out → Keeps (with_number w) out
number_keeps w k = kept_by_number w k

told_keeps : (w : Writing × List ℕ) {out : List ℕ} → Kept w out → KeepsTold (answered (with_refusal w)) out
told_keeps (Ok n, t) k h = absurd (h refl)
told_keeps (Err r, t) k h = k r refl

length_keeps : (w : Writing × List ℕ) {out : List ℕ} → Kept w out → KeepsTold (answered_length w) out
length_keeps (Ok n, t) k h = absurd (h (omega arith))
length_keeps (Err r, t) k h = k r refl

-- ---- calls that answer by cases

kept_if : (b : Bool) (v w : Writing × List ℕ) {out : List ℕ} → Kept v out → Kept w out → Kept (cond b v w) out
kept_if true v w p q = p
kept_if false v w p q = q

module _ (k : ℕ) (call : Code → ℕ × List ℕ) (out : List ℕ) where
  by_code_keeps : ((c : Code) → Keeps (call c) out) → Keeps (by_code k call out) out
  unfolding by_code
  by_code_keeps h = by (is_code k)
    where
      by : (b : Bool) → Keeps (cond b (call (code_of k)) (10, out)) out
      by true = h (code_of k)
      by false = λ z. refl

  by_code_told : ((c : Code) → KeepsTold (call c) out) → KeepsTold (by_code k call out) out
  unfolding by_code
  by_code_told h = by (is_code k)
    where
      by : (b : Bool) → KeepsTold (cond b (call (code_of k)) (10, out)) out
      by true = h (code_of k)
      by false = λ z. refl

byte_kept : (a : ByteAnswer) (out : List ℕ) → Keeps (byte_into a out) out
unfolding byte_into
byte_kept (Err n) out = λ z. refl
byte_kept (Ok b) out = number_keeps (written (b ∷ []) out) (writing_kept.for_room (b ∷ []) out)

read_kept : (r : Reading) (out : List ℕ) → KeepsTold (answered (read_into r out)) out
unfolding read_into
read_kept (Err r) out = λ z. refl
read_kept (Ok p) out = told_keeps (written (parts_bytes p) out) (writing_kept.for_room (parts_bytes p) out)

entry_kept : (i : Item) (out : List ℕ) → Keeps (entry_into i out) out
unfolding entry_into
entry_kept (Ok (Some e)) out =
    let numbers = entry_numbers e.length e.status e.size in number_keeps (written numbers out) (writing_kept.for_room numbers out)
entry_kept (Ok None) out = number_keeps (written (entry_numbers 0 0 0) out) (writing_kept.for_room (entry_numbers 0 0 0) out)
entry_kept (Err f) out = λ z. refl

stored_kept : (o : Outcome) (b : List ℕ) → Keeps (stored_by o b) b
unfolding stored_by
stored_kept o b =
    number_keeps (written_unless (bare o.number) (inventory_bytes o.next) b) (writing_kept.by_tests (bare o.number) (inventory_bytes o.next) b)

count_kept : (r : Reply) (out : List ℕ) → Keeps (counted_into r out) out
unfolding counted_into
count_kept (reply number values) out =
    number_keeps (written_unless (bare number) (numbers values) out) (writing_kept.by_tests (bare number) (numbers values) out)

load_kept : (w : Writing) (b : List ℕ) (rows : List Row) → KeepsTold (answered_rows (w, filled_by w b rows)) rows
load_kept (Ok n) b rows h = absurd (h (omega arith))
load_kept (Err r) b rows h = refl

-- ---- a query

gives_kept : (rule : ℕ → ℕ → ℕ) (t : State) (f : ℕ) (room : List ℕ) (in_range has : Bool) (k : ℕ) (room' : List ℕ)
    → GivesQuery rule t f room in_range has (queried k room') → k ≢ 0 → room' ≡ room
gives_kept rule t f room false has k room' g h = cc
gives_kept rule t f room true true k room' g h = cc
gives_kept rule t f room true false k room' g h = by (queried k room') refl g
  where
    by : (r : Reply) → r ≡ queried k room' → GivesMissing rule t f room r → room' ≡ room
    by r e (undetermined q) = cc
    by r e (no_room y l) = cc
    by r e (recoverable y l w W) = let z : k ≡ 0 = cc in absurd (h z)

query_kept : (b : List ℕ) (f : ℕ) (out : List ℕ) (r : ℕ) (out' : List ℕ) → QueryInto b f out r out' → Keeps (r, out') out
unfolding Gives
query_kept b f out r out' q h = by (is_inventory s) refl
  where
    s : Inventory
    s = inventory_of b

    by : (z : Bool) → is_inventory s ≡ z → out' ≡ out
    by true z =
        gives_kept (rule_of s.code) (state_of s (some_size s)) f out (is_file s.n f) (member s.files f) (answer_number q.answer) out'
        (q.queried.as_model z (some_size s) (some_matches s)) (λ e. h (q.number_is ∙ e))
    by false z = let e = q.queried.first z in cc

-- ---- jobs

mul_add_stored_kept : (o : mul-add-outcome.Outcome) (b : List ℕ) → Keeps (mul_add_stored o b) b
unfolding mul_add_stored
mul_add_stored_kept o b =
    number_keeps (written_unless (bare o.number) (mul_add_bytes o.next) b) (writing_kept.by_tests (bare o.number) (mul_add_bytes o.next) b)

read_stored_kept : (n : ℕ) (j : RunningRead) (b : List ℕ) → Keeps (read_stored n j b) b
unfolding read_stored
read_stored_kept n j b = number_keeps (written_unless (bare n) (read_job_bytes j) b) (writing_kept.by_tests (bare n) (read_job_bytes j) b)

-- a room is refused with 14
never_20 : (s out : List ℕ) → (with_number (written s out)).0 ≢ 20
unfolding written
never_20 s out = by (leb (length s) (length out))
  where
    by : (f : Bool) → (with_number (cond f (accepted s out) (refused (bare 14) out))).0 ≢ 20
    by true e = omega arith
    by false e = omega arith

push_kept : (job fragment buffer : List ℕ) → let (k, job', buffer') = mul_add_pushed job fragment buffer in k ≢ 0 → (job' ≡ job) × (buffer' ≡ buffer)
unfolding mul_add_lem.push_of
push_kept job fragment buffer = by (is_mul_add job) refl
  where
    by : (z : Bool) → is_mul_add job ≡ z
        → let (k, job', buffer') = mul_add_pushed job fragment buffer in k ≢ 0 → (job' ≡ job) × (buffer' ≡ buffer)
    by true z h = absurd (h (rw (mul-adds.loaded_going job z) (ap (λ (p : ℕ × List ℕ). p.0) (mul-adds.stored_accepted _ job (mul-adds.tests job z).size))))
    by false z h = rw (mul-adds.loaded_over job z) (ap (λ (p : ℕ × List ℕ). p.1) (mul-adds.stored_refused _ job), refl)

hash_push_kept : (h : RunningHash) (bytes : List ℕ) → let o = hash.push_of h bytes in o.number ≢ 0 → o.next ≡ h
unfolding hash.push_of
hash_push_kept h bytes = by (hash.is_open h)
  where
    gives : Bool → hash-outcome.Outcome
    gives z = cond z (hash.outcome 0 (hash.running (pushed h.hash bytes))) (hash.refused h)

    by : (z : Bool) → (gives z).number ≢ 0 → (gives z).next ≡ h
    by true q = absurd (q refl)
    by false q = refl

hash_end_kept : (h : RunningHash) (out : List ℕ) → let (o, room) = hash.end_of h out in (o.number ≢ 0 → room ≡ out) × (o.number ≡ 20 → o.next ≡ h)
unfolding hash.end_of
hash_end_kept h out = by (hash.is_open h)
  where
    digest : List ℕ
    digest = finished h.hash

    gives : Bool → hash-outcome.Outcome × List ℕ
    gives z = cond z (hash.ended_by h.hash (with_number (written digest out))) (hash.refused h, out)

    by : (z : Bool) → ((gives z).0.number ≢ 0 → (gives z).1 ≡ out) × ((gives z).0.number ≡ 20 → (gives z).0.next ≡ h)
    by true = (number_keeps (written digest out) (writing_kept.for_room digest out), λ e. absurd (never_20 digest out e))
    by false = (λ q. refl, λ e. refl)

read_end_kept : (job out : List ℕ)
    → let (k, job', out') = answered_end (read_ended job out) in (k % 32 ≢ 0 → out' ≡ out) × (k % 32 ≡ 20 → job' ≡ job)
read_end_kept job out = (read_kept e.reading out, kept)
  where
    e : Ended
    e = end_answer (read_job_of job)

    r : Refusal
    r = (read_ended job out).0

    kept : (answered_end (read_ended job out)).0 % 32 ≡ 20 → (answered_end (read_ended job out)).1 ≡ job
    kept h = let number : r.number ≡ 20 = sym (read_end_told job out).number_is ∙ h in
        ap (λ (n : ℕ). (read_stored (job_number n) e.next job).1) number ∙ ap (λ (p : ℕ × List ℕ). p.1) (reads.stored_refused e.next job)

-- ---- the claim

pub refused_kept : RefusedKept
unfolding write_entry_of write_volume_of amend_of export_into import_into open_of add_of drop_of
refused_kept = record {
  par1_md5 = λ bytes out. number_keeps (written (md5 bytes) out) (writing_kept.for_room (md5 bytes) out);
  par1_inverse = λ x out. byte_kept (inverse_answer x) out;
  par1_coefficient = λ k f v out. by_code_keeps k _ out (λ c. byte_kept (coefficient_answer c f v) out);
  par1_read_lem = λ file out. read_kept (read_of file) out;
  par1_entry = λ list out. entry_kept (first_of list) out;
  par1_write_entry = λ contents status name out. number_keeps (write_entry_of contents status name out) (writing_kept.by_tests _ _ out);
  par1_write_volume = λ k program number list area out.
      by_code_told k _ out (λ c. told_keeps (write_volume_of c program number list area out) (writing_kept.by_tests _ _ out));
  par1_amend = λ n c d out.
      length_keeps (amend_of rule_of n c d out)
      (kept_if (leb n (length out)) _ (refused (bare 14) out) (writing_kept.by_tests _ _ out) (writing_kept.refused_at_once (bare 14) out));
  par1_open_lem = λ k n sizes out. by_code_keeps k _ out (λ c. stored_kept (opened_by c n sizes) out);
  par1_changes = λ c k b. stored_kept (change_step c (inventory_of b) k) b;
  par1_add_volume = λ k v b. by_code_keeps k _ b (λ c. stored_kept (change_step (add_volume c) (inventory_of b) v) b);
  par1_count = λ b out. count_kept (count_step (inventory_of b)) out;
  par1_query = query_kept;
  par1_compare = λ one two out. length_keeps (written (comparison_of one two) out) (writing_kept.for_room (comparison_of one two) out);
  par1_export = λ file out. length_keeps (export_into file out) (writing_kept.by_tests _ _ out);
  par1_import = λ file text out. length_keeps (import_into file text out) (writing_kept.by_tests _ _ out);
  par1_replay = λ log out r out' R.
      let (d, D) = decided in
      subst (λ (p : ℕ × List ℕ). KeepsTold p out) (sym (R d D)) (length_keeps (written (replay_of d log) out) (writing_kept.for_room (replay_of d log) out));
  par1_catalog_open = λ file out. length_keeps (open_of file out) (writing_kept.by_tests _ _ out);
  par1_catalog_add = λ b vol. length_keeps (add_of b vol) (writing_kept.by_tests _ _ b);
  par1_catalog_drop = λ b v. length_keeps (drop_of b v) (writing_kept.by_tests _ _ b);
  par1_catalog_load = λ b rows. load_kept (loading_of b (length rows)) b rows;
  par1_hash_push = hash_push_kept;
  par1_hash_end = hash_end_kept;
  par1_mul_add_start = λ w job. mul_add_stored_kept (mul_add_lem.accepted (mul_add_lem.start_mul_add w)) job;
  par1_mul_add_push = push_kept;
  par1_mul_add_end = λ job. mul_add_stored_kept (mul_add_lem.end_of (mul_add_of job)) job;
  par1_read_start = λ job. read_stored_kept 0 start_read job;
  par1_read_push = λ job bytes. let p = push_answer (read_job_of job) bytes in read_stored_kept p.number p.next job;
  par1_read_end = read_end_kept;
}
