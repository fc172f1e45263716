-- A running read in lent bytes over lists of chunks and of calls.
--
--   opened b               the test of the calls on the job in the bytes b
--   ended-within           which refusals an end gives
--   read_bytes_chunked     every call answers what the bytes pushed since the start tell
--   read_bytes_20          20 exactly where no start and pushes give the counts of the job in the bytes
-- Assumes nothing.
use Rattle.std.specs.Prelude.{Ok, Err}
use mathlib.Core.Path.{◌≡◌, refl, sym, ap, ◌∙◌, subst}
use mathlib.Core.Bool.{Bool, true, false}
use mathlib.Core.List.{List, [], ◌∷◌, ◌++◌, append-nil, map, flatten}
use Prim.Native.Nat.{ℕ, ◌+◌, ◌^◌, ◌≤◌, ◌<◌}
use native.Mathlib.Nat.{zero-lt-suc}
use native.Mathlib.Omega.{arith}
use borrow.Author.Tests.{ne_eqb}
use lib.ListN.{length, take, replicate, length-replicate}
use lib.Seq.{take-nil, take_all}
use Rattle.answer_bytes.specs.Results.{parts_bytes, read_into}
use Rattle.cut_lists.specs.All.{all_none, all_more}
use Rattle.jobs.specs.Job.{after_pushes}
use Rattle.jobs.specs.Claim.{lend_limit, Given}
use Rattle.jobs.proofs.JobLaws.{Follows, pushes_follow, chunked, exactly_20}
use Rattle.lent_bytes.specs.Writing.{written_unless}
use Rattle.lent_bytes.proofs.WritingLaws.{unless_within}
use Rattle.little_endian.specs.Bytes.{Bytes}
use Rattle.little_endian.proofs.Numbers.{bytes_take, bytes_append}
use Rattle.par1_read.specs.Reading.{read_of}
use Rattle.par1_read.specs.Reading.{Reading}
use Rattle.refusals.specs.Tests.{bare}
use Rattle.refusals.specs.declared.Refusal.{Refusal}
use Rattle.refusals.proofs.RangeLaws.{Within, bare-within}
use Rattle.running_read.specs.Claim.{counts}
use Rattle.running_read.specs.declared.RunningRead.{RunningRead}
use Rattle.running_read.specs.declared.Pushed.{Pushed}
use Rattle.running_read.specs.declared.Ended.{Ended}
use Rattle.running_read.specs.Running.{cap, push_of, reading_of, over_of, counts_of, is_open, push_answer}
use Rattle.running_read.proofs.AfterLaws.{job_after, after-start, cap_small}
use Rattle.running_read.proofs.Chunks.{take_most, after_open, over_shut, pushed_more, ended_whole, counts_tell, open_reached}
use Rattle.running_read.proofs.EndLaws.{end_within, after_end, read_cap}
use Rattle.running_read.proofs.OpenLaws.{open_few}
use Rattle.running_read.proofs.PushLaws.{push_open, push_refused, end_open, end_refused}
use Rattle.job_bytes.specs.Claim.{HeldRead, ReadStart, Chunk, read_byte_steps, read_byte_whole, ReadBytesChunked, ReadBytes20}
use Rattle.job_bytes.specs.Reads.{read_job_bytes, read_job_of, read_stored, read_started, read_pushed, job_number, read_ended}
use Rattle.job_bytes.proofs.HeldLaws.{held_after}
use Rattle.job_bytes.proofs.ReadBack.{sized, read_loaded_back}
use Rattle.job_bytes.proofs.ReadLaws.{length_read, stored_accepted, stored_refused}

abbrev opened : List ℕ → Bool
opened b = is_open (counts_of (read_job_of b))

-- ---- which refusals an end gives

-- the refusal that a reading is, or 14
answer_within : (k : ℕ) (r : Reading) (out : List ℕ) → ((q : Refusal) → r ≡ Err q → Within k q) → Within k (read_into r out).0
unfolding read_into written_unless
answer_within k (Err q) out h = h q refl
answer_within k (Ok p) out h = unless_within k (bare 0) (parts_bytes p) out (bare-within k 0 (omega arith))

reading_within : (j : RunningRead) (out : List ℕ) → Within (j.list.totals.entries + 1) (read_into (reading_of j) out).0
reading_within j out =
    answer_within (j.list.totals.entries + 1) (reading_of j) out (end_within j j.list.totals.entries (omega arith))

-- ---- a job that is refused

module _ (b : List ℕ) (shut : opened b ≡ false) where
  pushed_shut : (bs : List ℕ) → read_pushed b bs ≡ (20, b)
  pushed_shut bs = simp (push_refused, stored_refused)

  ended_shut : (out : List ℕ) → read_ended b out ≡ (bare 20, b, out)
  unfolding read_into
  ended_shut out = simp (end_refused, stored_refused)

-- ---- a job that goes on

stored_most : (j : RunningRead) (b : List ℕ) → (read_stored 0 j b).0 ≤ 19
unfolding read_stored
stored_most j b = (unless_within 0 (bare 0) (read_job_bytes j) b (bare-within 0 0 (omega arith))).number_most

module _ (b : List ℕ) (goes : opened b ≡ true) where
  push_taken : (bs : List ℕ) → (read_pushed b bs).0 ≡ 20 → ⊥
  push_taken bs e =
      let given : (read_stored 0 (push_of (read_job_of b) bs) b).0 ≡ 20 = cc (push_open (read_job_of b) bs goes) in
      omega (arith, stored_most (push_of (read_job_of b) bs) b)

  end_taken : (out : List ℕ) → (read_ended b out).0.number ≡ 20 → ⊥
  end_taken out e =
      let given : (read_into (reading_of (read_job_of b)) out).0.number ≡ 20 = cc (end_open (read_job_of b) goes) in
      omega (arith, (reading_within (read_job_of b) out).number_most)

-- whatever the bytes of the job are; so a number of 64 bits tells the refusal and its place
pub ended-within : (b out : List ℕ) → ((read_ended b out).0.number < 32) × ((read_ended b out).0.place < 2 ^ 59)
ended-within b out = by (opened b) refl
  where
    by : (t : Bool) → opened b ≡ t → ((read_ended b out).0.number < 32) × ((read_ended b out).0.place < 2 ^ 59)
    by true o = let j : RunningRead = read_job_of b in
        let few : j.list.totals.entries ≤ cap = open_few j o in
        let w = reading_within j out in
        rw (ap (λ (q : Ended). (read_into q.reading out).0) (end_open j o))
        (omega (arith, w.number_most), omega (arith, w.place_most, few, cap_small))
    by false o = rw (ap (λ (r : Refusal × List ℕ × List ℕ). r.0) (ended_shut b o out)) (omega arith, omega arith)

-- ---- the job after bytes, in its bytes

abbrev bytes_after : List ℕ → List ℕ
bytes_after m = read_job_bytes (job_after (take cap m))

module _ (m : List ℕ) (are : Bytes m) where
  held : HeldRead (job_after (take cap m))
  held = held_after (take cap m) (bytes_take cap m are) (take_most cap m)

  length-after : length (bytes_after m) ≡ 392
  length-after = length_read (job_after (take cap m)) (sized (job_after (take cap m)) held)

  loaded_after : read_job_of (bytes_after m) ≡ job_after (take cap m)
  loaded_after = read_loaded_back (job_after (take cap m)) held

  stored_after : (b : List ℕ) → length b ≡ 392 → read_stored 0 (job_after (take cap m)) b ≡ (0, bytes_after m)
  stored_after b size = stored_accepted (job_after (take cap m)) b (sized (job_after (take cap m)) held) size

  -- it may be over
  over_held : HeldRead (over_of (job_after (take cap m)))
  unfolding over_of
  over_held = let h = held in
      record { total_fits = h.total_fits; header_size = h.header_size; control_held = h.control_held; list_held = h.list_held }

  ended-after : (out : List ℕ) → read_ended (bytes_after m) out
      ≡ ((read_into (read_of m) out).0, read_job_bytes (over_of (job_after (take cap m))), (read_into (read_of m) out).1)
  ended-after out = let j : RunningRead = job_after (take cap m) in
      let r : Refusal = (read_into (read_of m) out).0 in
      let same : reading_of j ≡ read_of m = after_end (take cap m) (take_most cap m) ∙ read_cap m in
      let most : r.number ≤ 19 = subst (λ (q : Reading). (read_into q out).0.number ≤ 19) same (reading_within j out).number_most in
      let number : job_number r.number ≡ 0 = simp (ne_eqb r.number 20 (λ e. omega arith)) in
      simp (loaded_after, ended_whole, number, stored_accepted (over_of j) (bytes_after m) (sized (over_of j) over_held) length-after)

  -- and then is refused
  over-after : opened (read_job_bytes (over_of (job_after (take cap m)))) ≡ false
  over-after = let j : RunningRead = job_after (take cap m) in
      ap (λ (k : RunningRead). is_open (counts_of k)) (read_loaded_back (over_of j) over_held) ∙ over_shut j

pushed-after : (m bs : List ℕ) → Bytes m → Bytes bs → read_pushed (bytes_after m) bs ≡ (0, bytes_after (m ++ bs))
pushed-after m bs h k =
    ap (λ (j : RunningRead). let p = push_answer j bs in read_stored p.number p.next (bytes_after m)) (loaded_after m h)
    ∙ ap (λ (p : Pushed). read_stored p.number p.next (bytes_after m)) (pushed_more m bs)
    ∙ stored_after (m ++ bs) (bytes_append m bs h k) (bytes_after m) (length-after m h)

none : Bytes []
none i = zero-lt-suc 255

started_after : (a : ReadStart) → read_started a.room ≡ (0, bytes_after [])
started_after a =
    ap (λ (j : RunningRead). read_stored 0 j a.room) (after-start ∙ ap job_after (sym (take-nil cap)))
    ∙ stored_after [] none a.room a.whole

-- ---- one by one

abbrev Goes : ReadStart → List ℕ → List ℕ → Type 0
Goes a m b = (b ≡ bytes_after m) × Bytes m

follows : Follows read_byte_steps read_byte_whole Goes opened
follows = record {
  started = λ a. let e = started_after a in (ap (λ (r : ℕ × List ℕ). (bare r.0, [])) e, (ap (λ (r : ℕ × List ℕ). r.1) e, none));
  pushed = λ a m b p g.
      let e = ap (λ (b : List ℕ). read_pushed b p.bytes) g.0 ∙ pushed-after m p.bytes g.1 p.lendable.0 in (
        ap (λ (r : ℕ × List ℕ). (bare r.0, [])) e,
        (ap (λ (r : ℕ × List ℕ). r.1) e, bytes_append m p.bytes g.1 p.lendable.0),
      );
  ended = λ a m b out g.
      let e = ap (λ (b : List ℕ). read_ended b out) g.0 ∙ ended-after m g.1 out in (
        ap (λ (r : Refusal × List ℕ × List ℕ). (r.0, r.2)) e,
        ap (λ (r : Refusal × List ℕ × List ℕ). opened r.1) e ∙ over-after m g.1,
      );
  push_taken = λ b p o. push_taken b o p.bytes;
  end_taken = λ b out o. end_taken b o out;
  push_refused = λ b p o. ap (λ (r : ℕ × List ℕ). ((bare r.0, []), r.1)) (pushed_shut b o p.bytes);
  end_refused = λ b out o. ap (λ (r : Refusal × List ℕ × List ℕ). ((r.0, r.2), r.1)) (ended_shut b o out);
  push_20 = λ p. refl;
  end_20 = λ out. refl;
}

pub read_bytes_chunked : ReadBytesChunked
read_bytes_chunked = chunked read_byte_steps read_byte_whole Goes opened follows

-- ---- the counts that pushes give

after_pushes_lem : (a : ReadStart) (ps : List Chunk)
    → read_job_of (after_pushes read_byte_steps (read_byte_steps.starts a).1 ps) ≡ job_after (take cap (flatten (map read_byte_whole.chunk ps)))
after_pushes_lem a ps =
    let g = pushes_follow read_byte_steps read_byte_whole Goes opened follows a [] (read_byte_steps.starts a).1 ps (follows.started a).1 in
    ap read_job_of g.0 ∙ loaded_after (flatten (map read_byte_whole.chunk ps)) g.1

given : (b : List ℕ) → opened b ≡ true → Given read_byte_steps read_byte_whole (λ b. counts (read_job_of b)) b
unfolding flatten
given b o = let g = open_reached (read_job_of b) o in
    let m : List ℕ = g.0 in
    let few : length m < lend_limit = omega (arith, g.1.short, cap_small) in
    let a : ReadStart = record { room = replicate 392 0; whole = length-replicate {A = ℕ} 392 0 } in
    let p : Chunk = record { bytes = m; lendable = (g.1.are_bytes, few) } in
    let all : take cap (m ++ []) ≡ m = ap (take cap) (append-nil m) ∙ take_all cap m g.1.short in
    record {
      by = a;
      pushed = p ∷ [];
      lendable = all_more p.lendable all_none;
      same = ap counts (after_pushes_lem a (p ∷ []) ∙ ap job_after all) ∙ g.1.same;
    }

given-opened : (b : List ℕ) → Given read_byte_steps read_byte_whole (λ b. counts (read_job_of b)) b → opened b ≡ true
given-opened b g =
    sym (counts_tell (read_job_of (after_pushes read_byte_steps (read_byte_steps.starts g.by).1 g.pushed)) (read_job_of b) g.same)
    ∙ ap (λ (j : RunningRead). is_open (counts_of j)) (after_pushes_lem g.by g.pushed)
    ∙ after_open (flatten (map read_byte_whole.chunk g.pushed))

pub read_bytes_20 : ReadBytes20
read_bytes_20 =
    exactly_20 read_byte_steps read_byte_whole Goes opened follows Bytes (λ b. counts (read_job_of b)) (λ b h. given b) (λ b h. given-opened b)
