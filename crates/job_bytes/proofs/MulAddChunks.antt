-- A running mul_add in lent bytes over lists of chunks and of calls.
--
--   mul_add_bytes_chunked        every call answers what the bytes pushed since the start tell
--   mul_add_bytes_20             20 exactly where no start and pushes give the bytes
--   mul_add_bytes_one_buffer     pushes into one buffer
-- Assumes nothing.
use mathlib.Core.Path.{◌≡◌, refl, sym, ap, ◌∙◌}
use mathlib.Core.Bool.{true, false}
use mathlib.Core.List.{List, [], ◌∷◌, ◌++◌, map, flatten}
use Prim.Native.Nat.{ℕ, ◌^◌, ◌<◌}
use native.Mathlib.Omega.{arith}
use lib.ListN.{length, replicate}
use Rattle.jobs.specs.Job.{after_pushes}
use Rattle.jobs.specs.Claim.{lend_limit, Given}
use Rattle.jobs.proofs.JobLaws.{Follows, pushes_follow, chunked, exactly_20, ones_lendable, length_ones}
use Rattle.little_endian.specs.Bytes.{Bytes, le_at}
use Rattle.little_endian.proofs.Reading.{le_at_below}
use Rattle.running_mul_add.specs.Running.{mul_add_at, mul_add_from, start_mul_add, position_after, accepted, push_of, end_of}
use Rattle.running_mul_add.specs.Claim.{Push, pushed_into}
use Rattle.running_mul_add.specs.declared.RunningMulAdd.{RunningMulAdd}
use Rattle.running_mul_add.specs.declared.Outcome.{Outcome}
use Rattle.running_mul_add.proofs.Chunks.{position_of, goes_on, one, one_buffer}
use Rattle.running_mul_add.proofs.PushLaws.{push_over, push_going, end_over, end_going}
use Rattle.job_bytes.specs.MulAdds.{mul_add_bytes, is_mul_add, over_mul_add, mul_add_of, mul_add_stored, mul_add_started, mul_add_pushed, mul_add_ended}
use Rattle.job_bytes.specs.Claim.{MulAddStart, mul_add_byte_steps, mul_add_byte_whole, MulAddBytesChunked, MulAddBytes20}
use Rattle.job_bytes.specs.Claim.{mul_add_pushed_into, MulAddBytesOneBuffer}
use Rattle.job_bytes.proofs.MulAddLaws.{tests, loaded_going, loaded_over, loaded_back, loaded_ended}
use Rattle.job_bytes.proofs.MulAddLaws.{stored_back, stored_accepted, stored_refused}

-- ---- the calls on bytes that are a job, and on others

module _ (b : List ℕ) {s : RunningMulAdd} (is : is_mul_add b ≡ true) (loaded : mul_add_of b ≡ s) where
  pushed_on_job : (fragment buffer : List ℕ) {next : RunningMulAdd} {after : List ℕ} → (accepted next, after) ≡ push_of s fragment buffer
      → mul_add_pushed b fragment buffer ≡ (0, mul_add_bytes next, after)
  pushed_on_job fragment buffer {next} {after} e =
      ap (λ (r : Outcome × List ℕ). let stored = mul_add_stored r.0 b in (stored.0, stored.1, r.1))
      (ap (λ (s : RunningMulAdd). push_of s fragment buffer) loaded ∙ sym e)
      ∙ ap (λ (stored : ℕ × List ℕ). (stored.0, stored.1, after)) (stored_accepted next b (tests b is).size)

  ended_on_job : {next : RunningMulAdd} → end_of s ≡ accepted next → mul_add_ended b ≡ (0, mul_add_bytes next)
  ended_on_job {next} e = ap (λ (o : Outcome). mul_add_stored o b) (ap end_of loaded ∙ e) ∙ stored_accepted next b (tests b is).size

module _ (b : List ℕ) (none : is_mul_add b ≡ false) where
  pushed_on_others : (fragment buffer : List ℕ) → mul_add_pushed b fragment buffer ≡ (20, b, buffer)
  pushed_on_others fragment buffer =
      ap (λ (r : Outcome × List ℕ). let stored = mul_add_stored r.0 b in (stored.0, stored.1, r.1))
      (ap (λ (s : RunningMulAdd). push_of s fragment buffer) (loaded_over b none) ∙ push_over over_mul_add fragment buffer refl)
      ∙ ap (λ (stored : ℕ × List ℕ). (stored.0, stored.1, buffer)) (stored_refused over_mul_add b)

  ended_on_others : mul_add_ended b ≡ (20, b)
  ended_on_others = ap (λ (o : Outcome). mul_add_stored o b) (ap end_of (loaded_over b none) ∙ end_over over_mul_add refl) ∙ stored_refused over_mul_add b

-- ---- what bytes stand for

abbrev Goes : MulAddStart → List ℕ → List ℕ → Type 0
Goes a m b = b ≡ mul_add_bytes (mul_add_from a.weight (position_of (length m)))

-- the bytes of a job that goes on are that job
going : (a : MulAddStart) (m b : List ℕ) → Goes a m b → (is_mul_add b ≡ true) × (mul_add_of b ≡ mul_add_from a.weight (position_of (length m)))
going a m b g = let back = loaded_back a.weight (position_of (length m)) a.byte (omega arith) in
    (ap is_mul_add g ∙ back.0, ap mul_add_of g ∙ back.1)

pushed_going : (a : MulAddStart) (m b fragment buffer : List ℕ) → length buffer < lend_limit → Goes a m b
    → mul_add_pushed b fragment buffer
    ≡ (0, mul_add_bytes (mul_add_from a.weight (position_of (length (m ++ fragment)))), mul_add_at a.weight (length m) fragment buffer)
pushed_going a m b fragment buffer h g = let job = going a m b g in
    pushed_on_job b job.0 job.1 fragment buffer (sym (goes_on a.weight m fragment buffer h refl))

ended_going : (a : MulAddStart) (m b : List ℕ) → Goes a m b
    → mul_add_ended b ≡ (0, mul_add_bytes (record { weight = a.weight; position = position_of (length m); ended = true }))
ended_going a m b g = let job = going a m b g in ended_on_job b job.0 job.1 (end_going (mul_add_from a.weight (position_of (length m))) refl)

started_whole : (a : MulAddStart) → mul_add_started a.weight a.room ≡ (0, mul_add_bytes (start_mul_add a.weight))
started_whole a = stored_accepted (start_mul_add a.weight) a.room a.whole

-- ---- 20 where bytes are no job, and nowhere else

push_taken : (b : List ℕ) (p : Push) → is_mul_add b ≡ true → (mul_add_byte_steps.pushes b p).0.0 ≡ 20 → ⊥
push_taken b p is e = let s = mul_add_from (le_at 8 b 0) (le_at 8 b 8) in
    let taken = ap (λ (r : ℕ × List ℕ × List ℕ). r.0)
    (pushed_on_job b is (loaded_going b is) p.fragment p.buffer (push_going s p.fragment p.buffer refl refl refl)) in
    omega arith

end_taken : (b : List ℕ) (u : Unit {0}) → is_mul_add b ≡ true → (mul_add_ended b).0 ≡ 20 → ⊥
end_taken b u is e = let s = mul_add_from (le_at 8 b 0) (le_at 8 b 8) in
    let taken = ap (λ (r : ℕ × List ℕ). r.0) (ended_on_job b is (loaded_going b is) (end_going s refl)) in
    omega arith

-- ---- over lists

follows : Follows mul_add_byte_steps mul_add_byte_whole Goes is_mul_add
follows = record {
  started = λ a. let e = started_whole a in (ap (λ (r : ℕ × List ℕ). (r.0, [])) e, ap (λ (r : ℕ × List ℕ). r.1) e);
  pushed = λ a m b p g.
      let e = pushed_going a m b p.fragment p.buffer p.short g in
      (ap (λ (r : ℕ × List ℕ × List ℕ). (r.0, r.2)) e, ap (λ (r : ℕ × List ℕ × List ℕ). r.1) e);
  ended = λ a m b u g.
      let e = ended_going a m b g in (
        ap (λ (r : ℕ × List ℕ). (r.0, [])) e,
        ap (λ (r : ℕ × List ℕ). is_mul_add r.1) e ∙ loaded_ended a.weight (position_of (length m)) a.byte (omega arith),
      );
  push_taken = push_taken;
  end_taken = end_taken;
  push_refused = λ b p o. ap (λ (r : ℕ × List ℕ × List ℕ). ((r.0, r.2), r.1)) (pushed_on_others b o p.fragment p.buffer);
  end_refused = λ b u o. ap (λ (r : ℕ × List ℕ). ((r.0, []), r.1)) (ended_on_others b o);
  push_20 = λ p. refl;
  end_20 = λ u. refl;
}

pub mul_add_bytes_chunked : MulAddBytesChunked
mul_add_bytes_chunked = chunked mul_add_byte_steps mul_add_byte_whole Goes is_mul_add follows

-- ---- the bytes that pushes give

after_pushes_lem : (a : MulAddStart) (ps : List Push)
    → after_pushes mul_add_byte_steps (mul_add_byte_steps.starts a).1 ps
    ≡ mul_add_bytes (mul_add_from a.weight (position_of (length (flatten (map mul_add_byte_whole.chunk ps)))))
after_pushes_lem a ps = pushes_follow mul_add_byte_steps mul_add_byte_whole Goes is_mul_add follows a [] (mul_add_byte_steps.starts a).1 ps (follows.started a).1

given : (b : List ℕ) → Bytes b → is_mul_add b ≡ true → Given mul_add_byte_steps mul_add_byte_whole (λ b. b) b
given b h is = let t = tests b is in
    let n : ℕ = le_at 8 b 8 in
    let a : MulAddStart = record { weight = le_at 8 b 0; byte = omega (arith, t.light); room = b; whole = t.size } in
    let at : position_of (length (flatten (map mul_add_byte_whole.chunk (replicate n one)))) ≡ n =
    omega (arith, length_ones mul_add_byte_whole.chunk one refl n, le_at_below 8 b 8 h) in
    record {
      by = a;
      pushed = replicate n one;
      lendable = ones_lendable mul_add_byte_whole.chunk one refl n;
      same = after_pushes_lem a (replicate n one) ∙ ap (λ (p : ℕ). mul_add_bytes (mul_add_from (le_at 8 b 0) p)) at ∙ stored_back b h is;
    }

opened : (b : List ℕ) → Bytes b → Given mul_add_byte_steps mul_add_byte_whole (λ b. b) b → is_mul_add b ≡ true
opened b h g = (going g.by (flatten (map mul_add_byte_whole.chunk g.pushed)) b (sym g.same ∙ after_pushes_lem g.by g.pushed)).0

pub mul_add_bytes_20 : MulAddBytes20
mul_add_bytes_20 = exactly_20 mul_add_byte_steps mul_add_byte_whole Goes is_mul_add follows Bytes (λ b. b) given opened

-- ---- one buffer

-- the pushes are those of the job
same_pushes : (w p : ℕ) → w < 256 → p < 2 ^ 64 → (cs : List (List ℕ)) (buffer : List ℕ)
    → mul_add_pushed_into (mul_add_bytes (mul_add_from w p)) cs buffer ≡ pushed_into (mul_add_from w p) cs buffer
same_pushes w p hw hp [] buffer = refl
same_pushes w p hw hp (c ∷ cs) buffer = let back = loaded_back w p hw hp in
    let pushed = push_going (mul_add_from w p) c buffer refl refl refl in
    ap (λ (r : ℕ × List ℕ × List ℕ). mul_add_pushed_into r.1 cs r.2)
    (pushed_on_job (mul_add_bytes (mul_add_from w p)) back.0 back.1 c buffer pushed)
    ∙ same_pushes w (position_after p (length c)) hw (omega arith) cs (mul_add_at w p c buffer)
    ∙ ap (λ (r : Outcome × List ℕ). pushed_into r.0.next cs r.1) pushed

pub mul_add_bytes_one_buffer : MulAddBytesOneBuffer
mul_add_bytes_one_buffer a cs buffer h = simp (started_whole, same_pushes a.weight 0 a.byte (omega arith) cs buffer, one_buffer)
