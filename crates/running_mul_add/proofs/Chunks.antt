-- A running mul_add over lists of chunks and of calls.
--
--   position_of n        the position after n bytes
--   goes_on             a push after the bytes m
--   one                 a push of one byte
--   mul_add_chunked     every call answers what the bytes pushed since the start tell
--   mul_add_20          20 exactly where no start and pushes give the job
--   one_buffer          pushes into one buffer
-- Assumes nothing.
use mathlib.Core.Path.{◌≡◌, refl, sym, ap, ◌∙◌}
use mathlib.Core.Bool.{Bool, true, not}
use mathlib.Core.List.{List, [], ◌∷◌, ◌++◌, append-nil, append_assoc, map, flatten}
use Prim.Native.Nat.{ℕ, ◌-◌, ◌^◌, ◌<◌, min}
use native.Mathlib.Omega.{arith}
use lib.ListN.{length, replicate, length-append}
use borrow.Author.Tests.{not-true, not-false}
use Rattle.jobs.specs.Job.{after_pushes}
use Rattle.jobs.specs.Claim.{lend_limit, Given}
use Rattle.jobs.proofs.JobLaws.{Follows, pushes_follow, chunked, exactly_20, ones_lendable, length_ones}
use Rattle.little_endian.proofs.Past.{at_min}
use Rattle.mul_add.specs.MulAdd.{mul_add}
use Rattle.mul_add.proofs.MulAdds.{length-mul_add}
use Rattle.running_mul_add.specs.Running.{mul_add_at, position_after, mul_add_from, start_mul_add, accepted, push_of, end_of}
use Rattle.running_mul_add.specs.Claim.{Push, mul_add_steps, mul_add_whole, MulAddChunked, Held, MulAdd20, pushed_into, OneBuffer}
use Rattle.running_mul_add.specs.declared.RunningMulAdd.{RunningMulAdd}
use Rattle.running_mul_add.specs.declared.Outcome.{Outcome}
use Rattle.running_mul_add.proofs.PushLaws.{at_past, at_next, push_over, push_going, end_over, end_going}

-- ---- what a job stands for

abbrev pub position_of : ℕ → ℕ
position_of n = min n (2 ^ 64 - 1)

abbrev Goes : ℕ → List ℕ → RunningMulAdd → Type 0
Goes w m s = s ≡ mul_add_from w (position_of (length m))

abbrev is_open : RunningMulAdd → Bool
is_open s = not s.ended

-- where the position stops it is past every buffer that is lent
at_stop : (w n : ℕ) (fragment buffer : List ℕ) → length buffer < lend_limit → mul_add_at w (position_of n) fragment buffer ≡ mul_add_at w n fragment buffer
at_stop w n fragment buffer h =
    at_min (λ p. mul_add_at w p fragment buffer) n (2 ^ 64 - 1)
    (λ past. at_past w (2 ^ 64 - 1) fragment buffer (omega arith) ∙ sym (at_past w n fragment buffer (omega arith)))

pub goes_on : (w : ℕ) (m fragment buffer : List ℕ) {s : RunningMulAdd} → length buffer < lend_limit → Goes w m s
    → push_of s fragment buffer ≡ (accepted (mul_add_from w (position_of (length (m ++ fragment)))), mul_add_at w (length m) fragment buffer)
goes_on w m fragment buffer h g = let p : ℕ = position_of (length m) in
    let next : position_of (length (m ++ fragment)) ≡ position_after p (length fragment) = omega (arith, length-append m fragment) in
    ap (λ (s : RunningMulAdd). push_of s fragment buffer) g
    ∙ sym (push_going (mul_add_from w p) fragment buffer refl next (sym (at_stop w (length m) fragment buffer h)))

-- ---- 20 where the job is over, and nowhere else

push_taken : (s : RunningMulAdd) (p : Push) → is_open s ≡ true → (mul_add_steps.pushes s p).0.0 ≡ 20 → ⊥
push_taken s p o e =
    let zero_is : 0 ≡ (push_of s p.fragment p.buffer).0.number =
    ap (λ (r : Outcome × List ℕ). r.0.number) (push_going s p.fragment p.buffer (not-true s.ended o) refl refl) in
    omega arith

end_taken : (s : RunningMulAdd) (u : Unit {0}) → is_open s ≡ true → (end_of s).number ≡ 20 → ⊥
end_taken s u o e = let zero_is : (end_of s).number ≡ 0 = ap (λ (o : Outcome). o.number) (end_going s (not-true s.ended o)) in
    omega arith

-- ---- over lists

follows : Follows mul_add_steps mul_add_whole Goes is_open
follows = record {
  started = λ w. (refl, refl);
  pushed = λ w m s p g.
      let e = goes_on w m p.fragment p.buffer p.short g in
      (ap (λ (r : Outcome × List ℕ). (r.0.number, r.1)) e, ap (λ (r : Outcome × List ℕ). r.0.next) e);
  ended = λ w m s e g.
      let r = ap end_of g ∙ end_going (mul_add_from w (position_of (length m))) refl in
      (ap (λ (o : Outcome). (o.number, [])) r, ap (λ (o : Outcome). is_open o.next) r);
  push_taken = push_taken;
  end_taken = end_taken;
  push_refused = λ s p o.
      ap (λ (r : Outcome × List ℕ). ((r.0.number, r.1), r.0.next)) (push_over s p.fragment p.buffer (not-false s.ended o));
  end_refused = λ s e o. ap (λ (r : Outcome). ((r.number, []), r.next)) (end_over s (not-false s.ended o));
  push_20 = λ p. refl;
  end_20 = λ e. refl;
}

pub mul_add_chunked : MulAddChunked
mul_add_chunked = chunked mul_add_steps mul_add_whole Goes is_open follows

-- ---- the jobs that pushes give

abbrev pub one : Push
one = record { fragment = 0 ∷ []; buffer = []; short = omega arith }

after_pushes_lem : (w : ℕ) (ps : List Push)
    → after_pushes mul_add_steps (start_mul_add w) ps ≡ mul_add_from w (position_of (length (flatten (map mul_add_whole.chunk ps))))
after_pushes_lem w ps = pushes_follow mul_add_steps mul_add_whole Goes is_open follows w [] (start_mul_add w) ps refl

given : (s : RunningMulAdd) → Held s → is_open s ≡ true → Given mul_add_steps mul_add_whole (λ s. s) s
given s h o = let n : ℕ = s.position in
    let at : position_of (length (flatten (map mul_add_whole.chunk (replicate n one)))) ≡ n =
    omega (arith, length_ones mul_add_whole.chunk one refl n, h) in
    record {
      by = s.weight;
      pushed = replicate n one;
      lendable = ones_lendable mul_add_whole.chunk one refl n;
      same =
          after_pushes_lem s.weight (replicate n one) ∙ ap (mul_add_from s.weight) at
          ∙ ap (λ (b : Bool). record { weight = s.weight; position = n; ended = b }) (sym (not-true s.ended o));
    }

opened : (s : RunningMulAdd) → Held s → Given mul_add_steps mul_add_whole (λ s. s) s → is_open s ≡ true
opened s h g = ap is_open (sym g.same ∙ after_pushes_lem g.by g.pushed)

pub mul_add_20 : MulAdd20
mul_add_20 = exactly_20 mul_add_steps mul_add_whole Goes is_open follows Held (λ s. s) given opened

-- ---- one buffer

module _ (w : ℕ) (buffer : List ℕ) (h : length buffer < lend_limit) where
  -- the bytes m are in the buffer, the fragments cs come
  pushed_into_lem : (m : List ℕ) (s : RunningMulAdd) (cs : List (List ℕ)) (now : List ℕ) → Goes w m s → now ≡ mul_add w m buffer
      → pushed_into s cs now ≡ mul_add w (m ++ flatten cs) buffer
  unfolding flatten
  pushed_into_lem m s [] now g e = e ∙ ap (λ (l : List ℕ). mul_add w l buffer) (sym (append-nil m))
  pushed_into_lem m s (c ∷ cs) now g e = let r = goes_on w m c now (omega (arith, ap length e, length-mul_add w m buffer)) g in
      let next = ap (λ (r : Outcome × List ℕ). r.1) r ∙ ap (mul_add_at w (length m) c) e ∙ at_next w m c buffer in
      pushed_into_lem (m ++ c) (push_of s c now).0.next cs (push_of s c now).1 (ap (λ (r : Outcome × List ℕ). r.0.next) r) next
      ∙ ap (λ (l : List ℕ). mul_add w l buffer) (append_assoc m c (flatten cs))

pub one_buffer : OneBuffer
unfolding mul_add
one_buffer w cs buffer h = pushed_into_lem w buffer h [] (start_mul_add w) cs buffer refl refl
