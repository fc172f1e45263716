-- The claims on a running hash: what its calls answer over lists of chunks and of calls, and when they answer 20.
--
--   hash_follows     one by one the calls answer what is to be answered: a job that runs has the state after the bytes pushed since the start
--   hash_chunked     the claim over lists
--   hash_20          the claim on 20: pushes of one byte each give every total
-- Assumes nothing.
use mathlib.Core.Path.{◌≡◌, refl, sym, ap, ap₂, ◌∙◌}
use mathlib.Core.Bool.{Bool, true, false, cond}
use mathlib.Core.List.{List, [], ◌∷◌, ◌++◌, map, flatten}
use Prim.Native.Nat.{ℕ, ◌%◌, ◌^◌}
use native.Mathlib.Nat.{mod-eq_of_lt}
use native.Mathlib.Omega.{arith}
use borrow.Author.Tests.{eqb-true, eqb-false, eq-eqb}
use lib.Dec.{leb}
use lib.ListN.{length, replicate}
use Rattle.jobs.specs.Claim.{Given}
use Rattle.jobs.specs.Job.{after_pushes}
use Rattle.jobs.proofs.JobLaws.{Follows, pushes_follow, chunked, exactly_20, ones_lendable, length_ones}
use Rattle.lent_bytes.specs.Writing.{refused, accepted, written, with_number}
use Rattle.md5_digest.specs.Digest.{digest_into}
use Rattle.md5_digest.specs.Running.{state_of, finished}
use Rattle.md5_digest.specs.declared.Md5.{Md5}
use Rattle.md5_digest.proofs.Running.{push_state, finish_state}
use Rattle.refusals.specs.Tests.{bare}
use Rattle.running_hash.specs.Claim.{hash_steps, hash_whole, HashChunked, Held, counts, Hash20}
use Rattle.running_hash.specs.Hash.{is_open, running, outcome, start_hash, push_of, ended_by, end_of}
use Rattle.running_hash.specs.declared.Outcome.{Outcome}
use Rattle.running_hash.specs.declared.RunningHash.{RunningHash}
use Rattle.running_hash.proofs.HashLaws.{push_open, push_over, end_open, end_over}

-- ---- the calls one by one

-- the job runs, and was given the bytes m since the start
abbrev Runs : Unit {0} → List ℕ → RunningHash → Type 0
Runs a m h = h ≡ running (state_of m)

push_runs : (m bs : List ℕ) (h : RunningHash) → Runs tt m h → push_of h bs ≡ outcome 0 (running (state_of (m ++ bs)))
push_runs m bs h e =
    ap (λ (h : RunningHash). push_of h bs) e
    ∙ push_open (running (state_of m)) bs refl
    ∙ ap (λ (s : Md5). outcome 0 (running s)) (push_state m bs)

end_runs : (m out : List ℕ) (h : RunningHash) → Runs tt m h → end_of h out ≡ ended_by (state_of m) (digest_into m out)
end_runs m out h e =
    ap (λ (h : RunningHash). end_of h out) e
    ∙ end_open (running (state_of m)) out refl
    ∙ ap (λ (d : List ℕ). ended_by (state_of m) (with_number (written d out))) (finish_state m)

-- ---- 20 where the mark is set, and nowhere else

push_taken : (h : RunningHash) (bs : List ℕ) → is_open h ≡ true → (push_of h bs).number ≡ 20 → ⊥
push_taken h bs o e =
    let zero_is : (push_of h bs).number ≡ 0 = ap (λ (r : Outcome). r.number) (push_open h bs (eqb-true h.ended 0 o)) in
    omega arith

-- a digest is refused with 14 at the most
digest_number : (d out : List ℕ) → (with_number (written d out)).0 ≡ 20 → ⊥
unfolding written
digest_number d out = by (leb (length d) (length out))
  where
    by : (b : Bool) → (with_number (cond b (accepted d out) (refused (bare 14) out))).0 ≡ 20 → ⊥
    by true e = omega arith
    by false e = omega arith

end_taken : (h : RunningHash) (out : List ℕ) → is_open h ≡ true → (end_of h out).0.number ≡ 20 → ⊥
end_taken h out o e =
    digest_number (finished h.hash) out
    (sym (ap (λ (r : Outcome × List ℕ). r.0.number) (end_open h out (eqb-true h.ended 0 o))) ∙ e)

-- ---- over lists

hash_follows : Follows hash_steps hash_whole Runs is_open
unfolding start_hash
hash_follows = record {
  started = λ a. (refl, refl);
  pushed = λ a m h bs g. let e = push_runs m bs h g in
      (ap (λ (r : Outcome). (r.number, [])) e, ap (λ (r : Outcome). r.next) e);
  ended = λ a m h out g. let e = end_runs m out h g in
      (ap (λ (r : Outcome × List ℕ). (r.0.number, r.1)) e, ap (λ (r : Outcome × List ℕ). is_open r.0.next) e);
  push_taken = push_taken;
  end_taken = end_taken;
  push_refused = λ h bs o. ap (λ (r : Outcome). ((r.number, []), r.next)) (push_over h bs (eqb-false h.ended 0 o));
  end_refused = λ h out o. ap (λ (r : Outcome × List ℕ). ((r.0.number, r.1), r.0.next)) (end_over h out (eqb-false h.ended 0 o));
  push_20 = λ bs. refl;
  end_20 = λ out. refl;
}

pub hash_chunked : HashChunked
hash_chunked = chunked hash_steps hash_whole Runs is_open hash_follows

-- ---- every total is one that pushes give

after_pushes_lem : (ps : List (List ℕ)) → after_pushes hash_steps start_hash ps ≡ running (state_of (flatten (map (λ (bs : List ℕ). bs) ps)))
after_pushes_lem ps = pushes_follow hash_steps hash_whole Runs is_open hash_follows tt [] start_hash ps (hash_follows.started tt).1

given : (h : RunningHash) → Held h → is_open h ≡ true → Given hash_steps hash_whole counts h
unfolding state_of
given h held o = let n : ℕ = h.hash.total in
    let ones : List (List ℕ) = replicate n (0 ∷ []) in
    let total = ap (λ (k : ℕ). k % 2 ^ 64) (length_ones hash_whole.chunk (0 ∷ []) refl n) ∙ mod-eq_of_lt held in
    record {
      by = tt;
      pushed = ones;
      lendable = ones_lendable hash_whole.chunk (0 ∷ []) refl n;
      same = ap counts (after_pushes_lem ones) ∙ ap₂ (λ (k e : ℕ). (k, e)) total (sym (eqb-true h.ended 0 o));
    }

given_open : (h : RunningHash) → Held h → Given hash_steps hash_whole counts h → is_open h ≡ true
given_open h held g = eq-eqb h.ended 0 (ap (λ (p : ℕ × ℕ). p.1) (sym g.same ∙ ap counts (after_pushes_lem g.pushed)))

pub hash_20 : Hash20
hash_20 = exactly_20 hash_steps hash_whole Runs is_open hash_follows Held counts given given_open
