-- A file that is read in chunks: the claims.
--
--   take_most        no more than n bytes are taken
--   after_open       a job that pushes gave goes on
--   pushed_more      a push after the bytes m
--   ended_whole      the end after the bytes m
--   over_shut        a job that is over does not go on
--   read_chunked     the claim over lists of chunks and of calls
--   counts_tell      the counts tell whether a job goes on
--   Reached, open_reached    the counts of a job that goes on are those of one push of bytes
--   read_20          the claim on 20
-- Assumes nothing.
use mathlib.Core.Path.{◌≡◌, refl, sym, ap, ◌∙◌}
use mathlib.Core.Bool.{Bool, true, false}
use mathlib.Core.List.{List, [], ◌∷◌, ◌++◌, append-nil, map, flatten}
use Prim.Native.Nat.{ℕ, ◌-◌, ◌*◌, ◌≤◌, ◌<◌}
use native.Mathlib.Omega.{arith}
use lib.ListN.{length, take, length-take, length-drop}
use lib.Seq.{take-nil, take_all}
use Rattle.cut_lists.specs.All.{all_none, all_more}
use Rattle.jobs.specs.Claim.{lend_limit, Given}
use Rattle.jobs.specs.Job.{after_pushes}
use Rattle.jobs.proofs.JobLaws.{Follows, pushes_follow, chunked, exactly_20}
use Rattle.little_endian.specs.Bytes.{Bytes}
use Rattle.md5_digest.specs.Running.{state_of}
use Rattle.par1_rules.specs.Layout.{list_of}
use Rattle.par1_read.specs.Reading.{read_of, reading_refusal}
use Rattle.par1_read.specs.Reading.{Reading}
use Rattle.list_scan.proofs.CountLaws.{counted}
use Rattle.running_read.specs.declared.RunningRead.{RunningRead}
use Rattle.running_read.specs.declared.Counts.{Counts}
use Rattle.running_read.specs.declared.Pushed.{Pushed}
use Rattle.running_read.specs.declared.Ended.{Ended}
use Rattle.running_read.specs.Running.{cap, start_read, counts_of, is_open, over_of, push_answer, end_answer}
use Rattle.running_read.specs.Claim.{number, reading, read_steps, read_whole, ReadChunked, counts, Read20}
use Rattle.running_read.proofs.AfterLaws.{job_after, length_list, cap_small, after-start, after_push}
use Rattle.running_read.proofs.EndLaws.{after_end, read_cap, end_not_20}
use Rattle.running_read.proofs.OpenLaws.{Open, open_tells, is_open_lem}
use Rattle.running_read.proofs.PartLaws.{take_row}
use Rattle.running_read.proofs.PushLaws.{push_open, push_refused, end_open, end_refused}
use Rattle.running_read.proofs.Witness.{Gives, given}

-- ---- the counts after any bytes

after-counts : (m : List ℕ) → length m ≤ cap → Open (counts_of (job_after m))
unfolding counts_of job_after state_of
after-counts m h = let few = length_list m in
    let small = cap_small in
    let c = counted (list_of m) (omega arith) in
    record {
      goes = refl;
      short = h;
      control_is = omega (arith, length-drop 32 m);
      within = omega (arith, c.within);
      some = c.saved_most;
      set_is = c.hash_total;
    }

pub take_most : (n : ℕ) (m : List ℕ) → length (take n m) ≤ n
take_most n m = omega (arith, length-take n m)

pub after_open : (m : List ℕ) → is_open (counts_of (job_after (take cap m))) ≡ true
after_open m = is_open_lem _ (after-counts (take cap m) (take_most cap m))

-- ---- one by one

abbrev Goes : Unit {0} → List ℕ → RunningRead → Type 0
Goes a m j = j ≡ job_after (take cap m)

abbrev goes_on : RunningRead → Bool
goes_on j = is_open (counts_of j)

row_more : (n : ℕ) (m bs : List ℕ) → take n m ++ take (n - length (take n m)) bs ≡ take n (m ++ bs)
row_more n m bs = let left : n - length (take n m) ≡ n - length m = omega (arith, length-take n m) in
    ap (λ (k : ℕ). take n m ++ take k bs) left ∙ sym (take_row n m bs)

pub pushed_more : (m bs : List ℕ) → push_answer (job_after (take cap m)) bs ≡ record { number = 0; next = job_after (take cap (m ++ bs)) }
pushed_more m bs =
    push_open (job_after (take cap m)) bs (after_open m)
    ∙ ap (λ (j : RunningRead). record { number = 0; next = j })
    (after_push (take cap m) bs (take_most cap m) ∙ ap job_after (row_more cap m bs))

pub ended_whole : (m : List ℕ) → end_answer (job_after (take cap m)) ≡ record { reading = read_of m; next = over_of (job_after (take cap m)) }
ended_whole m =
    end_open (job_after (take cap m)) (after_open m)
    ∙ ap (λ (r : Reading). record { reading = r; next = over_of (job_after (take cap m)) })
    (after_end (take cap m) (take_most cap m) ∙ read_cap m)

pub over_shut : (j : RunningRead) → is_open (counts_of (over_of j)) ≡ false
unfolding is_open counts_of over_of
over_shut j = refl

push_taken : (j : RunningRead) (bs : List ℕ) → goes_on j ≡ true → (push_answer j bs).number ≡ 20 → ⊥
push_taken j bs o e = let zero_is : (push_answer j bs).number ≡ 0 = ap (λ (q : Pushed). q.number) (push_open j bs o) in
    omega arith

end_taken : (j : RunningRead) → goes_on j ≡ true → (reading_refusal (end_answer j).reading).number ≡ 20 → ⊥
end_taken j o e = end_not_20 j (sym (ap (λ (q : Ended). (reading_refusal q.reading).number) (end_open j o)) ∙ e)

read_follows : Follows read_steps read_whole Goes goes_on
read_follows = record {
  started = λ a. (refl, after-start ∙ ap job_after (sym (take-nil cap)));
  pushed =
      λ a m j bs g.
      let p : push_answer j bs ≡ record { number = 0; next = job_after (take cap (m ++ bs)) } =
      ap (λ (k : RunningRead). push_answer k bs) g ∙ pushed_more m bs in
      (ap (λ (q : Pushed). number q.number) p, ap (λ (q : Pushed). q.next) p);
  ended =
      λ a m j e g.
      let p : end_answer j ≡ record { reading = read_of m; next = over_of (job_after (take cap m)) } = ap end_answer g ∙ ended_whole m in
      (ap (λ (q : Ended). reading q.reading) p, ap (λ (q : Ended). goes_on q.next) p ∙ over_shut (job_after (take cap m)));
  push_taken = push_taken;
  end_taken = λ j e. end_taken j;
  push_refused = λ j bs o. ap (λ (q : Pushed). (number q.number, q.next)) (push_refused j bs o);
  end_refused = λ j e o. ap (λ (q : Ended). (reading q.reading, q.next)) (end_refused j o);
  push_20 = λ bs. refl;
  end_20 = λ e. refl;
}

pub read_chunked : ReadChunked
read_chunked = chunked read_steps read_whole Goes goes_on read_follows

-- ---- the counts that pushes give

each-count : {t u h i a b n o s r k l : ℕ} {e f : Bool} → t ≡ u → h ≡ i → a ≡ b → n ≡ o → s ≡ r → k ≡ l → e ≡ f
    → ◌≡◌ {A = Counts} (record { total = t; control = h; at = a; entries = n; saved = s; set = k; ended = e })
    (record { total = u; control = i; at = b; entries = o; saved = r; set = l; ended = f })
each-count t h a n s k e = cc

-- the others follow from four of them
same-counts : {c d : Counts} → Open c → Open d → c.total ≡ d.total → c.at ≡ d.at → c.entries ≡ d.entries → c.saved ≡ d.saved → c ≡ d
same-counts o p t a n s =
    each-count t (o.control_is ∙ ap (λ (k : ℕ). k - 32) t ∙ sym p.control_is) a n s
    (o.set_is ∙ ap (λ (k : ℕ). 16 * k) s ∙ sym p.set_is) (o.goes ∙ sym p.goes)

gives_counts : (c : Counts) → Open c → (m : List ℕ) → Gives c m → counts_of (job_after m) ≡ c
unfolding counts_of job_after
gives_counts c o m g =
    same-counts (after-counts m (omega (arith, g.length_is, o.short))) o g.length_is g.list_is.at_is g.list_is.entries_is
    g.list_is.saved_is

-- the counts of the claim, and those that the calls test
claimed : (j k : RunningRead) → counts_of j ≡ counts_of k → counts j ≡ counts k
unfolding counts_of
claimed j k e = ap (λ (c : Counts). (c.total, c.control, c.at, c.entries, c.saved, c.set, c.ended)) e

pub counts_tell : (j k : RunningRead) → counts j ≡ counts k → is_open (counts_of j) ≡ is_open (counts_of k)
unfolding counts_of
counts_tell j k e =
    ap (λ (c : ℕ × ℕ × ℕ × ℕ × ℕ × ℕ × Bool).
    is_open (record { total = c.0; control = c.1; at = c.2; entries = c.3; saved = c.4; set = c.5; ended = c.6 })) e

-- one push of the bytes m gives the counts of the job j
pub record Reached (j : RunningRead) (m : List ℕ) : Type 0 where
  pub are_bytes : Bytes m
  pub short : length m ≤ cap
  pub same : counts (job_after m) ≡ counts j

pub open_reached : (j : RunningRead) → is_open (counts_of j) ≡ true → (m : List ℕ) × Reached j m
open_reached j e = let o = open_tells (counts_of j) e in
    let g = given (counts_of j) o in
    let same = claimed (job_after g.0) j (gives_counts (counts_of j) o g.0 g.1) in
    (g.0, record { are_bytes = g.1.are_bytes; short = omega (arith, g.1.length_is, o.short); same = same })

open_given : (j : RunningRead) → is_open (counts_of j) ≡ true → Given read_steps read_whole counts j
unfolding flatten
open_given j e = let g = open_reached j e in
    let m : List ℕ = g.0 in
    let all : take cap (m ++ []) ≡ m = ap (take cap) (append-nil m) ∙ take_all cap m g.1.short in
    let few : length m < lend_limit = omega (arith, g.1.short, cap_small) in
    let after = pushes_follow read_steps read_whole Goes goes_on read_follows tt [] start_read (m ∷ []) (read_follows.started tt).1 in
    record {
      by = tt;
      pushed = m ∷ [];
      lendable = all_more (g.1.are_bytes, few) all_none;
      same = ap counts (after ∙ ap job_after all) ∙ g.1.same;
    }

given_open : (j : RunningRead) → Given read_steps read_whole counts j → is_open (counts_of j) ≡ true
given_open j g =
    sym (counts_tell (after_pushes read_steps start_read g.pushed) j g.same)
    ∙ ap goes_on
    (pushes_follow read_steps read_whole Goes goes_on read_follows g.by [] start_read g.pushed (read_follows.started g.by).1)
    ∙ after_open (flatten (map (λ (bs : List ℕ). bs) g.pushed))

pub read_20 : Read20
read_20 = exactly_20 read_steps read_whole Goes goes_on read_follows (λ j. Unit {0}) counts (λ j h. open_given j) (λ j h. given_open j)
