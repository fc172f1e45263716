-- The end of a job.
--
--   after_end      after the bytes m it gives what reading m gives
--   read_cap       bytes past the cap change nothing
--   end_within     which refusals it gives
--   end_not_20     20 is none of them
-- Assumes nothing.
use Rattle.std.specs.Prelude.{Ok, Err}
use mathlib.Core.Path.{◌≡◌, refl, sym, ap, ◌∙◌, subst}
use mathlib.Core.Logic.{◌⊎◌, inl, inr}
use mathlib.Core.Bool.{false}
use mathlib.Core.List.{List}
use Prim.Native.Nat.{ℕ, zero, suc, ◌+◌, ◌%◌, ◌^◌, ◌≤◌, ◌<◌}
use native.Mathlib.Omega.{arith}
use lib.ListN.{length, take, drop, length-take}
use lib.Seq.{take_all}
use borrow.Author.Tests.{lt-leb}
use Rattle.refusals.specs.Limits.{max_volume_length}
use Rattle.refusals.specs.Tests.{bare}
use Rattle.refusals.specs.declared.Refusal.{Refusal}
use Rattle.refusals.proofs.RangeLaws.{Within}
use Rattle.cut_lists.specs.Pieces.{if_zero}
use Rattle.md5_digest.specs.Running.{finished}
use Rattle.md5_digest.proofs.Running.{finish_state}
use Rattle.entries.specs.Walk.{walk_of, refusal_at}
use Rattle.entries.specs.declared.Fault.{Fault}
use Rattle.entries.specs.Walk.{Walked}
use Rattle.entries.proofs.WalkLaws.{fault_range}
use Rattle.par1_rules.specs.Layout.{list_of}
use Rattle.par1_rules.specs.Hashes.{set_hash, control_hash}
use Rattle.par1_rules.specs.Rules.{length_allowed}
use Rattle.par1_rules.proofs.RuleLaws.{too_long}
use Rattle.par1_read.specs.Reading.{header_refusal, refusal_from, saved_in, parts_from, read_from, entries_in, read_of, reading_refusal}
use Rattle.par1_read.specs.Reading.{Reading}
use Rattle.par1_read.proofs.HeaderLaws.{header_alone}
use Rattle.par1_read.proofs.RangeLaws.{from_within}
use Rattle.list_scan.specs.declared.Scan.{Scan}
use Rattle.list_scan.specs.Found.{fault_at, found_of}
use Rattle.list_scan.proofs.WalkLaws.{found_walk, scan_set_hash}
use Rattle.running_read.specs.declared.RunningRead.{RunningRead}
use Rattle.running_read.specs.Running.{cap, reading_of}
use Rattle.running_read.proofs.PartLaws.{order, header_of, header_full}
use Rattle.running_read.proofs.AfterLaws.{job_after, length_list, cap_small}

-- ---- after any bytes

too_short : (n : ℕ) → n < 96 → length_allowed n ≡ false
unfolding length_allowed
too_short n h = simp (lt-leb 96 n h)

-- test 1 comes first
length-refused : (head : List ℕ) (n : ℕ) (digest set : List ℕ) (w : Walked) → length_allowed n ≡ false → read_from head n digest set w ≡ Err (bare 1)
unfolding read_from refusal_from header_refusal
length-refused head n digest set w e = simp e

-- where the header is kept, and zeros where it has not come
kept_header : (m digest set : List ℕ) (w : Walked) → read_from (header_of m) (length m) digest set w ≡ read_from m (length m) digest set w
kept_header m digest set w = by (order (length m) 96)
  where
    by : (length m < 96) ⊎ (96 ≤ length m) → read_from (header_of m) (length m) digest set w ≡ read_from m (length m) digest set w
    by (inl h) = let short = too_short (length m) h in
        length-refused (header_of m) (length m) digest set w short ∙ sym (length-refused m (length m) digest set w short)
    by (inr h) = ap (λ (l : List ℕ). read_from l (length m) digest set w) (header_full m h) ∙ header_alone m (length m) digest set w

parts_same : (h : List ℕ) (n : ℕ) {d e s t : List ℕ} {v w : Walked} → d ≡ e → s ≡ t → v ≡ w → read_from h n d s v ≡ read_from h n e t w
parts_same h n p q r = cc

pub after_end : (m : List ℕ) → length m ≤ cap → reading_of (job_after m) ≡ read_of m
unfolding reading_of job_after read_of
after_end m h = let few = length_list m in
    let small = cap_small in
    parts_same (header_of m) (length m) (finish_state (drop 32 m)) (scan_set_hash (list_of m)) (found_walk (list_of m) (omega arith))
    ∙ kept_header m (control_hash m) (set_hash (entries_in m)) (walk_of (list_of m))

-- ---- past the cap

long_refused : (m : List ℕ) → max_volume_length < length m → read_of m ≡ Err (bare 1)
unfolding read_of
long_refused m h = length-refused m (length m) (control_hash m) (set_hash (entries_in m)) (walk_of (list_of m)) (too_long (length m) h)

module _ (n : ℕ) (h : max_volume_length < n) where
  past : (m : List ℕ) → (n < length m) ⊎ (length m ≤ n) → read_of (take n m) ≡ read_of m
  past m (inl k) = long_refused (take n m) (omega (arith, length-take n m)) ∙ sym (long_refused m (omega arith))
  past m (inr k) = ap read_of (take_all n m k)

cap_long : max_volume_length < cap
unfolding cap
cap_long = omega arith

pub read_cap : (m : List ℕ) → read_of (take cap m) ≡ read_of m
read_cap m = past cap cap_long m (order cap (length m))

-- ---- which refusals it gives

found_within : (sc : Scan) (n : ℕ) → sc.totals.entries ≤ n → (r : Refusal) → found_of sc ≡ Err r → Within (n + 1) r
unfolding found_of
found_within sc n h r e = by sc.at e
  where
    f : Fault
    f = fault_at sc.head sc.at

    place : ℕ
    place = (sc.totals.entries + 1) % 2 ^ 64

    by : (k : ℕ) → if_zero k (Ok sc.totals) (Err (refusal_at f place)) ≡ Err r → Within (n + 1) r
    by zero e = absurd (let z : ◌≡◌ {A = ℕ} 0 1 = cc in omega arith)
    by (suc k) e = let is : refusal_at f place ≡ r = cc in
        subst (Within (n + 1)) is (record { number_most = omega (arith, (fault_range f).1); place_most = omega arith })

from_tells : (head : List ℕ) (n : ℕ) (digest set : List ℕ) (w : Walked) {r : Refusal} → read_from head n digest set w ≡ Err r
    → refusal_from head n digest set w ≡ r
unfolding read_from
from_tells head n digest set w {r} e = by (refusal_from head n digest set w).number e
  where
    by : (k : ℕ) → if_zero k (Ok (parts_from head (saved_in w))) (Err (refusal_from head n digest set w)) ≡ Err r
        → refusal_from head n digest set w ≡ r
    by zero e = absurd (let z : ◌≡◌ {A = ℕ} 0 1 = cc in omega arith)
    by (suc k) e = cc

pub end_within : (j : RunningRead) (n : ℕ) → j.list.totals.entries ≤ n → (r : Refusal) → reading_of j ≡ Err r → Within (n + 1) r
unfolding reading_of
end_within j n h r e =
    subst (Within (n + 1)) (from_tells j.header j.total (finished j.control) (finished j.list.hash) (found_of j.list) e)
    (from_within (n + 1) j.header j.total (finished j.control) (finished j.list.hash) (found_of j.list) (found_within j.list n h))

-- 20 is said of the job, and never of the file
pub end_not_20 : (j : RunningRead) → (reading_refusal (reading_of j)).number ≡ 20 → ⊥
end_not_20 j = by (reading_of j) refl
  where
    by : (r : Reading) → reading_of j ≡ r → (reading_refusal r).number ≡ 20 → ⊥
    by (Ok p) is e = omega arith
    by (Err r) is e = omega (arith, (end_within j j.list.totals.entries (omega arith) r is).number_most)
