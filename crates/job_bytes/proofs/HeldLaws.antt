-- Bytes can hold a running read after any bytes.
--
--   held_after     the job after bytes
-- Assumes nothing.
use mathlib.Core.Path.{◌≡◌, refl, ◌∙◌}
use mathlib.Core.Bool.{Bool, true, false, cond}
use mathlib.Core.List.{List, [], ◌∷◌, ◌++◌}
use Prim.Native.Nat.{ℕ, zero, suc, ◌+◌, ◌-◌, ◌/◌, ◌^◌, ◌≤◌, ◌<◌, max}
use native.Mathlib.Omega.{arith}
use borrow.Author.Tests.{leb-true}
use lib.Dec.{eqb}
use lib.ListN.{length, take, drop, replicate, set, length-append, length-replicate, length-set}
use lib.Seq.{length-sets}
use Rattle.computed_tests.proofs.Tests.{and_both}
use Rattle.entries.specs.Entry.{entry_size, status_of, file_size_of, md5_of, is_saved, is_counted, file_size_allowed, entry_size_allowed}
use Rattle.entries.specs.Walk.{add_entry}
use Rattle.entries.specs.declared.Totals.{Totals}
use Rattle.list_scan.specs.declared.NameSoFar.{NameSoFar}
use Rattle.list_scan.specs.declared.Scan.{Scan}
use Rattle.list_scan.specs.Scan.{name_byte, is_whole, scan_with, entry_ended, step_of, scanned, scan_start}
use Rattle.list_scan.proofs.CountLaws.{counted}
use Rattle.little_endian.specs.Bytes.{Bytes}
use Rattle.little_endian.proofs.Numbers.{bytes_take, bytes_drop}
use Rattle.md5_digest.specs.declared.Md5.{Md5}
use Rattle.md5_digest.specs.Digest.{start}
use Rattle.md5_digest.specs.Running.{state_after, state_of, waiting, pushed}
use Rattle.md5_blocks.specs.declared.rounds.Words.{Words}
use Rattle.md5_blocks.specs.Blocks.{compress, blocks_of, rest}
use Rattle.md5_blocks.proofs.BlockLaws.{length_rest}
use Rattle.par1_rules.specs.Layout.{list_size_of, list_of}
use Rattle.running_read.specs.Running.{cap}
use Rattle.running_read.proofs.AfterLaws.{job_after, length_list, cap_small}
use Rattle.job_bytes.specs.Claim.{HeldMd5, HeldScan, HeldRead}

-- ---- a hash

record WordsFit (w : Words) : Type 0 where
  a_fits : w.a < 2 ^ 32
  b_fits : w.b < 2 ^ 32
  c_fits : w.c < 2 ^ 32
  d_fits : w.d < 2 ^ 32

compress_fits : (w : Words) (s : List ℕ) → WordsFit (compress w s)
unfolding compress
compress_fits w s = record { a_fits = omega arith; b_fits = omega arith; c_fits = omega arith; d_fits = omega arith }

blocks_fit : (n : ℕ) (w : Words) (m : List ℕ) → WordsFit w → WordsFit (blocks_of n w m)
unfolding blocks_of
blocks_fit zero w m h = h
blocks_fit (suc n) w m h = blocks_fit n (compress w (take 64 m)) (drop 64 m) (compress_fits w (take 64 m))

start_fits : WordsFit start
unfolding start
start_fits = record { a_fits = omega arith; b_fits = omega arith; c_fits = omega arith; d_fits = omega arith }

state_held : (w : Words) (m : List ℕ) (n : ℕ) → WordsFit w → HeldMd5 (state_after w m n)
state_held w m n h = let k = blocks_fit (length m / 64) w m h in
    let zeros : length (replicate {A = ℕ} (64 - length (rest m)) 0) ≡ 64 - length (rest m) = length-replicate {A = ℕ} (64 - length (rest m)) 0 in
    record {
      a_fits = k.a_fits;
      b_fits = k.b_fits;
      c_fits = k.c_fits;
      d_fits = k.d_fits;
      tail_size = length-append (rest m) (replicate (64 - length (rest m)) 0) ∙ omega (arith, length_rest m);
      total_fits = omega arith;
    }

held_fits : (h : Md5) → HeldMd5 h → WordsFit h.words
held_fits h k = record { a_fits = k.a_fits; b_fits = k.b_fits; c_fits = k.c_fits; d_fits = k.d_fits }

state_of_held : (m : List ℕ) → HeldMd5 (state_of m)
unfolding state_of
state_of_held m = state_held start m (length m) start_fits

pushed_held : (h : Md5) (bs : List ℕ) → HeldMd5 h → HeldMd5 (pushed h bs)
unfolding pushed
pushed_held h bs k = state_held h.words (waiting h ++ bs) (h.total + length bs) (held_fits h k)

-- ---- a scan

record Kept (sc : Scan) : Type 0 where
  head_size : length sc.head ≡ 56
  low_fits : sc.low < 256
  greatest_most : sc.totals.greatest ≤ 16777216
  hash_held : HeldMd5 sc.hash

kept_start : Kept scan_start
unfolding scan_start
kept_start = record { head_size = refl; low_fits = omega arith; greatest_most = omega arith; hash_held = state_of_held [] }

entry_hash : (b : Bool) (h : Md5) (m : List ℕ) → HeldMd5 h → HeldMd5 (cond b (pushed h m) h)
entry_hash true h m k = pushed_held h m k
entry_hash false h m k = k

entry-greatest : (b : Bool) (g n : ℕ) → g ≤ 16777216 → n ≤ 16777216 → cond b (max g n) g ≤ 16777216
entry-greatest true g n h k = omega arith
entry-greatest false g n h k = h

-- an entry that ends has a size that is allowed
whole_size : (head : List ℕ) (at : ℕ) (named : NameSoFar) → is_whole head at named ≡ true → file_size_of head ≤ 16777216
unfolding is_whole
whole_size head at named e = let one = and_both (eqb (entry_size head) at) _ e in
    let two = and_both (entry_size_allowed at at) _ one.1 in
    leb-true _ _ (and_both (file_size_allowed (file_size_of head)) _ two.1).0

ended_kept : (head : List ℕ) (t : Totals) (h : Md5) → length head ≡ 56 → t.greatest ≤ 16777216 → file_size_of head ≤ 16777216 → HeldMd5 h
    → Kept (entry_ended head t h)
unfolding entry_ended add_entry
ended_kept head t h size g f k = record {
  head_size = size;
  low_fits = omega arith;
  greatest_most = entry-greatest (is_counted (status_of head)) t.greatest (file_size_of head) g f;
  hash_held = entry_hash (is_saved (status_of head)) h (md5_of head) k;
}

kept_step : (sc : Scan) (b : ℕ) → b < 256 → Kept sc → Kept (step_of sc b)
unfolding step_of
kept_step sc b h k = by (is_whole head at named) refl
  where
    head : List ℕ
    head = set sc.head sc.at b

    at : ℕ
    at = sc.at + 1

    named : NameSoFar
    named = name_byte sc.named sc.at sc.low b

    size : length head ≡ 56
    size = length-set sc.head sc.at b ∙ k.head_size

    by : (w : Bool) → is_whole head at named ≡ w → Kept (cond w (entry_ended head sc.totals sc.hash) (scan_with head at b named sc.totals sc.hash))
    by true e = ended_kept head sc.totals sc.hash size k.greatest_most (whole_size head at named e) k.hash_held
    by false e = record { head_size = size; low_fits = h; greatest_most = k.greatest_most; hash_held = k.hash_held }

kept_scan : (l : List ℕ) (sc : Scan) → Bytes l → Kept sc → Kept (scanned sc l)
unfolding scanned
kept_scan [] sc h k = k
kept_scan (b ∷ l) sc h k = kept_scan l (step_of sc b) (λ p. h (suc p)) (kept_step sc b (h 0) k)

scan_held : (l : List ℕ) → Bytes l → length l < 2 ^ 58 → HeldScan (scanned scan_start l)
scan_held l h few = let k = kept_scan l scan_start h kept_start in
    let c = counted l few in
    record {
      head_size = k.head_size;
      at_fits = omega (arith, c.within);
      low_fits = k.low_fits;
      entries_fit = omega (arith, c.within);
      saved_fit = omega (arith, c.within, c.saved_most);
      greatest_fits = omega (arith, k.greatest_most);
      hash_held = k.hash_held;
    }

-- ---- a job

pub held_after : (m : List ℕ) → Bytes m → length m ≤ cap → HeldRead (job_after m)
unfolding job_after
held_after m h few = let small = cap_small in
    let listed = length_list m in
    record {
      total_fits = omega arith;
      header_size = length-sets (replicate 96 0) 0 m;
      control_held = state_of_held (drop 32 m);
      list_held = scan_held (list_of m) (bytes_take (list_size_of m) (drop 96 m) (bytes_drop 96 m h)) (omega arith);
    }
