-- The counts of a scan.
--
--   Counted sc n      the counts of the scan sc are those of a scan over n bytes
--   counted           they are so after any bytes; WitnessLaws has bytes for all such counts
-- Assumes nothing.
use Rattle.std.proofs.Common.{◌≡◌, ℕ, suc, ◌+◌, ◌*◌, ◌^◌, ◌<◌, ◌≤◌, Bool, true, false, cond, List, [], ◌∷◌, length, drop, set, refl, ◌∙◌, subst, arith, length-drop, length-set, length-take-le}
use Rattle.md5_digest.specs.declared.Md5.{Md5}
use Rattle.md5_digest.specs.Running.{state_of, pushed}
use Rattle.entries.specs.Entry.{is_saved, status_of, md5_of}
use Rattle.entries.specs.Walk.{add_entry}
use Rattle.list_scan.specs.declared.Scan.{Scan}
use Rattle.list_scan.specs.Scan.{name_byte, entry_ended, step_of, scanned, scan_start}
use Rattle.list_scan.proofs.StepLaws.{settled_either}

pub record Counted (sc : Scan) (n : ℕ) : Type 0 where
  pub head_size : length sc.head ≡ 56
  pub saved_most : sc.totals.saved ≤ sc.totals.entries
  pub hash_total : sc.hash.total ≡ 16 * sc.totals.saved
  pub within : sc.at + 58 * sc.totals.entries ≤ n

-- ---- a step

hash_more : (b : Bool) (h : Md5) (m : List ℕ) (saved : ℕ) → length m ≡ 16 → h.total ≡ 16 * saved → 16 * saved + 16 < 2 ^ 64
    → (cond b (pushed h m) h).total ≡ 16 * (saved + cond b 1 0)
unfolding pushed
hash_more true h m saved size e fits = omega arith
hash_more false h m saved size e fits = omega arith

saved_more : (b : Bool) (saved entries : ℕ) → saved ≤ entries → saved + cond b 1 0 ≤ entries + 1
saved_more true saved entries h = omega arith
saved_more false saved entries h = omega arith

counted_step : (sc : Scan) (b n : ℕ) → Counted sc n → n < 2 ^ 58 → Counted (step_of sc b) (n + 1)
unfolding step_of entry_ended add_entry
counted_step sc b n k small = let head : List ℕ = set sc.head sc.at b in
    let saved : Bool = is_saved (status_of head) in
    let size : length head ≡ 56 = length-set sc.head sc.at b ∙ k.head_size in
    let md5_size : length (md5_of head) ≡ 16 = length-take-le 16 (drop 24 head) (omega (arith, length-drop 24 head)) in
    settled_either (λ sd. Counted sd (n + 1)) head (sc.at + 1) b (name_byte sc.named sc.at sc.low b) sc.totals sc.hash
    (λ low.
    record {
      head_size = size;
      saved_most = saved_more saved sc.totals.saved sc.totals.entries k.saved_most;
      hash_total = hash_more saved sc.hash (md5_of head) sc.totals.saved md5_size k.hash_total (omega (arith, k.saved_most, k.within));
      within = omega (arith, k.within);
    })
    (record { head_size = size; saved_most = k.saved_most; hash_total = k.hash_total; within = omega (arith, k.within) })

counted_scan : (l : List ℕ) (sc : Scan) (n : ℕ) → Counted sc n → n + length l < 2 ^ 58 → Counted (scanned sc l) (n + length l)
unfolding scanned
counted_scan [] sc n k small = subst (Counted sc) (let e : n ≡ n + 0 = omega arith in e) k
counted_scan (b ∷ l) sc n k small = let e : n + 1 + length l ≡ n + suc (length l) = omega arith in
    subst (Counted _) e (counted_scan l (step_of sc b) (n + 1) (counted_step sc b n k (omega arith)) (omega arith))

counted_start : Counted scan_start 0
unfolding scan_start state_of
counted_start = record { head_size = refl; saved_most = omega arith; hash_total = refl; within = omega arith }

-- a list of 2^58 bytes or more may have so many saved entries that the count of the bytes hashed begins again
pub counted : (l : List ℕ) → length l < 2 ^ 58 → Counted (scanned scan_start l) (length l)
counted l small = let e : 0 + length l ≡ length l = omega arith in
    subst (Counted _) e (counted_scan l scan_start 0 counted_start (omega arith))
