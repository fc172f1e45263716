-- The scan over a list is the walk over it.
--
--   scanned-append     bytes that come in two parts
--   scanned_join       the first n bytes, and the others
--   runs               bytes that end no entry leave the scan amid one
--   entry_scan         the bytes of an entry
--   start_amid         before any byte
--   found_walk         the scan over a list finds what the walk over it finds
--   scan_set_hash      its hash ends in the set hash
-- Assumes nothing.
use Rattle.std.specs.Prelude.{Some, None, Ok, Err}
use Rattle.std.proofs.Common.{◌≡◌, ℕ, zero, suc, ◌+◌, ◌%◌, ◌^◌, ◌<◌, ◌≤◌, true, false, List, [], ◌∷◌, ◌++◌, length, get_or, take, drop, sym, refl, ap, ◌∙◌, subst, append_assoc, append-nil, le_refl, arith, length-append, length-drop, take-append-drop, length-take-le, take-suc}
use mathlib.Core.List.{foldl, foldl-append}
use Rattle.computed_tests.proofs.Tests.{test_fails}
use Rattle.cut_lists.specs.Pieces.{Cut}
use Rattle.cut_lists.proofs.CutLaws.{if_zero_pos, cut-none, cut_stop}
use Rattle.md5_digest.specs.declared.Md5.{Md5}
use Rattle.md5_digest.specs.Running.{state_of, finished}
use Rattle.entries.specs.Entry.{status_of, file_size_of, md5_of, units_of, length_of}
use Rattle.entries.specs.Walk.{Item, fault_of, refusal_at, first_of, entries_of, add_entry, walk_of}
use Rattle.entries.specs.declared.Fault.{Fault}
use Rattle.entries.specs.declared.Totals.{Totals}
use Rattle.entries.proofs.EntryLaws.{IsEntry, IsFault, is_end, is_entry, is_fault}
use Rattle.entries.proofs.FirstFaults.{keeps_first, kept_length}
use Rattle.entries.proofs.WalkLaws.{walk_from, walk_start, walk_more, walk_end, walk_fault, add_added}
use Rattle.par1_rules.specs.Hashes.{set_hash, hash_entry}
use Rattle.par1_rules.proofs.HashLaws.{pushed_over, set-start, set_more, set-none}
use Rattle.list_scan.specs.declared.Scan.{Scan}
use Rattle.list_scan.specs.Scan.{step_of, scanned, scan_start}
use Rattle.list_scan.specs.Found.{found_of}
use Rattle.list_scan.proofs.Amid.{whole, whole_keeps, keeps_whole, Amid, step_more, step_whole, fault_is}

pub scanned-append : (sc : Scan) (l m : List ℕ) → scanned sc (l ++ m) ≡ scanned (scanned sc l) m
unfolding scanned
scanned-append sc l m = foldl-append step_of sc l m

pub scanned_join : (sc : Scan) (n : ℕ) (s : List ℕ) → scanned sc s ≡ scanned (scanned sc (take n s)) (drop n s)
scanned_join sc n s = ap (scanned sc) (sym (take-append-drop n s)) ∙ scanned-append sc (take n s) (drop n s)

-- ---- bytes that end no entry

not_whole : (s p r : List ℕ) → s ≡ p ++ r → (length_of s ≡ length p → ⊥) → whole p ≡ false
not_whole s p r e h = test_fails (whole p) (λ w. h (ap length_of e ∙ (kept_length (whole_keeps w) r).0))

module _ {t : Totals} {h : Md5} (s : List ℕ) where
  pub runs : (p q r : List ℕ) {sc : Scan} → s ≡ p ++ (q ++ r) → ((j : ℕ) → 0 < j → j ≤ length p + length q → length_of s ≡ j → ⊥)
      → Amid t h p sc → Amid t h (p ++ q) (scanned sc q)
  unfolding scanned
  runs p [] r {sc} e later m = subst (λ (l : List ℕ). Amid t h l sc) (sym (append-nil p)) m
  runs p (b ∷ q) r {sc} e later m = let l : List ℕ = p ++ (b ∷ []) in
      let size : length l ≡ length p + 1 = length-append p (b ∷ []) in
      let cut : s ≡ l ++ (q ++ r) = e ∙ sym (append_assoc p (b ∷ []) (q ++ r)) in
      let w : whole l ≡ false = not_whole s l (q ++ r) cut (later (length l) (omega arith) (omega arith)) in
      subst (λ (k : List ℕ). Amid t h k (foldl step_of (step_of sc b) q)) (append_assoc p (b ∷ []) q)
      (runs l q r cut (λ j pos up. later j pos (omega arith)) (step_more m b w))

-- ---- the bytes of an entry

entry_whole : {s : List ℕ} {n status size : ℕ} → IsEntry s n status size → whole (take n s) ≡ true
entry_whole {s} i = let k = keeps_first s (omega (arith, i.low, i.high)) (omega (arith, i.low, i.length_is)) in
    ap (λ (n : ℕ). whole (take n s)) (sym i.length_is) ∙ keeps_whole k

pub entry_scan : {t : Totals} {h : Md5} {sc : Scan} {s : List ℕ} (n : ℕ) {status size : ℕ} → IsEntry s n status size → Amid t h [] sc
    → Amid (add_entry t status size) (hash_entry h status (md5_of (take n s))) [] (scanned sc (take n s))
unfolding scanned
entry_scan {t} {h} {sc} {s} zero i m = absurd (omega (arith, i.low))
entry_scan {t} {h} {sc} {s} (suc j) {status} {size} i m = let b : ℕ = get_or s j 0 in
    let p : List ℕ = take j s in
    let e : take (suc j) s ≡ p ++ (b ∷ []) = take-suc s j 0 (omega (arith, i.high)) in
    let short : length p ≡ j = length-take-le j s (omega (arith, i.high)) in
    let amid : Amid t h p (foldl step_of sc p) =
    runs s [] p (drop j s) (sym (take-append-drop j s)) (λ k pos up is. omega (arith, i.length_is)) m in
    let done = step_whole amid b (ap whole (sym e) ∙ entry_whole i) in
    let all : foldl step_of sc (take (suc j) s) ≡ step_of (foldl step_of sc p) b = ap (foldl step_of sc) e ∙ foldl-append step_of sc p (b ∷ []) in
    let after : Scan = foldl step_of sc (take (suc j) s) in
    rw (i.status_is, i.size_is)
    (subst (λ (l : List ℕ). Amid (add_entry t (status_of l) (file_size_of l)) (hash_entry h (status_of l) (md5_of l)) [] after) (sym e)
    (subst (Amid _ _ []) (sym all) done))

-- ---- what is found at the end of the list

found_end : {t : Totals} {h : Md5} {sc : Scan} → Amid t h [] sc → found_of sc ≡ Ok t
unfolding found_of
found_end m = simp (m.at_is, m.totals_is)

found_amid : {t : Totals} {h : Md5} {p : List ℕ} {sc : Scan} → Amid t h p sc → 0 < length p → t.entries + 1 < 2 ^ 64
    → found_of sc ≡ Err (refusal_at (fault_of p) (t.entries + 1))
unfolding found_of
found_amid {t} {h} {p} {sc} m some fits =
    let place : (sc.totals.entries + 1) % 2 ^ 64 ≡ t.entries + 1 =
    ap (λ (u : Totals). (u.entries + 1) % 2 ^ 64) m.totals_is ∙ omega arith in
    cc (if_zero_pos sc.at _ _ (omega (arith, m.at_is)), fault_is m)

-- ---- the whole list

-- the scan sc, which stands between two entries, after the list s: what it finds and hashes is what the totals t and the hash h before s become
record Ended (t : Totals) (h : Md5) (s : List ℕ) (sc : Scan) : Type 0 where
  walk_is : t.entries + length s < 2 ^ 64 → found_of (scanned sc s) ≡ walk_from t (entries_of s)
  hash_is : (scanned sc s).hash ≡ pushed_over h (entries_of s).pieces

scanned-none : (sc : Scan) {s : List ℕ} → s ≡ [] → scanned sc s ≡ sc
unfolding scanned
scanned-none sc e = ap (scanned sc) e

module _ {t : Totals} {h : Md5} {sc : Scan} (m : Amid t h [] sc) {s : List ℕ} where
  ended-none : s ≡ [] → Ended t h s sc
  ended-none e =
      let none : (entries_of s).pieces ≡ [] = ap (λ (l : List ℕ). (entries_of l).pieces) e ∙ ap (λ (c : Cut). c.pieces) (cut-none length_of) in
      record {
        walk_is = λ fits. ap found_of (scanned-none sc e) ∙ found_end m ∙ sym (walk_end t e);
        hash_is = ap (λ (k : Scan). k.hash) (scanned-none sc e) ∙ m.hash_is ∙ sym (set-none h none);
      }

  ended_fault : {f : Fault} → IsFault s f → Ended t h s sc
  ended_fault i =
      let amid : Amid t h s (scanned sc s) = runs s [] s [] (sym (append-nil s)) (λ j pos up is. omega (arith, i.length_zero)) m in
      let none : (entries_of s).pieces ≡ [] = ap (λ (c : Cut). c.pieces) (cut_stop length_of s i.length_zero) in
      record {
        walk_is = λ fits.
            found_amid amid i.some (omega (arith, i.some))
            ∙ ap (λ (f : Fault). Err (refusal_at f (t.entries + 1))) (sym i.fault_is) ∙ sym (walk_fault t i);
        hash_is = amid.hash_is ∙ sym (set-none h none);
      }

  ended_more : {n status size : ℕ} → IsEntry s n status size
      → ((u : Totals) (g : Md5) (sd : Scan) → Amid u g [] sd → Ended u g (drop n s) sd) → Ended t h s sc
  ended_more {n} {status} {size} i rest = let r = rest _ _ (scanned sc (take n s)) (entry_scan n i m) in
      record {
        walk_is = λ fits.
            let less : (add_entry t status size).entries + length (drop n s) < 2 ^ 64 =
            omega (arith, length-drop n s, i.low, i.high, (add_added t status size).entries_is) in
            ap found_of (scanned_join sc n s) ∙ r.walk_is less ∙ walk_more t i;
        hash_is = ap (λ (k : Scan). k.hash) (scanned_join sc n s) ∙ r.hash_is ∙ set_more h i;
      }

abbrev AllEnded : List ℕ → Type 0
AllEnded s = (t : Totals) (h : Md5) (sc : Scan) → Amid t h [] sc → Ended t h s sc

ended_by : (s : List ℕ) (i : Item) → i ≡ first_of s → ((k : ℕ) → 58 ≤ k → k ≤ length s → AllEnded (drop k s)) → AllEnded s
ended_by s (Ok None) is rest t h sc m = ended-none m (is_end is)
ended_by s (Err f) is rest t h sc m = ended_fault m (is_fault is)
ended_by s (Ok (Some e)) is rest t h sc m = let i = is_entry is in ended_more m i (rest e.length i.low i.high)

ended_in : (n : ℕ) (s : List ℕ) → length s ≤ n → AllEnded s
ended_in zero s bound = ended_by s (first_of s) refl (λ k low high. absurd (omega arith))
ended_in (suc n) s bound = ended_by s (first_of s) refl (λ k low high. ended_in n (drop k s) (omega (arith, length-drop k s)))

-- ---- from the start

abbrev none : Totals
none = record { entries = 0; saved = 0; greatest = 0 }

pub start_amid : Amid (record { entries = 0; saved = 0; greatest = 0 }) (state_of []) [] scan_start
unfolding scan_start units_of
start_amid = record { at_is = refl; low_is = refl; named_is = refl; totals_is = refl; hash_is = refl; head_size = refl; head_is = refl }

start-ended : (s : List ℕ) → Ended none (state_of []) s scan_start
start-ended s = ended_in (length s) s (le_refl (length s)) none (state_of []) scan_start start_amid

-- the totals, or the number and the place of the refusal, for which 64 bits are enough
pub found_walk : (s : List ℕ) → length s < 2 ^ 64 → found_of (scanned scan_start s) ≡ walk_of s
found_walk s fits = (start-ended s).walk_is (omega arith) ∙ walk_start s

pub scan_set_hash : (s : List ℕ) → finished (scanned scan_start s).hash ≡ set_hash (entries_of s).pieces
scan_set_hash s = ap finished (start-ended s).hash_is ∙ set-start (entries_of s).pieces
