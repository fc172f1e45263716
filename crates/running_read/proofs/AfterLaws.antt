-- The job after any bytes.
--
--   job_after m       the job after the bytes m
--   after-start      before any byte
--   length_list      the list in the bytes m is no longer than what they have past the header
--   cap_small        the cap is far below what 64 bits can hold
--   after_push       after a push
-- Assumes nothing.
use mathlib.Core.Path.{◌≡◌, refl, sym, ap, ap₂, ◌∙◌}
use mathlib.Core.Logic.{◌⊎◌, inl, inr}
use mathlib.Core.Bool.{true, false}
use mathlib.Core.List.{List, [], ◌++◌}
use Prim.Native.Nat.{ℕ, ◌+◌, ◌-◌, ◌^◌, ◌≤◌, ◌<◌}
use native.Mathlib.Omega.{arith}
use lib.ListN.{length, take, drop, length-append, length-take, length-drop, drop_of_length-le}
use lib.Seq.{sets, take-nil}
use borrow.Author.Tests.{lt-ltb}
use Rattle.little_endian.proofs.Reading.{le_at-append}
use Rattle.md5_digest.specs.declared.Md5.{Md5}
use Rattle.md5_digest.specs.Running.{state_of, pushed}
use Rattle.md5_digest.proofs.Running.{push_state}
use Rattle.par1_rules.specs.Layout.{list_size_of, list_of}
use Rattle.list_scan.specs.declared.Scan.{Scan}
use Rattle.list_scan.specs.Room as scan
use Rattle.list_scan.specs.Room.{sum_fits, has_room}
use Rattle.list_scan.specs.Scan.{scanned, scan_start}
use Rattle.list_scan.proofs.CountLaws.{counted}
use Rattle.list_scan.proofs.RoomLaws.{pushed_room}
use Rattle.list_scan.proofs.WalkLaws.{scanned-append}
use Rattle.running_read.specs.declared.RunningRead.{RunningRead}
use Rattle.running_read.specs.Running.{cap, start_read, push_of}
use Rattle.running_read.proofs.PartLaws.{order, take_row, drop-row, header_of, header_more, header_size}

unfoldable pub job_after : List ℕ → RunningRead
job_after m = record { total = length m; header = header_of m; control = state_of (drop 32 m); list = scanned scan_start (list_of m); ended = false }

same_job : {a b : ℕ} {h i : List ℕ} {c d : Md5} {s t : Scan} → a ≡ b → h ≡ i → c ≡ d → s ≡ t
    → ◌≡◌ {A = RunningRead} (record { total = a; header = h; control = c; list = s; ended = false })
    (record { total = b; header = i; control = d; list = t; ended = false })
same_job p q r s = cc

pub after-start : start_read ≡ job_after []
unfolding start_read job_after scanned
after-start = same_job refl refl refl (ap (scanned scan_start) (sym (take-nil (list_size_of []))))

-- ---- the list

pub length_list : (m : List ℕ) → length (list_of m) ≤ length m - 96
length_list m = omega (arith, length-take (list_size_of m) (drop 96 m), length-drop 96 m)

-- its size does not matter where it has not begun, and does not change where it has
list_same : (m s : List ℕ) → take (list_size_of (m ++ s)) (drop 96 m) ≡ list_of m
list_same m s = by (order (length m) 96)
  where
    by : (length m < 96) ⊎ (96 ≤ length m) → take (list_size_of (m ++ s)) (drop 96 m) ≡ list_of m
    by (inl h) = let none : drop 96 m ≡ [] = drop_of_length-le m {i = 96} (omega arith) in
        ap (take (list_size_of (m ++ s))) none ∙ take-nil (list_size_of (m ++ s)) ∙ sym (ap (take (list_size_of m)) none ∙ take-nil (list_size_of m))
    by (inr h) = ap (λ (k : ℕ). take k (drop 96 m)) (le_at-append 8 m s 72 (omega arith))

-- of the bytes s, which come after m, those of a list of so many bytes
abbrev list_part : ℕ → List ℕ → List ℕ → List ℕ
list_part size m s = take (size - (length m - 96)) (drop (96 - length m) s)

list_append : (m s : List ℕ) → list_of m ++ list_part (list_size_of (m ++ s)) m s ≡ list_of (m ++ s)
list_append m s = let size : ℕ = list_size_of (m ++ s) in
    let rest : List ℕ = drop (96 - length m) s in
    ap₂ (λ (l : List ℕ) (k : ℕ). l ++ take (size - k) rest) (sym (list_same m s)) (sym (length-drop 96 m))
    ∙ sym (take_row size (drop 96 m) rest) ∙ ap (take size) (sym (drop-row 96 m s))

part_none : (size : ℕ) (m s : List ℕ) → length (m ++ s) < 96 → list_part size m s ≡ []
part_none size m s h =
    ap (take (size - (length m - 96))) (drop_of_length-le s {i = 96 - length m} (omega (arith, length-append m s)))
    ∙ take-nil (size - (length m - 96))

-- the size that the kept header says counts only where all of it has come
size_same : (m s : List ℕ) → list_part (list_size_of (header_of (m ++ s))) m s ≡ list_part (list_size_of (m ++ s)) m s
size_same m s = by (order (length (m ++ s)) 96)
  where
    by : (length (m ++ s) < 96) ⊎ (96 ≤ length (m ++ s)) → list_part (list_size_of (header_of (m ++ s))) m s ≡ list_part (list_size_of (m ++ s)) m s
    by (inl h) = part_none (list_size_of (header_of (m ++ s))) m s h ∙ sym (part_none (list_size_of (m ++ s)) m s h)
    by (inr h) = ap (λ (k : ℕ). list_part k m s) (header_size (m ++ s) h)

-- ---- a push

has_room_lem : (sc : Scan) (n : ℕ) → sc.at + n < 2 ^ 64 → sc.totals.entries + n < 2 ^ 64 → sc.totals.saved + n < 2 ^ 64 → has_room sc n ≡ true
unfolding has_room sum_fits
has_room_lem sc n a b c = simp (lt-ltb _ _ a, lt-ltb _ _ b, lt-ltb _ _ c)

module _ (m s : List ℕ) (short : length m + length s < 2 ^ 58) where
  scan_more : (l : List ℕ) → length l ≤ length s → scan.pushed (scanned scan_start (list_of m)) l ≡ scanned (scanned scan_start (list_of m)) l
  scan_more l few = let listed = length_list m in
      let c = counted (list_of m) (omega arith) in
      pushed_room (scanned scan_start (list_of m)) l
      (has_room_lem (scanned scan_start (list_of m)) (length l) (omega (arith, c.within)) (omega (arith, c.within))
      (omega (arith, c.within, c.saved_most)))

  list_more : scan.pushed (scanned scan_start (list_of m)) (list_part (list_size_of (sets (header_of m) (length m) s)) m s)
      ≡ scanned scan_start (list_of (m ++ s))
  list_more = let size : ℕ = list_size_of (m ++ s) in
      let rest : List ℕ = drop (96 - length m) s in
      let kept = ap (λ (h : List ℕ). list_part (list_size_of h) m s) (header_more m s) ∙ size_same m s in
      ap (scan.pushed (scanned scan_start (list_of m))) kept
      ∙ scan_more (list_part size m s) (omega (arith, length-take (size - (length m - 96)) rest, length-drop (96 - length m) s))
      ∙ sym (scanned-append scan_start (list_of m) (list_part size m s)) ∙ ap (scanned scan_start) (list_append m s)

  control_more : pushed (state_of (drop 32 m)) (drop (32 - length m) s) ≡ state_of (drop 32 (m ++ s))
  control_more = push_state (drop 32 m) (drop (32 - length m) s) ∙ ap state_of (sym (drop-row 32 m s))

pub cap_small : cap < 2 ^ 57
unfolding cap
cap_small = omega arith

pub after_push : (m bs : List ℕ) → length m ≤ cap → push_of (job_after m) bs ≡ job_after (m ++ take (cap - length m) bs)
unfolding push_of job_after
after_push m bs h = let s : List ℕ = take (cap - length m) bs in
    let short : length m + length s < 2 ^ 58 = omega (arith, cap_small, length-take (cap - length m) bs) in
    same_job (sym (length-append m s)) (header_more m s) (control_more m s short) (list_more m s short)
