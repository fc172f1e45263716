-- Runs of bytes, as the code takes them.
--
--   scan_run           the scan after a run is settled once, at its end
--   run_head, run_high, run_low, run_units     runs: of first bytes, of the second or the first byte of a unit, of whole units
--   Kept sc sd s i     the scan sd, i bytes into s, ends as the scan sc before s does, and its counts have room for the rest
--   kept_start, kept_done          before the bytes, and after them all
--   run_fits, run_length           a run at the front of what remains
--   run_ends, run_goes_on          after it, where an entry ends with it or not
-- Assumes nothing.
use Rattle.std.proofs.Common.{◌≡◌, ℕ, suc, ◌+◌, ◌-◌, ◌*◌, ◌%◌, ◌<◌, ◌≤◌, min, Bool, true, false, cond, ◌⊎◌, List, [], ◌∷◌, length, get_or, take, drop, set, sym, refl, ap, ◌∙◌, subst, ap₂, inl, inr, add-one, arith, length-drop, drop_of_length-le, length-take-le, drop-drop}
use lib.Seq.{sets, length-sets}
use Rattle.little_endian.proofs.Stores.{sets_out}
use Rattle.lent_bytes.proofs.PartLaws.{part_to_end}
use Rattle.md5_digest.specs.declared.Md5.{Md5}
use Rattle.entries.specs.Entry.{entry_size, status_of, file_size_of, md5_of, units_of}
use Rattle.entries.specs.Walk.{add_entry}
use Rattle.entries.specs.declared.Totals.{Totals}
use Rattle.par1_rules.specs.Hashes.{hash_entry}
use Rattle.list_scan.specs.declared.NameSoFar.{NameSoFar}
use Rattle.list_scan.specs.declared.Run.{Run}
use Rattle.list_scan.specs.declared.Scan.{Scan}
use Rattle.list_scan.specs.Name.{name_start, name_unit, name_units}
use Rattle.list_scan.specs.Scan.{name_byte, is_whole, scan_with, entry_ended, settled, step_of, scanned}
use Rattle.list_scan.specs.Room.{has_room}
use Rattle.list_scan.specs.Run.{named_after, NoneEnds, IsRun}
use Rattle.list_scan.proofs.NameLaws.{last_or, last_at, byte_low, byte_high, named_head, named_units}
use Rattle.list_scan.proofs.RoomLaws.{Room, room, room_run}
use Rattle.list_scan.proofs.WalkLaws.{scanned_join}
use Rattle.list_scan.proofs.StepLaws.{not_whole}

-- ---- the scan after a run

module _ (t : Totals) (h : Md5) where
  scan_run : (hd : List ℕ) (at low : ℕ) (named : NameSoFar) (l : List ℕ) → 0 < length l → NoneEnds hd at l
      → scanned (scan_with hd at low named t h) l
      ≡ settled (sets hd at l) (at + length l) (last_or low l) (named_after named at low l) t h
  unfolding scanned step_of named_after
  scan_run hd at low named [] some none = absurd (omega arith)
  scan_run hd at low named (b ∷ []) some none = refl
  scan_run hd at low named (b ∷ c ∷ l) some none = let now : NameSoFar = name_byte named at low b in
      let place : at + 1 + length (c ∷ l) ≡ at + length (b ∷ c ∷ l) = omega arith in
      let last : ℕ = last_or low (b ∷ c ∷ l) in
      let all : NameSoFar = named_after named at low (b ∷ c ∷ l) in
      cc (none 1 (omega arith) (omega arith) now, scan_run (set hd at b) (at + 1) b now (c ∷ l) (omega arith) later, add-one at)
    where
      later : NoneEnds (set hd at b) (at + 1) (c ∷ l)
      later k pos less w = let place : at + 1 + k ≡ at + suc k = omega arith in
          cc (add-one at, none (suc k) (omega arith) (omega arith) w)

-- ---- what the code takes

take_one : (s : List ℕ) → 0 < length s → take 1 s ≡ get_or s 0 0 ∷ []
take_one [] h = absurd (omega arith)
take_one (b ∷ s) h = refl

module _ (hd : List ℕ) (at low : ℕ) (named : NameSoFar) (l : List ℕ) (some : 0 < length l) where
  abbrev IsRunOf : ℕ → NameSoFar → Type 0
  IsRunOf n w = IsRun hd at low named l (record { length = n; named = w })

  pub run_head : {n : ℕ} → at < 56 → n ≡ min (56 - at) (length l) → IsRunOf n named
  run_head {n} h e = let size : length (take n l) ≡ n = length-take-le n l (omega arith) in
      record {
        some = omega arith;
        within = omega arith;
        none_ends = λ k pos less w. not_whole _ (at + k) w (λ z. omega (arith, z.low));
        named_is = sym (named_head named at low (take n l) (omega arith));
      }

  -- a single byte
  run_byte : {w : NameSoFar} → w ≡ name_byte named at low (get_or l 0 0) → IsRunOf 1 w
  unfolding named_after
  run_byte e = record {
    some = omega arith;
    within = some;
    none_ends = λ k pos less w. absurd (omega (arith, length-take-le 1 l some));
    named_is = e ∙ ap (named_after named at low) (sym (take_one l some));
  }

  pub run_high : {w : NameSoFar} → 56 ≤ at → at % 2 ≡ 1 → w ≡ name_unit named (low + 256 * get_or l 0 0) → IsRunOf 1 w
  run_high h o e = run_byte (e ∙ sym (byte_high named at low (get_or l 0 0) h o))

  pub run_low : (at % 2 ≡ 1 → ⊥) → IsRunOf 1 named
  run_low h = run_byte (sym (byte_low named at low (get_or l 0 0) h))

  pub run_units : {n size : ℕ} {w : NameSoFar} → length hd ≡ 56 → 56 ≤ at → (at % 2 ≡ 1 → ⊥) → 0 < n → n ≤ length l → n % 2 ≡ 0
      → size ≡ entry_size hd → (size ≤ at) ⊎ (at + n ≤ size + 1) → w ≡ name_units named (units_of (take n l)) → IsRunOf n w
  run_units {n} {size} full h o pos fits whole size_is ends e = let length_is : length (take n l) ≡ n = length-take-le n l fits in
      record {
        some = pos;
        within = fits;
        none_ends = λ k low less w.
            ap (λ (q : List ℕ). is_whole q (at + k) w) (sets_out hd at (take k (take n l)) (omega arith))
            ∙ not_whole hd (at + k) w (λ z. past k (omega arith) (omega arith) z.even (size_is ∙ z.size_is) ends);
        named_is = e ∙ sym (named_units named at low (take n l) h (omega arith) (omega arith));
      }
    where
      past : (k : ℕ) → 0 < k → k < n → (at + k) % 2 ≡ 0 → size ≡ at + k → (size ≤ at) ⊎ (at + n ≤ size + 1) → ⊥
      past k low less even is (inl z) = omega arith
      past k low less even is (inr z) = omega arith

-- ---- the bytes of a chunk, run by run

pub record Kept (sc sd : Scan) (s : List ℕ) (i : ℕ) : Type 0 where
  pub within : i ≤ length s
  pub head_size : length sd.head ≡ 56
  pub room : Room sd (length s - i)
  pub rest : scanned sd (drop i s) ≡ scanned sc s

pub kept_start : (sc : Scan) (s : List ℕ) → length sc.head ≡ 56 → has_room sc (length s) ≡ true → Kept sc sc s 0
kept_start sc s h e = let n : length s ≡ length s - 0 = omega arith in
    record { within = omega arith; head_size = h; room = subst (Room sc) n (room sc (length s) e); rest = refl }

pub kept_done : (sc sd : Scan) (s : List ℕ) (i : ℕ) → length s ≤ i → Kept sc sd s i → sd ≡ scanned sc s
unfolding scanned
kept_done sc sd s i h k = sym (ap (scanned sd) (drop_of_length-le s h)) ∙ k.rest

-- n bytes on
kept_on : (sc sd se : Scan) (s : List ℕ) (i n : ℕ) → i + n ≤ length s → length se.head ≡ 56 → Kept sc sd s i
    → se ≡ scanned sd (take n (drop i s)) → Kept sc se s (i + n)
kept_on sc sd se s i n fits full k e = let l : List ℕ = take n (drop i s) in
    let size : length l ≡ n = length-take-le n (drop i s) (omega (arith, length-drop i s)) in
    let left : length s - i ≡ length l + (length s - (i + n)) = omega arith in
    record {
      within = fits;
      head_size = full;
      room = subst (λ (x : Scan). Room x (length s - (i + n))) (sym e) (room_run sd l (length s - (i + n)) (subst (Room sd) left k.room));
      rest = ap₂ scanned e (sym (drop-drop n i s)) ∙ sym (scanned_join sd n (drop i s)) ∙ k.rest;
    }

-- a run at the front of what remains
module _ (sc : Scan) (s : List ℕ) (i : ℕ) {hd : List ℕ} {at low : ℕ} {named : NameSoFar} {t : Totals} {h : Md5}
    (k : Kept sc (scan_with hd at low named t h) s i) {r : Run} (run : IsRun hd at low named (take (length s - i) (drop i s)) r) where
  abbrev taken : List ℕ
  taken = take r.length (take (length s - i) (drop i s))

  pub run_fits : i + r.length ≤ length s
  run_fits = omega (arith, k.within, run.within, ap length (part_to_end s i), length-drop i s)

  pub run_length : length (take r.length (take (length s - i) (drop i s))) ≡ r.length
  run_length = length-take-le r.length (take (length s - i) (drop i s)) run.within

  module _ {head : List ℕ} {w : Bool} (head_is : head ≡ sets hd at (take r.length (take (length s - i) (drop i s))))
      (test : w ≡ is_whole head (at + r.length) r.named) where
    abbrev ended : Bool → Scan
    ended x = cond x (entry_ended head t h) (scan_with head (at + r.length) (last_or low taken) r.named t h)

    run_is : scanned (scan_with hd at low named t h) taken ≡ ended w
    run_is = let last : ℕ = last_or low taken in
        scan_run t h hd at low named taken (omega (arith, run_length, run.some)) run.none_ends
        ∙ ap₂ (λ (q : List ℕ) (n : ℕ). settled q (at + n) last (named_after named at low taken) t h) (sym head_is) run_length
        ∙ ap (λ (m : NameSoFar). settled head (at + r.length) last m t h) (sym run.named_is) ∙ ap ended (sym test)

    kept_run : {x : Bool} {se : Scan} → w ≡ x → se.head ≡ head → se ≡ ended x → Kept sc se s (i + r.length)
    kept_run {x} {se} tested same e =
        kept_on sc (scan_with hd at low named t h) se s i r.length run_fits
        (ap length (same ∙ head_is) ∙ length-sets hd at taken ∙ k.head_size) k
        (e ∙ ap ended (sym tested) ∙ sym run_is
        ∙ ap (λ (q : List ℕ). scanned (scan_with hd at low named t h) (take r.length q)) (part_to_end s i))

    pub run_ends : {u : Totals} {g : Md5} → w ≡ true → u ≡ add_entry t (status_of head) (file_size_of head)
        → g ≡ hash_entry h (status_of head) (md5_of head) → Kept sc (scan_with head 0 0 name_start u g) s (i + r.length)
    unfolding entry_ended
    run_ends ends totals_is hash_is = kept_run ends refl (ap₂ (λ (u : Totals) (g : Md5). scan_with head 0 0 name_start u g) totals_is hash_is)

    pub run_goes_on : w ≡ false
        → Kept sc (scan_with head (at + r.length) (get_or (take r.length (take (length s - i) (drop i s))) (r.length - 1) 0) r.named t h) s
        (i + r.length)
    run_goes_on goes_on =
        let last : get_or taken (r.length - 1) 0 ≡ last_or low taken =
        ap (λ (n : ℕ). get_or taken (n - 1) 0) (sym run_length) ∙ last_at low taken (omega (arith, run_length, run.some)) in
        kept_run goes_on refl (ap (λ (b : ℕ). scan_with head (at + r.length) b r.named t h) last)
